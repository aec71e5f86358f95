-- The prices of a basis as they are stored: in 64 bits, or in 128.
use Rattle.std.specs.Prelude.{ℕ, ◌+◌, List, map, ℤ}
use Rattle.mcf_basis.specs.declared.price_table.PriceColumn.{PriceColumn}
use Rattle.mcf_basis.specs.declared.price_table.PriceColumn.TheVariants.{Narrow, Wide}
use Rattle.mcf_basis.specs.Private.Gaps.{price_by}
use Rattle.mcf_basis.specs.Private.Layouts.{narrow_limit}
use Rattle.mcf_basis.specs.Structures.{price_limit}

-- those of 64 bits may be stored nearer to 0 than they lie
abbrev pub prices_in : PriceColumn → List ℤ
prices_in (Narrow prices gap) = map (price_by gap) prices.entries
prices_in (Wide prices) = prices.entries

-- how often a price was written
abbrev pub priced_in : PriceColumn → ℕ
priced_in (Narrow prices gap) = prices.written
priced_in (Wide prices) = prices.written

-- the greatest size of a price for which there is room
abbrev pub limit_of : PriceColumn → ℕ
limit_of (Narrow prices gap) = narrow_limit + gap
limit_of (Wide prices) = price_limit

-- by how much prices are stored nearer to 0
abbrev pub gap_of : PriceColumn → ℕ
gap_of (Narrow prices gap) = gap
gap_of (Wide prices) = 0
