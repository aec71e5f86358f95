-- How many places the bits of costs span: so many leave room for exact sums of prices, or more.
-- Source: own
use Rattle.std.specs.Prelude.{◌≡◌, ℕ, ◌+◌, ◌-◌, ◌<◌, ◌%◌, ◌^◌, IfSome, unsigned_abs}
use Rattle.mcf_matrix.specs.Costs.{Costs, IsPlace}
use Rattle.mcf_matrix_doubles.specs.declared.span.TheConstants.{EXACT_BITS}

-- all costs are multiples of 2^low
abbrev pub AreMultiples : ℕ → Costs → Type 0
AreMultiples low m = (i j : ℕ) → IsPlace m i j → IfSome (m.cost i j) (λ c. unsigned_abs c % 2 ^ low ≡ 0)

-- all costs are less than 2^top from 0
abbrev pub AreWithin : ℕ → Costs → Type 0
AreWithin top m = (i j : ℕ) → IsPlace m i j → IfSome (m.cost i j) (λ c. unsigned_abs c < 2 ^ top)

-- the bits of the costs span 118 places at most: all are multiples of 2^low, and less than 2^118
-- times it from 0
pub record IsNarrow (m : Costs) : Type 0 where
  pub low : ℕ
  pub multiples : AreMultiples low m
  pub within : AreWithin (low + EXACT_BITS) m

-- the bits of the costs span more, as 2^unit shows: not all costs are multiples of it, and not all
-- are less than 2^117 times it from 0
pub record IsWide (unit : ℕ) (m : Costs) : Type 0 where
  pub finer : ¬ AreMultiples unit m
  pub greater : ¬ AreWithin (unit + (EXACT_BITS - 1)) m
