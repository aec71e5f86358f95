-- The amounts of a state as they are stored: in a byte each where no width is above 1, or in eight.
use Rattle.std.specs.Prelude.{ℕ, List, ℤ, map, pos, ◌≤ℤ◌}
use Rattle.std.specs.List.{All}
use Rattle.mcf_flows.specs.declared.arc.Arc.{Arc}
use Rattle.mcf_network.specs.declared.amounts.Amounts.{Amounts}
use Rattle.mcf_network.specs.declared.amounts.Amounts.TheVariants.{Small, Large}
use Rattle.mcf_network.specs.Nets.{width_limit}

-- both forms hold the amounts themselves
abbrev pub amounts_in : Amounts → List ℤ
amounts_in (Small bytes) = map pos bytes.items
amounts_in (Large amounts) = amounts.items

-- the greatest number of a byte
abbrev pub small_limit : ℕ
small_limit = 255

-- the greatest amount that a form has to take
abbrev pub limit_of : Amounts → ℕ
limit_of (Small bytes) = small_limit
limit_of (Large amounts) = width_limit

-- no arc has a width above this
abbrev pub HaveWidthsUpTo : ℕ → List Arc → Type 0
HaveWidthsUpTo limit arcs = All (λ a. a.cap ≤ℤ pos limit) arcs
