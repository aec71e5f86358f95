-- Offers on a stack.
use Rattle.std.specs.Prelude.{List, ◌≤ℤ◌}
use Rattle.std.specs.List.{AllPairs}
use Rattle.mcf_offers.specs.Offers.{Offer}

-- none is farther than those below it: the last is the nearest
abbrev pub IsStack : List Offer → Type 0
IsStack = AllPairs (λ below o. o.dist ≤ℤ below.dist)
