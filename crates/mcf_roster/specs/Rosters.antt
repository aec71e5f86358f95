-- Rosters: which persons may take which things, and how many of them. No network is named here.
-- Source: own
use Rattle.std.specs.Prelude.{◌≡◌, ℕ, ◌-◌, ◌==◌, Bool, List, [], ◌∷◌, length, ℤ, pos, ◌+ℤ◌, ◌≤ℤ◌, slice_index_or}
use Rattle.mcf_flows.specs.Network.{IsNode, when}
use Rattle.mcf_roster.specs.declared.pairs.Pair.{Pair}
use Rattle.mcf_roster.specs.declared.pairs.Range.{Range}

-- ---- rosters

-- how many things each person takes, how many persons each thing needs, and the pairs of a person
-- and a thing that may be chosen; persons and things count from 1
pub record Roster : Type 0 where
  pub takes : List Range
  pub needs : List Range
  pub pairs : List Pair

-- the range of the person or the thing with a number
abbrev pub range_at : List Range → ℕ → Range
range_at ranges v = slice_index_or ranges (v - 1) (record { least = 0; most = 0 })

-- ---- choices: a list of tests, one for each pair

-- a sum over the chosen pairs
abbrev pub chosen_sum : (Pair → ℤ) → List Pair → List Bool → ℤ
chosen_sum term [] chosen = pos 0
chosen_sum term (p ∷ pairs) [] = pos 0
chosen_sum term (p ∷ pairs) (c ∷ chosen) = when c (term p) +ℤ chosen_sum term pairs chosen

-- how many things a person takes
abbrev pub taken_by : Roster → List Bool → ℕ → ℤ
taken_by R chosen v = chosen_sum (λ p. when (p.who == v) (pos 1)) R.pairs chosen

-- how many persons take a thing
abbrev pub takers_of : Roster → List Bool → ℕ → ℤ
takers_of R chosen v = chosen_sum (λ p. when (p.what == v) (pos 1)) R.pairs chosen

-- what the chosen pairs cost
abbrev pub value : Roster → List Bool → ℤ
value R chosen = chosen_sum (λ p. p.cost) R.pairs chosen

-- a number within a range
pub record IsInRange (r : Range) (count : ℤ) : Type 0 where
  pub enough : pos r.least ≤ℤ count
  pub not_too_many : count ≤ℤ pos r.most

-- each person takes as many things, and each thing is taken by as many persons, as the ranges say
pub record IsChoice (R : Roster) (chosen : List Bool) : Type 0 where
  pub one_by_pair : length chosen ≡ length R.pairs
  pub persons : (v : ℕ) → IsNode (length R.takes) v → IsInRange (range_at R.takes v) (taken_by R chosen v)
  pub things : (v : ℕ) → IsNode (length R.needs) v → IsInRange (range_at R.needs v) (takers_of R chosen v)

-- no choice costs less
pub record IsLeastChoice (R : Roster) (chosen : List Bool) : Type 0 where
  pub is_choice : IsChoice R chosen
  pub least : (other : List Bool) → IsChoice R other → value R chosen ≤ℤ value R other
