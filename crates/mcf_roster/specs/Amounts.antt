-- The numbers by which persons and things compete.
-- Source: own
use Rattle.std.specs.Prelude.{◌≡◌, ℕ, Bool, true, false, not, ◌&&◌, if◌then◌else◌, map}
use Rattle.mcf_flows.specs.declared.problem.Side.{Side}
use Rattle.mcf_flows.specs.declared.problem.Side.TheVariants.{Send, Take}
use Rattle.mcf_roster.specs.declared.amounts.Amounts.{Amounts}
use Rattle.mcf_roster.specs.declared.pairs.Pair.{Pair}
use Rattle.mcf_roster.specs.declared.pairs.Range.{Range}
use Rattle.mcf_roster.specs.Rosters.{Roster}

-- persons must take more than there is; otherwise things must give more
abbrev pub asks_persons : Side → Bool
asks_persons Send = true
asks_persons Take = false

-- the least number of a range, or its greatest one
abbrev pub bound : Bool → Range → ℕ
bound least r = if least then r.least else r.most

-- a pair counts one more: a person of the set with a thing outside it, or, where things must give
-- more, a thing of the set with a person outside it
abbrev pub counts_more : (ℕ → Bool) → (ℕ → Bool) → Side → Pair → Bool
counts_more persons things Send p = persons p.who && not (things p.what)
counts_more persons things Take p = things p.what && not (persons p.who)

-- those who must have more have their leasts, the others their mosts; and which pairs count more
pub record AreAmounts (R : Roster) (persons things : ℕ → Bool) (side : Side) (a : Amounts) : Type 0 where
  pub of_persons : a.persons.items ≡ map (bound (asks_persons side)) R.takes
  pub of_things : a.things.items ≡ map (bound (not (asks_persons side))) R.needs
  pub of_pairs : a.pairs.items ≡ map (counts_more persons things side) R.pairs
