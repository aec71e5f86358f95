-- Persons and things that compete: what persons must take, or things must give, is more than there
-- is. No network is named here.
-- Source: own, after AMO 6.7
use Rattle.std.specs.Prelude.{ℕ, Bool, not, ◌&&◌, List, length, ℤ, pos, ◌+ℤ◌, ◌<ℤ◌}
use Rattle.std.specs.List.{filter}
use Rattle.mcf_flows.specs.declared.problem.Side.{Side}
use Rattle.mcf_flows.specs.declared.problem.Side.TheVariants.{Send, Take}
use Rattle.mcf_flows.specs.Network.{node_sum, when}
use Rattle.mcf_roster.specs.declared.pairs.Pair.{Pair}
use Rattle.mcf_roster.specs.declared.pairs.Range.{Range}
use Rattle.mcf_roster.specs.Rosters.{Roster, range_at}

-- the least numbers of a set, summed
abbrev pub leasts_in : (ℕ → Bool) → List Range → ℤ
leasts_in set ranges = node_sum (λ v. when (set v) (pos (range_at ranges v).least)) (length ranges)

-- the greatest numbers of a set, summed
abbrev pub mosts_in : (ℕ → Bool) → List Range → ℤ
mosts_in set ranges = node_sum (λ v. when (set v) (pos (range_at ranges v).most)) (length ranges)

-- how many pairs pass a test
abbrev pub pair_count : (Pair → Bool) → List Pair → ℤ
pair_count test pairs = pos (length (filter test pairs))

-- by the side `Send`, persons of a set must take more than things of a set can give, with one more
-- for each pair of such a person and another thing; by the side `Take`, things of a set must give
-- more than persons of a set can take, with one more for each pair of such a thing and another
-- person
abbrev pub IsCompetition : Roster → (ℕ → Bool) → (ℕ → Bool) → Side → Type 0
IsCompetition R persons things Send =
    (mosts_in things R.needs +ℤ pair_count (λ p. persons p.who && not (things p.what)) R.pairs) <ℤ leasts_in persons R.takes
IsCompetition R persons things Take =
    (mosts_in persons R.takes +ℤ pair_count (λ p. things p.what && not (persons p.who)) R.pairs) <ℤ leasts_in things R.needs
