-- The outcomes of a watched run.
use Rattle.std.specs.Prelude.{◌≤◌, false}
use Rattle.mcf_engine.specs.Outcomes.{IsOutcome}
use Rattle.mcf_fast.specs.Made.{IsMadeOrFound, IsRunUnderWay}
use Rattle.mcf_fast.specs.declared.running.Watched.{Watched}
use Rattle.mcf_fast.specs.declared.running.Watched.TheVariants.{Over, Left}
use Rattle.mcf_flows.specs.Network.{Network}

-- it is over, with its answer; or it was left after some pivots
abbrev pub IsWatched : Network → Watched → Type 0
IsWatched g (Over ended) = IsOutcome (λ s. IsMadeOrFound false g s ended.pivots.number) g ended.outcome
IsWatched g (Left pivots) = (1 ≤ pivots.number) × IsRunUnderWay g pivots.number
