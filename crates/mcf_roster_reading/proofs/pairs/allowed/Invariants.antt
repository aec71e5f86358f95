use Rattle.std.proofs.Common.{◌≡◌, take}
use Rattle.std.specs.Prelude.{filter}
use Rattle.mcf_roster_reading.specs.Pairs.{is_allowed}
use Rattle.mcf_roster_reading.proofs.pairs.allowed.Given as goal

abbrev pub invariant-loop-pair : goal.invariant-loop-pair
invariant-loop-pair l = l.made.items ≡ filter (is_allowed l.records) (take l.pair-index l.pairs)
