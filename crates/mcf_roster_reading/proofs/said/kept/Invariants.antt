use Rattle.std.proofs.Common.{◌≡◌, take}
use Rattle.std.specs.Prelude.{filter}
use Rattle.mcf_roster_reading.specs.Said.{is_said}
use Rattle.mcf_roster_reading.proofs.said.kept.Given as goal

abbrev pub invariant-loop-one : goal.invariant-loop-one
invariant-loop-one l = l.made.items ≡ filter (is_said l.records) (take l.one-index l.said)
