use Rattle.std.proofs.Common.{◌≡◌, map, take}
use Rattle.mcf_roster_reading.specs.Said.{said_name}
use Rattle.mcf_roster_reading.proofs.said.said_names.Given as goal

abbrev pub invariant-loop-one : goal.invariant-loop-one
invariant-loop-one l = map (λ name. name.now) l.found.items ≡ map (said_name l.records) (take l.one-index l.said)
