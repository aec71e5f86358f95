use Rattle.std.proofs.Common.{◌≡◌, map, take}
use Rattle.mcf_roster_reading.specs.Said.{kept_saying}
use Rattle.mcf_roster_reading.proofs.said.sayings_of.Given as goal

abbrev pub invariant-loop-place : goal.invariant-loop-place
invariant-loop-place l = l.made.items ≡ map (kept_saying l.records l.kept l.said) (take l.place l.names)
