use Rattle.std.proofs.Common.{◌≡◌, map, take}
use Rattle.mcf_roster.specs.Models.{is_carried}
use Rattle.mcf_roster.proofs.reading.carried.Given as goal

abbrev pub invariant-loop-place : goal.invariant-loop-place
invariant-loop-place l = l.made.items ≡ map is_carried (take l.place l.amounts)
