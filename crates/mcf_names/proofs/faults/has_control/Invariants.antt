use Rattle.std.proofs.Common.{◌≡◌, length}
use Rattle.mcf_names.specs.NameFaults.{has_control}
use Rattle.mcf_names.proofs.faults.has_control.Given as goal

abbrev pub invariant-bytes : goal.invariant-bytes
invariant-bytes l = has_control l.text ≡ has_control l.rest

abbrev pub decreases-bytes : goal.decreases-bytes
decreases-bytes l = length l.rest
