use Rattle.std.proofs.Common.{◌≡◌, length}
use Rattle.mcf_table.specs.Separators.{front_unquoted}
use Rattle.mcf_table.proofs.separators.front_unquoted.Given as goal

abbrev pub invariant-quotes : goal.invariant-quotes
invariant-quotes l = front_unquoted l.text ≡ front_unquoted l.rest

abbrev pub decreases-quotes : goal.decreases-quotes
decreases-quotes l = length l.rest
