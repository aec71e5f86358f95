use Rattle.std.proofs.Common.{◌≡◌, length}
use Rattle.mcf_table.specs.Separators.{back_unquoted}
use Rattle.mcf_table.proofs.separators.back_unquoted.Given as goal

abbrev pub invariant-quotes : goal.invariant-quotes
invariant-quotes l = back_unquoted l.text ≡ back_unquoted l.rest

abbrev pub decreases-quotes : goal.decreases-quotes
decreases-quotes l = length l.rest
