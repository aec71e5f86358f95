use Rattle.std.proofs.Common.{◌≤◌, ◌-◌, length, take}
use Rattle.mcf_table.specs.Private.Found.{IsOpen}
use Rattle.mcf_table.proofs.fields.closing_quote.Given as goal

abbrev pub invariant-quotes : goal.invariant-quotes
invariant-quotes l = record { inside : l.at ≤ length l.text; opened : IsOpen (take l.at l.text) }

abbrev pub decreases-quotes : goal.decreases-quotes
decreases-quotes l = length l.text - l.at
