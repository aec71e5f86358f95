use Rattle.std.proofs.Common.{◌≡◌, ◌++◌, length}
use Rattle.mcf_table.specs.LineEnds.{unified}
use Rattle.mcf_table.proofs.line_ends.unified.Given as goal

abbrev pub invariant-ends : goal.invariant-ends
invariant-ends l = unified l.text ≡ l.made.items ++ unified l.rest

abbrev pub decreases-ends : goal.decreases-ends
decreases-ends l = length l.rest
