use Rattle.std.proofs.Common.{◌≡◌, length}
use Rattle.mcf_table.specs.NearHeads.{is_one_edit}
use Rattle.mcf_table.proofs.near.edited_once.Given as goal

abbrev pub invariant-letters : goal.invariant-letters
invariant-letters l = is_one_edit l.one l.other ≡ is_one_edit l.left l.right

abbrev pub decreases-letters : goal.decreases-letters
decreases-letters l = length l.left
