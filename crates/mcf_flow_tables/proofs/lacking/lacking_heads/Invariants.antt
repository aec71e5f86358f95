use Rattle.std.proofs.Common.{◌≡◌, ◌≤◌, suc, ◌+◌, ◌++◌, length}
use Rattle.mcf_text.specs.Lines.{numbered_lines}
use Rattle.mcf_flow_tables.specs.Lacking.{lacking}
use Rattle.mcf_flow_tables.proofs.lacking.lacking_heads.Given as goal

-- the numbers of the heads so far are told, and each line has a byte or more
abbrev pub invariant-heads : goal.invariant-heads
invariant-heads l = record {
  told : l.made.items ++ lacking l.one l.other (numbered_lines l.number l.rest) ≡ lacking l.one l.other (numbered_lines 1 l.heads);
  few : l.number + length l.rest ≤ suc (length l.heads);
}

abbrev pub decreases-heads : goal.decreases-heads
decreases-heads l = length l.rest
