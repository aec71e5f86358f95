use Rattle.std.proofs.Common.{Ok, map, take}
use Rattle.std.specs.Prelude.{flat_map}
use Rattle.mcf_answer.specs.Private.Puts.{PutsText}
use Rattle.mcf_answer.specs.Spelling.{member_line}
use Rattle.mcf_answer.specs.Written.{line_text}
use Rattle.mcf_answer.proofs.writer.put_nodes.Given as goal

-- the lines so far
abbrev pub invariant-loop-node : goal.invariant-loop-node
invariant-loop-node l = PutsText l.fn.out l.out (Ok tt) (flat_map line_text (take l.node-index (map member_line l.nodes)))
