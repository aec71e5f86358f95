use Rattle.std.proofs.Common.{Ok, map, take}
use Rattle.std.specs.Prelude.{flat_map}
use Rattle.mcf_answer.specs.Private.Puts.{PutsText}
use Rattle.mcf_answer.specs.Spelling.{flow_line}
use Rattle.mcf_answer.specs.Written.{line_text}
use Rattle.mcf_answer.proofs.writer.put_sent.Given as goal

-- the lines so far
abbrev pub invariant-loop-s : goal.invariant-loop-s
invariant-loop-s l = PutsText l.fn.out l.out (Ok tt) (flat_map line_text (take l.s-index (map flow_line l.sent)))
