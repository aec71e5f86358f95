use Rattle.std.proofs.Common.{Ok, map, take}
use Rattle.std.specs.Prelude.{flat_map}
use Rattle.mcf_answer.specs.Private.Puts.{PutsText}
use Rattle.mcf_answer.specs.Spelling.{moved_line}
use Rattle.mcf_answer.specs.Written.{line_text}
use Rattle.mcf_answer.proofs.writer.put_moved.Given as goal

-- the lines so far
abbrev pub invariant-loop-m : goal.invariant-loop-m
invariant-loop-m l = PutsText l.fn.out l.out (Ok tt) (flat_map line_text (take l.m-index (map moved_line l.moved)))
