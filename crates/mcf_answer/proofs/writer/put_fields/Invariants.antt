use Rattle.std.proofs.Common.{Ok, take}
use Rattle.std.specs.Prelude.{flat_map}
use Rattle.mcf_answer.specs.Private.Puts.{PutsText, field_text}
use Rattle.mcf_answer.proofs.writer.put_fields.Given as goal

-- the numbers so far
abbrev pub invariant-loop-number : goal.invariant-loop-number
invariant-loop-number l = PutsText l.fn.out l.out (Ok tt) (flat_map field_text (take l.number-index l.numbers))
