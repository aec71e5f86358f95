use Rattle.std.proofs.Common.{Ok, map, take}
use Rattle.std.specs.Prelude.{flat_map}
use Rattle.std.specs.List.{enumerate_from}
use Rattle.mcf_answer.specs.Private.Puts.{PutsText}
use Rattle.mcf_answer.specs.Spelling.{price_line}
use Rattle.mcf_answer.specs.Written.{line_text}
use Rattle.mcf_answer.proofs.writer.put_prices.Given as goal

-- the lines so far
abbrev pub invariant-loop-k : goal.invariant-loop-k
invariant-loop-k l = PutsText l.fn.out l.out (Ok tt) (flat_map line_text (take l.k (map price_line (enumerate_from 1 l.prices))))
