use Rattle.std.proofs.Common.{arith}
use Rattle.std.proofs.lemmas.List.FromFn.{length-enumerate_from}
use Rattle.mcf_text.specs.Lines.{lines_of}
use Rattle.mcf_answer.proofs.parser.line_after.Goals as goal

pub returns : goal.returns
returns c = omega (arith, c.line_count.ensures, length-enumerate_from 1 (lines_of c.args.text.now))
