use Rattle.mcf_answer.proofs.Wants.{IsReadOn}
use Rattle.mcf_answer.proofs.parser.read_lines.Given as goal

-- the lines from here on are those after what the draft says
abbrev pub invariant-loop-line : goal.invariant-loop-line
invariant-loop-line l = IsReadOn l.text l.draft l.line-iterator
