-- What is printed of a verdict.
-- Source: own
use Rattle.std.specs.Prelude.{ℕ, List, [], ◌∷◌, ◌++◌, codes}
use Rattle.std.specs.Fmt.{decimal, signed_decimal}
use Rattle.mcf_checker.specs.declared.verdict.Verdict.{Verdict}
use Rattle.mcf_checker.specs.declared.verdict.Verdict.TheVariants.{BadShape, BadKind, BadRefusal, Refused, BadArc, BadNode, BadPrice, BadCost, Flow, BadSet}
use Rattle.mcf_checker.specs.declared.verdict.Verdict.TheVariants.{Blocked}
use Rattle.mcf_flows.specs.Codes.{code_word}

-- whether the answer is accepted or rejected, and as what, or why; numbers as in answers
abbrev pub printed : Verdict → List ℕ
printed (BadShape line) = codes "rejected shape " ++ decimal line
printed BadKind = codes "rejected kind"
printed BadRefusal = codes "rejected refusal"
printed (Refused r) = codes "accepted refusal " ++ decimal r.line ++ codes " " ++ code_word r.code
printed (BadArc k) = codes "rejected arc " ++ decimal k
printed (BadNode v) = codes "rejected node " ++ decimal v
printed (BadPrice k) = codes "rejected price " ++ decimal k
printed BadCost = codes "rejected cost"
printed (Flow cost) = codes "accepted flow " ++ signed_decimal cost
printed BadSet = codes "rejected set"
printed (Blocked k) = codes "accepted blocked " ++ decimal k

-- the line that is printed, with the byte that ends it
abbrev pub printed_line : Verdict → List ℕ
printed_line v = printed v ++ 10 ∷ []
