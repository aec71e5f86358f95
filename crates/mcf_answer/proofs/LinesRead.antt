-- The state of the parser that some lines make, and the answer that it gives at the end.
use Rattle.std.specs.Prelude.{ℕ, List, [], ◌∷◌, map, Option, Some, None, Result, Ok, Err}
use Rattle.mcf_answer.specs.Private.Draft.{answer_of_draft}
use Rattle.mcf_answer.specs.Fits.{member_lines, moved_lines, price_lines, sent_lines}
use Rattle.mcf_answer.specs.Parsing.{cost_of, no_refusal}
use Rattle.mcf_answer.specs.Said.{Opening, OpensFlow, OpensSparse, OpensSet, OpensRefusal, opening_said}
use Rattle.mcf_answer.specs.Token.{Token}
use Rattle.mcf_answer.specs.declared.answers.Answer.{Answer}
use Rattle.mcf_answer.specs.declared.draft.Draft.{Draft}
use Rattle.mcf_answer.specs.declared.draft.Draft.TheVariants.{Empty, Flow, Announced, Sparse, Blocked, Refused}
use Rattle.mcf_answer.specs.declared.shape.Shape.{Shape}

-- the state of the lines after a version line
abbrev pub announced_filled : List (List Token) → Draft
announced_filled [] = Announced
announced_filled (cost ∷ others) =
    Sparse (record { cost = cost_of cost; moved = moved_lines others; prices = map (λ y. y.1) (price_lines others) })

-- the state of a first line and the lines after it
abbrev pub filled : Option Opening → List (List Token) → Draft
filled None others = Refused no_refusal
filled (Some (OpensFlow cost)) others =
    Flow (record { cost = cost; sent = sent_lines others; prices = map (λ y. y.1) (price_lines others) })
filled (Some OpensSparse) others = announced_filled others
filled (Some (OpensSet side count)) others = Blocked (record { side = side; count = count; nodes = member_lines others })
filled (Some (OpensRefusal r)) others = Refused r

-- the state of lines that all fit
abbrev pub draft_of : List (List Token) → Draft
draft_of [] = Empty
draft_of (first ∷ others) = filled (opening_said first) others

-- the answer that a state gives at the end, where the line after the last has this number
abbrev pub answer_or : Option Answer → ℕ → Result Answer Shape
answer_or None number = Err (record { line = number })
answer_or (Some a) number = Ok a

-- what the lines give: an answer, the number of the first that doesn't fit, or that of the line
-- after the last
abbrev pub outcome : Result Draft ℕ → ℕ → Result Answer Shape
outcome (Err line) number = Err (record { line = line })
outcome (Ok d) number = answer_or (answer_of_draft d) number
