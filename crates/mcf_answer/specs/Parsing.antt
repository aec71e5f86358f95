-- What a text stands for as an answer.
-- Source: own
use Rattle.std.specs.Prelude.{◌||◌, ◌&&◌, ℕ, nat_lt, Bool, true, List, [], ◌∷◌, map, ℤ, pos, Option, Some, None, Result, Ok, Err, is_some, unwrap_or}
use Rattle.std.specs.List.{list_any}
use Rattle.mcf_answer.specs.Fits.{misfit, sent_lines, moved_lines, price_lines, member_lines}
use Rattle.mcf_answer.specs.Said.{Opening, OpensFlow, OpensSparse, OpensSet, OpensRefusal, cost_said, member_said, moved_said, opening_said, price_said}
use Rattle.mcf_answer.specs.Said.{sent_said}
use Rattle.mcf_answer.specs.Token.{Token, token_lines, tokens}
use Rattle.mcf_answer.specs.declared.answers.Answer.{Answer}
use Rattle.mcf_answer.specs.declared.answers.Answer.TheVariants.{Flow, Sparse, Blocked, Refused}
use Rattle.mcf_answer.specs.declared.shape.Shape.{Shape}
use Rattle.mcf_flows.specs.Codes.{Fault}
use Rattle.mcf_flows.specs.declared.code.Code.TheVariants.{Kind}
use Rattle.mcf_text.specs.Row.{rows}

-- what stands for a refusal if there is none
abbrev pub no_refusal : Fault
no_refusal = record { line = 0; code = Kind }

-- the cost of a cost line, and 0 of any other
abbrev pub cost_of : List Token → ℤ
cost_of line = unwrap_or (cost_said line) (pos 0)

-- the answer that the lines after a version line fill
abbrev pub sparse_opened : List (List Token) → Answer
sparse_opened [] = Refused no_refusal
sparse_opened (cost ∷ others) =
    Sparse (record { cost = cost_of cost; moved = moved_lines others; prices = map (λ y. y.1) (price_lines others) })

-- the answer that a first line opens and the other lines fill
abbrev pub answer_opened : Option Opening → List (List Token) → Answer
answer_opened None others = Refused no_refusal
answer_opened (Some (OpensFlow cost)) others =
    Flow (record { cost = cost; sent = sent_lines others; prices = map (λ y. y.1) (price_lines others) })
answer_opened (Some OpensSparse) others = sparse_opened others
answer_opened (Some (OpensSet side count)) others = Blocked (record { side = side; nodes = member_lines others })
answer_opened (Some (OpensRefusal r)) others = Refused r

-- the answer of lines that all fit
unfoldable pub answer_of_lines : List (List Token) → Answer
answer_of_lines [] = Refused no_refusal
answer_of_lines (first ∷ others) = answer_opened (opening_said first) others

-- the answer, unless there is a line that doesn't fit
abbrev pub parsing_of : Option ℕ → Answer → Result Answer Shape
parsing_of None a = Ok a
parsing_of (Some line) a = Err (record { line = line })

-- what a text stands for: an answer, or the line at which it is seen to be none
unfoldable pub parsing : List ℕ → Result Answer Shape
parsing text = parsing_of (misfit text) (answer_of_lines (token_lines text))

-- a line says what stands in a list: the flow of an arc, the price of a node, or a node of a set
abbrev pub says_item : List Token → Bool
says_item line = is_some (sent_said line) || (is_some (moved_said line) || (is_some (price_said line) || is_some (member_said line)))

-- the number comes before that of the line at which a text is seen to be no answer, if it is none
abbrev pub comes_before : Option ℕ → ℕ → Bool
comes_before None number = true
comes_before (Some line) number = nat_lt number line

-- a kept line of the text says what stands in a list, and like each line before it fits
abbrev pub has_item_line : List ℕ → Bool
has_item_line text = list_any (λ row. says_item (tokens row) && comes_before (misfit text) row.number) (rows text)
