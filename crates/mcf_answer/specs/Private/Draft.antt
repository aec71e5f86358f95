-- The parser's state: what the lines so far say, and how a line changes it.
use Rattle.std.specs.Prelude.{ℕ, ◌+◌, ◌==◌, nat_lt, ◌&&◌, if◌then◌else◌, List, [], ◌∷◌, ◌++◌, length, ℤ, Option, Some, None, option_map, Result, Ok, Err}
use Rattle.mcf_answer.specs.Fits.{is_above_last}
use Rattle.mcf_answer.specs.Private.PartialSet.{PartialSet}
use Rattle.mcf_answer.specs.Said.{Opening, OpensFlow, OpensSparse, OpensSet, OpensRefusal, cost_said, opening_said, sent_said, moved_said, price_said}
use Rattle.mcf_answer.specs.Said.{member_said}
use Rattle.mcf_answer.specs.Solution.{Solution}
use Rattle.mcf_answer.specs.SparseSolution.{SparseSolution, arc_numbers}
use Rattle.mcf_answer.specs.Token.{Token, tokens_of}
use Rattle.mcf_answer.specs.declared.answers.Answer.{Answer}
use Rattle.mcf_answer.specs.declared.answers.Answer.TheVariants.{Flow as FlowAnswered, Sparse as SparseAnswered, Blocked as BlockedAnswered}
use Rattle.mcf_answer.specs.declared.answers.Answer.TheVariants.{Refused as RefusedAnswered}
use Rattle.mcf_answer.specs.declared.answers.Sent.{Sent}
use Rattle.mcf_answer.specs.declared.draft.Draft.{Draft}
use Rattle.mcf_answer.specs.declared.draft.Draft.TheVariants.{Empty, Flow, Announced, Sparse, Blocked, Refused}
use Rattle.mcf_text.specs.Fields.{fields_of, is_kept}

-- ---- one line

-- after the first line
abbrev pub opened : Opening → Draft
opened (OpensFlow cost) = Flow (record { cost = cost; sent = []; prices = [] })
opened OpensSparse = Announced
opened (OpensSet side count) = Blocked (record { side = side; count = count; nodes = [] })
opened (OpensRefusal r) = Refused r

-- after the cost line of a sparse flow answer
abbrev pub costed : ℤ → Draft
costed cost = Sparse (record { cost = cost; moved = []; prices = [] })

-- a flow answer with one more flow
abbrev pub with_sent : Solution → Sent → Solution
with_sent a s = record { cost = a.cost; sent = a.sent ++ s ∷ []; prices = a.prices }

-- a flow answer with one more price
abbrev pub with_price : Solution → ℤ → Solution
with_price a z = record { cost = a.cost; sent = a.sent; prices = a.prices ++ z ∷ [] }

-- a sparse flow answer with one more arc
abbrev pub with_moved : SparseSolution → ℕ × ℤ → SparseSolution
with_moved a m = record { cost = a.cost; moved = a.moved ++ m ∷ []; prices = a.prices }

-- a sparse flow answer with one more price
abbrev pub with_sparse_price : SparseSolution → ℤ → SparseSolution
with_sparse_price a z = record { cost = a.cost; moved = a.moved; prices = a.prices ++ z ∷ [] }

-- a set with one more node
abbrev pub with_member : PartialSet → ℕ → PartialSet
with_member a v = record { side = a.side; count = a.count; nodes = a.nodes ++ v ∷ [] }

-- a flow answer after a price line
abbrev pub priced : Solution → Option (ℕ × ℤ) → Option Solution
priced a None = None
priced a (Some y) = if y.0 == length a.prices + 1 then Some (with_price a y.1) else None

-- a flow answer after a line that says this as a flow line, and as a price line
abbrev pub sent_or_priced : Solution → Option Sent → Option (ℕ × ℤ) → Option Solution
sent_or_priced a None y = priced a y
sent_or_priced a (Some s) y = if length a.prices == 0 then Some (with_sent a s) else None

-- a flow answer after a line, if it fits
unfoldable pub solution_after : Solution → List Token → Option Solution
solution_after a line = sent_or_priced a (sent_said line) (price_said line)

-- a sparse flow answer after a price line
abbrev pub sparse_priced : SparseSolution → Option (ℕ × ℤ) → Option SparseSolution
sparse_priced a None = None
sparse_priced a (Some y) = if y.0 == length a.prices + 1 then Some (with_sparse_price a y.1) else None

-- a sparse flow answer after a `g` line
abbrev pub sparse_moved : SparseSolution → ℕ × ℤ → Option SparseSolution
sparse_moved a m = if is_above_last (arc_numbers a.moved) m.0 && length a.prices == 0 then Some (with_moved a m) else None

-- a sparse flow answer after a line that says this as a `g` line, and as a price line
abbrev pub moved_or_priced : SparseSolution → Option (ℕ × ℤ) → Option (ℕ × ℤ) → Option SparseSolution
moved_or_priced a None y = sparse_priced a y
moved_or_priced a (Some m) y = sparse_moved a m

-- a sparse flow answer after a line, if it fits
unfoldable pub sparse_after : SparseSolution → List Token → Option SparseSolution
sparse_after a line = moved_or_priced a (moved_said line) (price_said line)

-- a set after a member line
abbrev pub with_said : PartialSet → Option ℕ → Option PartialSet
with_said a None = None
with_said a (Some v) = if nat_lt (length a.nodes) a.count && is_above_last a.nodes v then Some (with_member a v) else None

-- a set after a line, if it fits
unfoldable pub set_after : PartialSet → List Token → Option PartialSet
set_after a line = with_said a (member_said line)

-- the state after a line, if it fits
unfoldable pub after : Draft → List Token → Option Draft
after Empty line = option_map opened (opening_said line)
after (Flow a) line = option_map Flow (solution_after a line)
after Announced line = option_map costed (cost_said line)
after (Sparse a) line = option_map Sparse (sparse_after a line)
after (Blocked a) line = option_map Blocked (set_after a line)
after (Refused r) line = None

-- ---- all lines

-- the state after a line that says this, if it fits; otherwise the number of the line
abbrev pub and_then : Option Draft → ℕ → (Draft → Result Draft ℕ) → Result Draft ℕ
and_then None number next = Err number
and_then (Some d) number next = next d

-- the state after all lines, or the number of the first that doesn't fit
abbrev pub run : Draft → List (ℕ × List ℕ) → Result Draft ℕ
run d [] = Ok d
run d (line ∷ lines) =
    if is_kept line.1 then and_then (after d (tokens_of (fields_of line.1))) line.0 (λ e. run e lines) else run d lines

-- the answer of a state, if no line is missing
unfoldable pub answer_of_draft : Draft → Option Answer
answer_of_draft Empty = None
answer_of_draft (Flow a) = Some (FlowAnswered a)
answer_of_draft Announced = None
answer_of_draft (Sparse a) = Some (SparseAnswered a)
answer_of_draft (Blocked a) = if length a.nodes == a.count then Some (BlockedAnswered (record { side = a.side; nodes = a.nodes })) else None
answer_of_draft (Refused r) = Some (RefusedAnswered r)
