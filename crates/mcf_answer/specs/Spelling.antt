-- The lines of an answer.
-- Source: own
use Rattle.std.specs.Prelude.{◌≡◌, ℕ, ◌≤◌, List, [], ◌∷◌, ◌++◌, map, length, codes, ℤ, pos}
use Rattle.std.specs.List.{enumerate_from}
use Rattle.mcf_answer.specs.BlockingSet.{BlockingSet, IsBlockingSet}
use Rattle.mcf_answer.specs.Solution.{Solution, IsSolution}
use Rattle.mcf_answer.specs.SparseSolution.{SparseSolution, IsSparseSolution}
use Rattle.mcf_answer.specs.Token.{Token, Word, Number, token_lines}
use Rattle.mcf_answer.specs.declared.answers.Answer.{Answer}
use Rattle.mcf_answer.specs.declared.answers.Answer.TheVariants.{Flow, Sparse, Blocked, Refused}
use Rattle.mcf_answer.specs.declared.answers.Sent.{Sent}
use Rattle.mcf_flows.specs.Codes.{Fault, code_word}
use Rattle.mcf_flows.specs.Limits.{line_limit}
use Rattle.mcf_flows.specs.declared.problem.Side.{Side}
use Rattle.mcf_flows.specs.declared.problem.Side.TheVariants.{Send, Take}

-- ---- the lines

-- the word of a side
abbrev pub side_word : Side → List ℕ
side_word Send = codes "send"
side_word Take = codes "take"

-- `v 2`: the answer is in the sparse form, that of a sparse flow
abbrev pub version_line : List Token
version_line = Word (codes "v") ∷ Number (pos 2) ∷ []

-- `s COST`
-- Source: DIMACS
abbrev pub cost_line : ℤ → List Token
cost_line cost = Word (codes "s") ∷ Number cost ∷ []

-- `f SRC DST FLOW`
-- Source: DIMACS
abbrev pub flow_line : Sent → List Token
flow_line s = Word (codes "f") ∷ Number (pos s.src) ∷ Number (pos s.dst) ∷ Number s.flow ∷ []

-- `g ARC FLOW`
abbrev pub moved_line : ℕ × ℤ → List Token
moved_line m = Word (codes "g") ∷ Number (pos m.0) ∷ Number m.1 ∷ []

-- `y ID PRICE`
abbrev pub price_line : ℕ × ℤ → List Token
price_line y = Word (codes "y") ∷ Number (pos y.0) ∷ Number y.1 ∷ []

-- `i K send` or `i K take`
abbrev pub set_line : Side → ℕ → List Token
set_line side count = Word (codes "i") ∷ Number (pos count) ∷ Word (side_word side) ∷ []

-- `x ID`
abbrev pub member_line : ℕ → List Token
member_line v = Word (codes "x") ∷ Number (pos v) ∷ []

-- `r LINE CODE`
abbrev pub refusal_line : Fault → List Token
refusal_line r = Word (codes "r") ∷ Number (pos r.line) ∷ Word (code_word r.code) ∷ []

-- ---- the answers

-- the lines of a flow answer; the prices are numbered from 1 on
abbrev pub solution_lines : Solution → List (List Token)
solution_lines a = cost_line a.cost ∷ map flow_line a.sent ++ map price_line (enumerate_from 1 a.prices)

-- the lines of a sparse flow answer
abbrev pub sparse_lines : SparseSolution → List (List Token)
sparse_lines a = version_line ∷ cost_line a.cost ∷ map moved_line a.moved ++ map price_line (enumerate_from 1 a.prices)

-- the lines of a set that blocks
abbrev pub set_lines : BlockingSet → List (List Token)
set_lines a = set_line a.side (length a.nodes) ∷ map member_line a.nodes

-- the lines of an answer, each a list of words and numbers
unfoldable pub spelling : Answer → List (List Token)
spelling (Flow a) = solution_lines a
spelling (Sparse a) = sparse_lines a
spelling (Blocked a) = set_lines a
spelling (Refused r) = refusal_line r ∷ []

-- the numbers of an answer are in range; the arcs of a sparse flow and the nodes of a set ascend
unfoldable pub IsAnswer : Answer → Type 0
IsAnswer (Flow a) = IsSolution a
IsAnswer (Sparse a) = IsSparseSolution a
IsAnswer (Blocked a) = IsBlockingSet a
IsAnswer (Refused r) = (1 ≤ r.line) × (r.line ≤ line_limit)

-- the kept lines of the text, numbers by their values, are the lines of the answer
pub record Spells (text : List ℕ) (a : Answer) : Type 0 where
  pub in_range : IsAnswer a
  pub lines : token_lines text ≡ spelling a
