-- What a line says, by its form: a first word, and so many words and numbers in range.
-- Source: own
use Rattle.std.specs.Prelude.{ℕ, if◌then◌else◌, List, [], ◌∷◌, codes, ℤ, pos, neg_ℤ, Option, Some, None, option_map, option_and_then}
use Rattle.std.specs.Option.{option_or}
use Rattle.mcf_answer.specs.Ranges.{amount_limit}
use Rattle.mcf_answer.specs.Spelling.{side_word}
use Rattle.mcf_answer.specs.Token.{Token, Word, Number, is_word}
use Rattle.mcf_answer.specs.declared.answers.Sent.{Sent}
use Rattle.mcf_flows.specs.Codes.{Fault, code_of_word}
use Rattle.mcf_flows.specs.Limits.{node_limit, arc_limit, line_limit}
use Rattle.mcf_flows.specs.declared.code.Code.{Code}
use Rattle.mcf_flows.specs.declared.problem.Side.{Side}
use Rattle.mcf_flows.specs.declared.problem.Side.TheVariants.{Send, Take}
use Rattle.mcf_text.specs.Row.{natural}
use Rattle.mcf_text.specs.Whole.{is_within}

-- goes on with what the first step gives, if it gives anything
infixl 10 ◌>>=◌
abbrev pub ◌>>=◌ : {A B : Type 0} → Option A → (A → Option B) → Option B
o >>= f = option_and_then f o

-- ---- a field

-- the number, if it is one in the range
abbrev pub number_within : ℤ → ℤ → Token → Option ℤ
number_within lo hi (Word bytes) = None
number_within lo hi (Number z) = if is_within lo hi z then Some z else None

-- a cost, a flow or a price
abbrev pub amount_of : Token → Option ℤ
amount_of t = number_within (neg_ℤ (pos amount_limit)) (pos amount_limit) t

-- the number of a node, or how many there are
abbrev pub node_of : Token → Option ℕ
node_of t = option_map natural (number_within (pos 1) (pos node_limit) t)

-- the number of an arc
abbrev pub arc_of : Token → Option ℕ
arc_of t = option_map natural (number_within (pos 1) (pos arc_limit) t)

-- the number of a line
abbrev pub line_number_of : Token → Option ℕ
line_number_of t = option_map natural (number_within (pos 1) (pos line_limit) t)

-- the side that a token names
abbrev pub side_of : Token → Option Side
side_of t = if is_word (side_word Send) t then Some Send else (if is_word (side_word Take) t then Some Take else None)

-- the code that a token names
abbrev pub code_of : Token → Option Code
code_of (Word bytes) = code_of_word bytes
code_of (Number z) = None

-- ---- a line

-- the token behind this first word, of a line that has one
abbrev pub one_behind : List ℕ → List Token → Option Token
one_behind word (first ∷ one ∷ []) = if is_word word first then Some one else None
one_behind word line = None

-- the two tokens behind this first word, of a line that has two
abbrev pub two_behind : List ℕ → List Token → Option (Token × Token)
two_behind word (first ∷ one ∷ two ∷ []) = if is_word word first then Some (one, two) else None
two_behind word line = None

-- the three tokens behind this first word, of a line that has three
abbrev pub three_behind : List ℕ → List Token → Option (Token × Token × Token)
three_behind word (first ∷ one ∷ two ∷ three ∷ []) = if is_word word first then Some (one, two, three) else None
three_behind word line = None

-- the version of a line `v 2`
unfoldable pub version_said : List Token → Option ℤ
version_said line = one_behind (codes "v") line >>= λ version. number_within (pos 2) (pos 2) version

-- the cost of a line `s COST`
unfoldable pub cost_said : List Token → Option ℤ
cost_said line = one_behind (codes "s") line >>= λ cost. amount_of cost

-- what a line `f SRC DST FLOW` says
unfoldable pub sent_said : List Token → Option Sent
sent_said line =
    three_behind (codes "f") line >>= λ t. node_of t.0 >>= λ s. node_of t.1 >>= λ d. amount_of t.2 >>= λ z. Some (record { src = s; dst = d; flow = z })

-- the arc and the flow of a line `g ARC FLOW`
unfoldable pub moved_said : List Token → Option (ℕ × ℤ)
moved_said line = two_behind (codes "g") line >>= λ t. arc_of t.0 >>= λ k. amount_of t.1 >>= λ z. Some (k, z)

-- the node and the price of a line `y ID PRICE`
unfoldable pub price_said : List Token → Option (ℕ × ℤ)
price_said line = two_behind (codes "y") line >>= λ t. node_of t.0 >>= λ v. amount_of t.1 >>= λ z. Some (v, z)

-- the side and the number of nodes of a line `i K send` or `i K take`
unfoldable pub set_said : List Token → Option (Side × ℕ)
set_said line = two_behind (codes "i") line >>= λ t. node_of t.0 >>= λ k. side_of t.1 >>= λ s. Some (s, k)

-- the node of a line `x ID`
unfoldable pub member_said : List Token → Option ℕ
member_said line = one_behind (codes "x") line >>= λ id. node_of id

-- the refusal of a line `r LINE CODE`
unfoldable pub refusal_said : List Token → Option Fault
refusal_said line = two_behind (codes "r") line >>= λ t. line_number_of t.0 >>= λ n. code_of t.1 >>= λ c. Some (record { line = n; code = c })

-- ---- the first line

-- the kind of answer that a first line opens, and what the line says of it
pub data Opening : Type 0 where
  OpensFlow : (cost : ℤ) → Opening
  OpensSparse : Opening
  OpensSet : (side : Side) → (count : ℕ) → Opening
  OpensRefusal : (refusal : Fault) → Opening

-- the opening of a set of this side and of this many nodes
abbrev pub opens_set : Side × ℕ → Opening
opens_set set = OpensSet set.0 set.1

-- a cost line, a version line, the first line of a set, or a refusal line
unfoldable pub opening_said : List Token → Option Opening
opening_said line =
    option_or (option_map OpensFlow (cost_said line))
    (option_or (option_map (λ version. OpensSparse) (version_said line))
    (option_or (option_map opens_set (set_said line)) (option_map OpensRefusal (refusal_said line))))
