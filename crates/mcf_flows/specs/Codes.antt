-- The codes of the faults of an instance text, and their words.
-- Source: own
use Rattle.std.specs.Prelude.{ℕ, List, [], ◌∷◌, ◌++◌, find, bytes_eq, codes, Option}
use Rattle.mcf_flows.specs.declared.code.Code.{Code}
use Rattle.mcf_flows.specs.declared.code.Code.TheVariants.{Kind, Fields, Problem, Number, SecondP, BeforeP, Size, Node, LateN, Twice, Supply, Bound, Order}
use Rattle.mcf_flows.specs.declared.code.Code.TheVariants.{Cost, Extra, Side, Total, NoP, Missing}

-- a fault: the number of the line, and what is wrong there
pub record Fault : Type 0 where
  pub line : ℕ
  pub code : Code

-- the faults of a line, in the order in which they are looked for
abbrev pub table : List Code
table = Kind ∷ Fields ∷ Problem ∷ Number ∷ SecondP ∷ BeforeP ∷ Size ∷ Node ∷ LateN ∷ Twice ∷ Supply ∷ Bound ∷ Order ∷ Cost ∷ Extra ∷ Side ∷ Total ∷ []

-- the word of a code
abbrev pub code_word : Code → List ℕ
code_word Kind = codes "kind"
code_word Fields = codes "fields"
code_word Problem = codes "problem"
code_word Number = codes "number"
code_word SecondP = codes "second-p"
code_word BeforeP = codes "before-p"
code_word Size = codes "size"
code_word Node = codes "node"
code_word LateN = codes "late-n"
code_word Twice = codes "twice"
code_word Supply = codes "supply"
code_word Bound = codes "bound"
code_word Order = codes "order"
code_word Cost = codes "cost"
code_word Extra = codes "extra"
code_word Side = codes "side"
code_word Total = codes "total"
code_word NoP = codes "no-p"
code_word Missing = codes "missing"

-- the nineteen codes
abbrev pub all_codes : List Code
all_codes = table ++ NoP ∷ Missing ∷ []

-- the code with this word
abbrev pub code_of_word : List ℕ → Option Code
code_of_word word = find (λ code. bytes_eq (code_word code) word) all_codes
