-- Which numbers a verdict has, and so a fault of arrays and a node set.
-- Source: own
use Rattle.std.specs.Prelude.{◌≡◌, ℕ, ◌+◌, ◌*◌, ◌^◌, ◌==◌, ℤ, pos, neg_ℤ, int_lt, unsigned_abs, if◌then◌else◌}
use Rattle.mcf_c.specs.declared.verdicts.McfVerdict.{McfVerdict}
use Rattle.mcf_checker.specs.declared.verdict.Verdict.{Verdict}
use Rattle.mcf_checker.specs.declared.verdict.Verdict.TheVariants.{BadShape, BadKind, BadRefusal, Refused, BadArc, BadNode, BadPrice, BadCost, Flow, BadSet, Blocked}
use Rattle.mcf_instance.specs.declared.arrays.ArrayFault.{ArrayFault}
use Rattle.mcf_instance.specs.declared.arrays.ArrayFault.TheVariants.{Size as FaultySize, Supply as FaultySupply, Arc as FaultyArc}
use Rattle.mcf_flows.specs.declared.code.Code.{Code}
use Rattle.mcf_flows.specs.declared.code.Code.TheVariants.{Kind, Fields, Problem, Number, SecondP, BeforeP, Size, Node, LateN, Twice, Supply, Bound, Order}
use Rattle.mcf_flows.specs.declared.code.Code.TheVariants.{Cost, Extra, Side, Total, NoP, Missing}
use Rattle.mcf_flows.specs.declared.problem.Side.{Side as TheSide}
use Rattle.mcf_flows.specs.declared.problem.Side.TheVariants.{Send, Take}

-- the kind of an accepted flow
abbrev pub flow_kind : ℕ
flow_kind = 0

-- the kind of an accepted set, and of a set from arrays
abbrev pub set_kind : ℕ
set_kind = 1

-- the kind of an accepted refusal, and of a fault of arrays
abbrev pub refusal_kind : ℕ
refusal_kind = 2

-- the number of a kind of verdict; the first three accept
abbrev pub kind_number : Verdict → ℕ
kind_number (Flow cost) = flow_kind
kind_number (Blocked count) = set_kind
kind_number (Refused r) = refusal_kind
kind_number (BadShape line) = 3
kind_number BadKind = 4
kind_number BadRefusal = 5
kind_number (BadArc arc) = 6
kind_number (BadNode node) = 7
kind_number (BadPrice arc) = 8
kind_number BadCost = 9
kind_number BadSet = 10

-- the number of a code
abbrev pub code_number : Code → ℕ
code_number Kind = 1
code_number Fields = 2
code_number Problem = 3
code_number Number = 4
code_number SecondP = 5
code_number BeforeP = 6
code_number Size = 7
code_number Node = 8
code_number LateN = 9
code_number Twice = 10
code_number Supply = 11
code_number Bound = 12
code_number Order = 13
code_number Cost = 14
code_number Extra = 15
code_number Side = 16
code_number Total = 17
code_number NoP = 18
code_number Missing = 19

-- the code of an accepted refusal, or 0
abbrev pub verdict_code : Verdict → ℕ
verdict_code (Refused r) = code_number r.code
verdict_code other = 0

-- the number of a verdict, or 0
abbrev pub verdict_number : Verdict → ℤ
verdict_number (Flow cost) = cost
verdict_number (Blocked count) = pos count
verdict_number (Refused r) = pos r.line
verdict_number (BadShape line) = pos line
verdict_number (BadArc arc) = pos arc
verdict_number (BadNode node) = pos node
verdict_number (BadPrice arc) = pos arc
verdict_number other = pos 0

-- the size of that number
abbrev pub verdict_size : Verdict → ℕ
verdict_size v = unsigned_abs (verdict_number v)

-- whether it is below 0, as 1 or 0
abbrev pub verdict_sign : Verdict → ℕ
verdict_sign v = if int_lt (verdict_number v) (pos 0) then 1 else 0

-- the numbers of a verdict
pub record Tells (v : Verdict) (c : McfVerdict) : Type 0 where
  pub kind : c.kind ≡ kind_number v
  pub code : c.code ≡ verdict_code v
  pub negative : c.negative ≡ verdict_sign v
  pub size : c.low + 2 ^ 64 * c.high ≡ verdict_size v

-- the number that they tell
abbrev pub number : McfVerdict → ℤ
number c = if c.negative == 1 then neg_ℤ (pos (c.low + 2 ^ 64 * c.high)) else pos (c.low + 2 ^ 64 * c.high)

-- the code of a fault of arrays
abbrev pub fault_code : ArrayFault → ℕ
fault_code FaultySize = code_number Size
fault_code (FaultySupply v) = code_number Supply
fault_code (FaultyArc k code) = code_number code

-- its node or arc, or 0
abbrev pub fault_place : ArrayFault → ℕ
fault_place FaultySize = 0
fault_place (FaultySupply v) = v
fault_place (FaultyArc k _) = k

-- the numbers of a fault of arrays
pub record TellsFault (fault : ArrayFault) (c : McfVerdict) : Type 0 where
  pub kind : c.kind ≡ refusal_kind
  pub code : c.code ≡ fault_code fault
  pub negative : c.negative ≡ 0
  pub size : c.low + 2 ^ 64 * c.high ≡ fault_place fault

-- the number of a side
abbrev pub side_number : TheSide → ℕ
side_number Send = 0
side_number Take = 1

-- the numbers of a node set that blocks by a side
pub record TellsSet (side : TheSide) (count : ℕ) (c : McfVerdict) : Type 0 where
  pub kind : c.kind ≡ set_kind
  pub code : c.code ≡ side_number side
  pub negative : c.negative ≡ 0
  pub size : c.low + 2 ^ 64 * c.high ≡ count
