-- The judge accepts what is right, and nothing else.
use Rattle.std.proofs.Common.{◌≡◌, IfOk, ℕ, Bool, true, false, cond, eqb, refl, sym, ap, subst, ◌∙◌, List, length, ℤ, Option, Some, None, Result, Ok, Err}
use Rattle.std.specs.List.{All}
use Rattle.std.specs.Option.{option_map_or}
use Rattle.std.specs.Ordering.{int_eq}
use Rattle.std.specs.Prelude.{⊤}
use Rattle.std.specs.Bool.{IsTrue}
use Rattle.std.specs.Prelude.{◌↔◌, bytes_eq}
use Rattle.std.proofs.lemmas.Bool.{and_from, and_parts, eq-eqb, eqb-true, false≢true}
use Rattle.std.proofs.lemmas.Slice.Eq.{bytes_eq-Decides}
use Rattle.mcf_answer.specs.BlockingSet.{BlockingSet}
use Rattle.mcf_answer.specs.Parsing.{parsing}
use Rattle.mcf_answer.specs.Solution.{Solution}
use Rattle.mcf_answer.specs.SparseSolution.{IsSparseSolution, SparseSolution}
use Rattle.mcf_answer.specs.Spelling.{IsAnswer, Spells}
use Rattle.mcf_answer.specs.declared.answers.Answer.{Answer}
use Rattle.mcf_answer.specs.declared.answers.Answer.TheVariants.{Blocked, Flow, Refused, Sparse}
use Rattle.mcf_answer.specs.declared.shape.Shape.{Shape}
use Rattle.mcf_checker.specs.Correct.{GivesLeastFlow, HasNoFlow, IsCorrect, IsRight, IsRightFlow, IsRightSet, IsRightSolution, amounts, flow_given, spread}
use Rattle.mcf_checker.specs.Judging.{accepts, bad_moved, bad_node, bad_price, flow_verdict, judged, same_fault, set_verdict}
use Rattle.mcf_checker.specs.Judging.{solution_verdict, sparse_verdict, verdict}
use Rattle.mcf_checker.specs.Private.StatedFlows.{AreArcsInOrder}
use Rattle.mcf_checker.specs.declared.verdict.Verdict.{Verdict}
use Rattle.mcf_checker.specs.declared.verdict.Verdict.TheVariants.{BadArc, BadCost, BadNode, BadPrice, BadRefusal, BadShape}
use Rattle.mcf_checker.specs.declared.verdict.Verdict.TheVariants.{Blocked as SetAccepted, Flow as FlowAccepted}
use Rattle.mcf_checker.specs.declared.verdict.Verdict.TheVariants.{Refused as RefusalAccepted}
use Rattle.mcf_checker.proofs.OrderedArcs.{HasOrder, read_ordered}
use Rattle.mcf_checker.proofs.Sets.{IsRightSet-from_accepts, accepts-from_IsRightSet, at_right_set}
use Rattle.mcf_checker.proofs.Solutions.{IsRightSolution-from_accepts, accepts-from_IsRightSolution, at_right}
use Rattle.mcf_checker.proofs.SparseFlows.{IsRightSparse-from_accepts, accepts-from_IsRightSparse}
use Rattle.mcf_flows.specs.Blocking.{in_list}
use Rattle.mcf_flows.specs.Flow.{IsLeast, cost}
use Rattle.mcf_flows.specs.Codes.{Fault, code_word}
use Rattle.mcf_flows.specs.Limits.{limits}
use Rattle.mcf_flows.specs.Network.{Network}
use Rattle.mcf_instance.specs.Reading.{reading}
use Rattle.mcf_flows.specs.WellFormed.{IsWellFormed}
use Rattle.mcf_flows.specs.declared.code.Code.{Code}
use Rattle.mcf_flows.proofs.Duality.{shown_flows_are_least_lem}
use Rattle.mcf_flows.proofs.Hoffman.{blocked_has_no_flow_lem}
use Rattle.mcf_flows.proofs.CodeWords.{code_of_word-known}

-- ---- refusals

-- codes with one word are one code
same_code : (c d : Code) → code_word c ≡ code_word d → c ≡ d
same_code c d e =
    let first = (code_of_word-known (code_word c) c).1 refl in
    let second = (code_of_word-known (code_word c) d).1 (sym e) in
    let s : Some c ≡ Some d = sym first ∙ second in cc

pub same_fault-true : (r s : Fault) → same_fault r s ≡ true → r ≡ s
same_fault-true r s e =
    let parts = and_parts (eqb r.line s.line) (bytes_eq (code_word r.code) (code_word s.code)) e in
    let line : r.line ≡ s.line = eqb-true r.line s.line parts.0 in
    let code : r.code ≡ s.code = same_code r.code s.code ((bytes_eq-Decides (code_word r.code) (code_word s.code)).0 parts.1) in
    let fault : ℕ → Code → Fault = λ n k. record { line = n; code = k } in
    ap (λ (n : ℕ). fault n r.code) line ∙ ap (λ (k : Code). fault s.line k) code

pub same_fault_refl : (r : Fault) → same_fault r r ≡ true
same_fault_refl r =
    and_from (eqb r.line r.line) (bytes_eq (code_word r.code) (code_word r.code)) (eq-eqb r.line r.line refl)
    ((bytes_eq-Decides (code_word r.code) (code_word r.code)).1 refl)

-- ---- the verdict of what was read and parsed

judged_misfit : (r : Result Network Fault) (shape : Shape) → BadShape shape.line ≡ judged r (Err shape)
unfolding judged
judged_misfit (Ok g) shape = refl
judged_misfit (Err fault) shape = refl

pub verdict_misfit : (input text : List ℕ) (shape : Shape) → Err shape ≡ parsing text → BadShape shape.line ≡ verdict input text
unfolding verdict
verdict_misfit input text shape e =
    judged_misfit (reading limits input) shape ∙ ap (judged (reading limits input)) e

pub verdict_is : (input text : List ℕ) (r : Result Network Fault) (a : Answer) (v : Verdict) → r ≡ reading limits input → Ok a ≡ parsing text
    → v ≡ judged r (Ok a) → v ≡ verdict input text
unfolding verdict
verdict_is input text r a v e k h =
    h ∙ ap (λ (x : Result Network Fault). judged x (Ok a)) e ∙ ap (judged (reading limits input)) k

-- ---- accepted is right

same_of : (same : Bool) (r : Fault) → accepts (cond same (RefusalAccepted r) BadRefusal) ≡ true → same ≡ true
same_of true r e = refl
same_of false r e = absurd (false≢true e)

-- the arcs of what was read have their bounds in order
abbrev HasOrderedArcs : Result Network Fault → Type 0
HasOrderedArcs (Ok g) = All HasOrder g.arcs
HasOrderedArcs (Err fault) = ⊤

ordered_of : (input : List ℕ) → HasOrderedArcs (reading limits input)
ordered_of input = go (reading limits input) refl
  where
    go : (r : Result Network Fault) → reading limits input ≡ r → HasOrderedArcs r
    go (Ok g) is = read_ordered input g is
    go (Err fault) is = tt

-- the arcs that an answer names are in order
pub in_order : (a : SparseSolution) → IsSparseSolution a → AreArcsInOrder a.moved
in_order a h = record { numbered = λ k d l. (h.moved_fit k d l).0.0; ascending = h.ascending }

answer_in_order : (a : SparseSolution) → IsAnswer (Sparse a) → AreArcsInOrder a.moved
unfolding IsAnswer
answer_in_order a h = in_order a h

-- what the judge accepts is an answer, and right
record Accepted (r : Result Network Fault) (p : Result Answer Shape) : Type 0 where
  answer : Answer
  parsed : p ≡ Ok answer
  right : IsRight r answer

Accepted-from_test : (r : Result Network Fault) (p : Result Answer Shape) → HasOrderedArcs r → accepts (judged r p) ≡ true → Accepted r p
unfolding judged
Accepted-from_test (Ok g) (Err shape) ordered e = absurd (false≢true e)
Accepted-from_test (Err fault) (Err shape) ordered e = absurd (false≢true e)
Accepted-from_test (Err fault) (Ok (Flow a)) ordered e = absurd (false≢true e)
Accepted-from_test (Err fault) (Ok (Sparse a)) ordered e = absurd (false≢true e)
Accepted-from_test (Err fault) (Ok (Blocked a)) ordered e = absurd (false≢true e)
Accepted-from_test (Err fault) (Ok (Refused r)) ordered e =
    record { answer = Refused r; parsed = refl; right = same_fault-true r fault (same_of (same_fault r fault) r e) }
Accepted-from_test (Ok g) (Ok (Flow a)) ordered e =
    record { answer = Flow a; parsed = refl; right = IsRightSolution-from_accepts g a e }
Accepted-from_test (Ok g) (Ok (Sparse a)) ordered e =
    record { answer = Sparse a; parsed = refl; right = IsRightSparse-from_accepts g a ordered e }
Accepted-from_test (Ok g) (Ok (Blocked a)) ordered e =
    record { answer = Blocked a; parsed = refl; right = IsRightSet-from_accepts g a e }
Accepted-from_test (Ok g) (Ok (Refused r)) ordered e = absurd (false≢true e)

test-from_right : (r : Result Network Fault) (a : Answer) → IsAnswer a → IsRight r a → accepts (judged r (Ok a)) ≡ true
unfolding judged
test-from_right (Err fault) (Flow a) fits h = absurd h
test-from_right (Err fault) (Sparse a) fits h = absurd h
test-from_right (Err fault) (Blocked a) fits h = absurd h
test-from_right (Err fault) (Refused r) fits h = rw (ap (same_fault r) (sym h) ∙ same_fault_refl r) refl
test-from_right (Ok g) (Flow a) fits h = accepts-from_IsRightSolution g a h
test-from_right (Ok g) (Sparse a) fits h = accepts-from_IsRightSparse g a (answer_in_order a fits) h
test-from_right (Ok g) (Blocked a) fits h = accepts-from_IsRightSet g a h
test-from_right (Ok g) (Refused r) fits h = absurd h

-- what the parser of answers says of a text
abbrev pub ParsesExactly : List ℕ → Type 0
ParsesExactly text = (a : Answer) → (parsing text ≡ Ok a) ↔ Spells text a

pub accepts-exactly : (input text : List ℕ) → ParsesExactly text → IsTrue (accepts (verdict input text)) ↔ IsCorrect input text
unfolding verdict
accepts-exactly input text parses = (
  λ e. let w = Accepted-from_test (reading limits input) (parsing text) (ordered_of input) e in record {
    answer = w.answer;
    spelled = (parses w.answer).0 w.parsed;
    right = w.right;
  },
  λ h. rw ((parses h.answer).1 h.spelled) (test-from_right (reading limits input) h.answer h.spelled.in_range h.right),
)

-- ---- accepted flows and sets

record AcceptedFlow (r : Result Network Fault) (p : Result Answer Shape) (total : ℤ) : Type 0 where
  instance : Network
  answer : Answer
  prices : List ℤ
  flow : List ℤ
  read : r ≡ Ok instance
  parsed : p ≡ Ok answer
  given : flow_given instance answer ≡ Some flow
  right : IsRightFlow instance total prices flow

no_flow_refused : (same : Bool) (r : Fault) (total : ℤ) → cond same (RefusalAccepted r) BadRefusal ≡ FlowAccepted total → ⊥
no_flow_refused true r total e = cc
no_flow_refused false r total e = cc

no_set_refused : (same : Bool) (r : Fault) (count : ℕ) → cond same (RefusalAccepted r) BadRefusal ≡ SetAccepted count → ⊥
no_set_refused true r count e = cc
no_set_refused false r count e = cc

no_flow_in_set : (g : Network) (a : BlockingSet) (total : ℤ) → set_verdict g a ≡ FlowAccepted total → ⊥
no_flow_in_set g a total e =
    let s : SetAccepted (length a.nodes) ≡ FlowAccepted total = at_right_set g a (IsRightSet-from_accepts g a (ap accepts e)) ∙ e in cc

no_set_in_flow : (g : Network) (a : Solution) (count : ℕ) → solution_verdict g a ≡ SetAccepted count → ⊥
no_set_in_flow g a count e =
    let s : FlowAccepted a.cost ≡ SetAccepted count = at_right g a (IsRightSolution-from_accepts g a (ap accepts e)) ∙ e in cc

-- the cases of a flow, as they come
total_of_cases : (arc node price : Option ℕ) (right : Bool) (cost total : ℤ)
    → option_map_or BadArc arc (option_map_or BadNode node (option_map_or BadPrice price (cond right (FlowAccepted cost) BadCost))) ≡ FlowAccepted total
    → cost ≡ total
total_of_cases (Some k) node price right cost total e = absurd (cc)
total_of_cases None (Some v) price right cost total e = absurd (cc)
total_of_cases None None (Some k) right cost total e = absurd (cc)
total_of_cases None None None false cost total e = absurd (cc)
total_of_cases None None None true cost total e = cc

no_set_of_cases : (arc node price : Option ℕ) (right : Bool) (cost : ℤ) (count : ℕ)
    → option_map_or BadArc arc (option_map_or BadNode node (option_map_or BadPrice price (cond right (FlowAccepted cost) BadCost))) ≡ SetAccepted count → ⊥
no_set_of_cases (Some k) node price right cost count e = cc
no_set_of_cases None (Some v) price right cost count e = cc
no_set_of_cases None None (Some k) right cost count e = cc
no_set_of_cases None None None false cost count e = cc
no_set_of_cases None None None true cost count e = cc

total_of_sparse : (g : Network) (a : SparseSolution) (total : ℤ) → sparse_verdict g a ≡ FlowAccepted total → a.cost ≡ total
unfolding sparse_verdict flow_verdict
total_of_sparse g a total e =
    total_of_cases (bad_moved g a.moved) (bad_node g a.prices (spread g.arcs a.moved)) (bad_price g a.prices (spread g.arcs a.moved))
    (int_eq a.cost (cost g.arcs (spread g.arcs a.moved))) a.cost total e

no_set_in_sparse : (g : Network) (a : SparseSolution) (count : ℕ) → sparse_verdict g a ≡ SetAccepted count → ⊥
unfolding sparse_verdict flow_verdict
no_set_in_sparse g a count e =
    no_set_of_cases (bad_moved g a.moved) (bad_node g a.prices (spread g.arcs a.moved)) (bad_price g a.prices (spread g.arcs a.moved))
    (int_eq a.cost (cost g.arcs (spread g.arcs a.moved))) a.cost count e

flow_of : (r : Result Network Fault) (p : Result Answer Shape) (total : ℤ) → HasOrderedArcs r → judged r p ≡ FlowAccepted total → AcceptedFlow r p total
unfolding judged
flow_of (Ok g) (Err shape) total ordered e = absurd (cc)
flow_of (Err fault) (Err shape) total ordered e = absurd (cc)
flow_of (Err fault) (Ok (Flow a)) total ordered e = absurd (cc)
flow_of (Err fault) (Ok (Sparse a)) total ordered e = absurd (cc)
flow_of (Err fault) (Ok (Blocked a)) total ordered e = absurd (cc)
flow_of (Err fault) (Ok (Refused r)) total ordered e = absurd (no_flow_refused (same_fault r fault) r total e)
flow_of (Ok g) (Ok (Flow a)) total ordered e =
    let right = IsRightSolution-from_accepts g a (ap accepts e) in
    let same : FlowAccepted a.cost ≡ FlowAccepted total = at_right g a right ∙ e in
    let cost : a.cost ≡ total = cc in
    record {
      instance = g;
      answer = Flow a;
      prices = a.prices;
      flow = amounts a.sent;
      read = refl;
      parsed = refl;
      given = refl;
      right = subst (λ (z : ℤ). IsRightFlow g z a.prices (amounts a.sent)) cost right.right;
    }
flow_of (Ok g) (Ok (Sparse a)) total ordered e =
    let right = IsRightSparse-from_accepts g a ordered (ap accepts e) in
    record {
      instance = g;
      answer = Sparse a;
      prices = a.prices;
      flow = spread g.arcs a.moved;
      read = refl;
      parsed = refl;
      given = refl;
      right = subst (λ (z : ℤ). IsRightFlow g z a.prices (spread g.arcs a.moved)) (total_of_sparse g a total e) right.right;
    }
flow_of (Ok g) (Ok (Blocked a)) total ordered e = absurd (no_flow_in_set g a total e)
flow_of (Ok g) (Ok (Refused r)) total ordered e = absurd (cc)

record AcceptedSet (r : Result Network Fault) : Type 0 where
  instance : Network
  set : BlockingSet
  read : r ≡ Ok instance
  right : IsRightSet instance set

set_of : (r : Result Network Fault) (p : Result Answer Shape) (count : ℕ) → judged r p ≡ SetAccepted count → AcceptedSet r
unfolding judged
set_of (Ok g) (Err shape) count e = absurd (cc)
set_of (Err fault) (Err shape) count e = absurd (cc)
set_of (Err fault) (Ok (Flow a)) count e = absurd (cc)
set_of (Err fault) (Ok (Sparse a)) count e = absurd (cc)
set_of (Err fault) (Ok (Blocked a)) count e = absurd (cc)
set_of (Err fault) (Ok (Refused r)) count e = absurd (no_set_refused (same_fault r fault) r count e)
set_of (Ok g) (Ok (Flow a)) count e = absurd (no_set_in_flow g a count e)
set_of (Ok g) (Ok (Sparse a)) count e = absurd (no_set_in_sparse g a count e)
set_of (Ok g) (Ok (Blocked a)) count e =
    record { instance = g; set = a; read = refl; right = IsRightSet-from_accepts g a (ap accepts e) }
set_of (Ok g) (Ok (Refused r)) count e = absurd (cc)

-- the arcs of what was read have their ends among the nodes
abbrev pub ReadsWellFormed : List ℕ → Type 0
ReadsWellFormed input = (g : Network) → reading limits input ≡ Ok g → IsWellFormed limits g

pub accepted_flows_are_least : (input text : List ℕ) (total : ℤ) → ParsesExactly text → ReadsWellFormed input → verdict input text ≡ FlowAccepted total
    → GivesLeastFlow input text total
unfolding verdict
accepted_flows_are_least input text total parses reads e =
    let w = flow_of (reading limits input) (parsing text) total (ordered_of input) e in
    record {
      instance = w.instance;
      answer = w.answer;
      flow = w.flow;
      read = w.read;
      spelled = (parses w.answer).0 w.parsed;
      given = w.given;
      least = shown_flows_are_least_lem w.instance w.prices w.flow (reads w.instance w.read).ends w.right.feasible w.right.shown;
      cost_is = w.right.cost_is;
    }

pub accepted_sets_leave_no_flow : (input text : List ℕ) (count : ℕ) → ReadsWellFormed input → verdict input text ≡ SetAccepted count → HasNoFlow input
unfolding verdict
accepted_sets_leave_no_flow input text count reads e =
    let w = set_of (reading limits input) (parsing text) count e in
    record {
      instance = w.instance;
      read = w.read;
      none = λ flow. blocked_has_no_flow_lem w.instance (in_list w.set.nodes) w.set.side flow (reads w.instance w.read).ends w.right.exceeds;
    }

-- what was read is well-formed where it is an instance that is
pub outcome_reads : (input : List ℕ) (r : Result Network Fault) → r ≡ reading limits input → IfOk r (IsWellFormed limits) → ReadsWellFormed input
outcome_reads input (Ok g) e well h k =
    let s : Ok g ≡ Ok h = e ∙ k in
    let same : g ≡ h = cc in
    subst (IsWellFormed limits) same well
outcome_reads input (Err fault) e well g h =
    let s : Err fault ≡ Ok g = e ∙ h in absurd (cc)

-- ---- what a check ensures, at a verdict that is the one of the texts

pub exact_at : (input text : List ℕ) (v : Verdict) → ParsesExactly text → v ≡ verdict input text → IsTrue (accepts v) ↔ IsCorrect input text
exact_at input text v parses e =
    let P = λ (w : Verdict). IsTrue (accepts w) ↔ IsCorrect input text in
    subst P (sym e) (accepts-exactly input text parses)

pub least_at : (input text : List ℕ) (v : Verdict) → ParsesExactly text → ReadsWellFormed input → v ≡ verdict input text → (total : ℤ) → v ≡ FlowAccepted total
    → GivesLeastFlow input text total
least_at input text v parses reads e total h =
    accepted_flows_are_least input text total parses reads (sym e ∙ h)

pub none_at : (input text : List ℕ) (v : Verdict) → ReadsWellFormed input → v ≡ verdict input text → (count : ℕ) → v ≡ SetAccepted count → HasNoFlow input
none_at input text v reads e count h =
    accepted_sets_leave_no_flow input text count reads (sym e ∙ h)

-- ---- a flow for an instance

pub right_flow_at : (g : Network) (a : Solution) (v : Verdict) → v ≡ solution_verdict g a → IsTrue (accepts v) ↔ IsRightSolution g a
right_flow_at g a v is = (
  λ e. IsRightSolution-from_accepts g a (ap accepts (sym is) ∙ e),
  λ h. ap accepts is ∙ accepts-from_IsRightSolution g a h,
)

pub least_flow_at : (g : Network) (a : Solution) (v : Verdict) → IsWellFormed limits g → v ≡ solution_verdict g a → IsTrue (accepts v)
    → IsLeast g (amounts a.sent)
least_flow_at g a v well is e =
    let right = (right_flow_at g a v is).0 e in
    shown_flows_are_least_lem g a.prices (amounts a.sent) well.ends right.right.feasible right.right.shown
