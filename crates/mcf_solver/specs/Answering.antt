-- The answer that is owed for an instance text: the first fault; or a least flow with its cost and
-- prices that show it; or a node set that blocks every flow.
-- Source: own
use Rattle.std.specs.Prelude.{◌≡◌, ◌++◌, ◌+◌, ◌<◌, ◌⊎◌, ℕ, true, List, length, ℤ, Result, Ok, Err}
use Rattle.mcf_answer.specs.BlockingSet.{BlockingSet}
use Rattle.mcf_answer.specs.Solution.{Solution}
use Rattle.mcf_answer.specs.SparseSolution.{SparseSolution}
use Rattle.mcf_answer.specs.Spelling.{IsAnswer}
use Rattle.mcf_answer.specs.Written.{written}
use Rattle.mcf_answer.specs.declared.answers.Answer.{Answer}
use Rattle.mcf_answer.specs.declared.answers.Answer.TheVariants.{Flow, Sparse, Blocked, Refused}
use Rattle.mcf_checker.specs.Correct.{IsCorrect, IsRightSet, IsRightSolution, IsRightSparse, amounts, spread}
use Rattle.mcf_checker.specs.Judging.{accepts, verdict}
use Rattle.mcf_network.specs.Chosen.{IsChosen}
use Rattle.mcf_flows.specs.Blocking.{in_list}
use Rattle.mcf_flows.specs.Codes.{Fault}
use Rattle.mcf_flows.specs.Flow.{IsFeasible, IsLeast}
use Rattle.mcf_flows.specs.Limits.{limits}
use Rattle.mcf_flows.specs.Network.{Network}
use Rattle.mcf_instance.specs.Memory.{NamesNodes}
use Rattle.mcf_instance.specs.Reading.{reading}
use Rattle.mcf_solver.specs.declared.meant.Meant.TheVariants.{BySimplex}
use Rattle.mcf_solver.specs.declared.kind.Kind.{Kind}
use Rattle.mcf_solver.specs.declared.kind.Kind.TheVariants.{Flow as WithFlow, Blocked as WithSet, Refused as WithRefusal}
use Rattle.mcf_solver.specs.ChosenSolutions.{IsChosenFlow}
use Rattle.mcf_solver.specs.Forms.{HasForm}
use Rattle.mcf_solver.specs.Making.{HasMadeFlow, HasShapedFlow, IsMadeBy, meant}
use Rattle.mcf_choice.specs.declared.choice.Choice.{Choice}

-- a flow that no feasible flow undercuts, and the greatest prices not above 0 that show it
-- Source: AMO 9
pub record IsLeastFlow (g : Network) (prices flow : List ℤ) : Type 0 where
  pub least : IsLeast g flow
  pub chosen : IsChosenFlow g prices flow

-- a right answer whose flow no feasible flow undercuts
-- Source: AMO 9
pub record IsLeastSolution (g : Network) (a : Solution) : Type 0 where
  pub right : IsRightSolution g a
  pub least : IsLeastFlow g a.prices (amounts a.sent)

-- a right answer of the second form whose flow no feasible flow undercuts
-- Source: AMO 9
pub record IsLeastSparse (g : Network) (a : SparseSolution) : Type 0 where
  pub right : IsRightSparse g a
  pub least : IsLeastFlow g a.prices (spread g.arcs a.moved)

-- nodes that must send or take more than they can, so that no flow is feasible
-- Source: AMO 6.7, Hoffman
pub record IsNoFlowProof (g : Network) (a : BlockingSet) : Type 0 where
  pub right : IsRightSet g a
  pub none : (flow : List ℤ) → ¬ IsFeasible g flow
  pub chosen : IsChosen g (in_list a.nodes) a.side

-- the answer that is owed for what an instance text stands for
abbrev pub IsOwed : Result Network Fault → Answer → Type 0
IsOwed (Err fault) (Refused r) = r ≡ fault
IsOwed (Ok g) (Flow a) = IsLeastSolution g a
IsOwed (Ok g) (Sparse a) = IsLeastSparse g a
IsOwed (Ok g) (Blocked a) = IsNoFlowProof g a
IsOwed (Err fault) (Flow a) = ⊥
IsOwed (Err fault) (Sparse a) = ⊥
IsOwed (Err fault) (Blocked a) = ⊥
IsOwed (Ok g) (Refused r) = ⊥

-- the kind of an answer
abbrev pub answer_kind : Answer → Kind
answer_kind (Flow a) = WithFlow
answer_kind (Sparse a) = WithFlow
answer_kind (Blocked a) = WithSet
answer_kind (Refused r) = WithRefusal

-- the text is what is written of an answer that is owed: its flow was made as the choice means, and
-- has the shape and the form that it means; the kind is the answer's; it is correct, and the
-- checker accepts it
pub record IsAnswerTo (choice : Choice) (input : List ℕ) (kind : Kind) (text : List ℕ) : Type 0 where
  pub answer : Answer
  pub in_range : IsAnswer answer
  pub written : text ≡ written answer
  pub owed : IsOwed (reading limits input) answer
  pub made : HasMadeFlow (IsMadeBy choice) (reading limits input) answer
  pub shaped : HasShapedFlow choice (reading limits input) answer
  pub formed : HasForm choice.form (reading limits input) answer
  pub is_kind : kind ≡ answer_kind answer
  pub correct : IsCorrect input text
  pub accepted : accepts (verdict input text) ≡ true

-- the text of an answer to the input comes after the bytes that were there
pub record AppendsAnswer (choice : Choice) (input : List ℕ) (kind : Kind) (old new : List ℕ) : Type 0 where
  pub text : List ℕ
  pub appended : new ≡ old ++ text
  pub answer : IsAnswerTo choice input kind text

-- the text has an instance for which the simplex is meant, whose start basis has a root if there
-- are no nodes
pub record IsBySimplex (choice : Choice) (input : List ℕ) : Type 0 where
  pub net : Network
  pub read : reading limits input ≡ Ok net
  pub simplex : meant choice.engine net.problem ≡ BySimplex

-- there are nodes, named before the first fault, or a root, to take memory for
abbrev pub MayWant : Choice → List ℕ → Type 0
MayWant choice input = NamesNodes limits input ⊎ IsBySimplex choice input

-- the text of an answer to the input doesn't fit the room after the bytes that are there
pub record LacksRoom (choice : Choice) (input : List ℕ) (capacity bytes : ℕ) : Type 0 where
  pub kind : Kind
  pub text : List ℕ
  pub answer : IsAnswerTo choice input kind text
  pub short : capacity < bytes + length text

-- the text has a first fault
pub record HasFault (input : List ℕ) : Type 0 where
  pub fault : Fault
  pub read : reading limits input ≡ Err fault
