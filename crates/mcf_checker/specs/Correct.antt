-- When an answer text is correct for an instance text.
-- Source: own
use Rattle.std.specs.Prelude.{◌≡◌, ℕ, ◌==◌, ◌≤◌, List, find, map, length, ℤ, Option, Some, None, Result, Ok, Err}
use Rattle.std.specs.List.{All, enumerate_from}
use Rattle.std.specs.Option.{option_map_or}
use Rattle.mcf_answer.specs.BlockingSet.{BlockingSet}
use Rattle.mcf_answer.specs.Solution.{Solution}
use Rattle.mcf_answer.specs.SparseSolution.{SparseSolution}
use Rattle.mcf_answer.specs.Spelling.{Spells}
use Rattle.mcf_answer.specs.declared.answers.Answer.{Answer}
use Rattle.mcf_answer.specs.declared.answers.Answer.TheVariants.{Flow, Sparse, Blocked, Refused}
use Rattle.mcf_answer.specs.declared.answers.Sent.{Sent}
use Rattle.mcf_flows.specs.Blocking.{Blocks, in_list}
use Rattle.mcf_flows.specs.declared.arc.Arc.{Arc}
use Rattle.mcf_flows.specs.Codes.{Fault}
use Rattle.mcf_flows.specs.Flow.{IsFeasible, IsLeast, Shows, cost}
use Rattle.mcf_flows.specs.Limits.{limits}
use Rattle.mcf_flows.specs.Network.{Network, node_count}
use Rattle.mcf_instance.specs.Reading.{reading}

-- the flow that an answer gives: what each arc carries, in order
abbrev pub amounts : List Sent → List ℤ
amounts sent = map (λ s. s.flow) sent

-- the ends that an answer names, in order
abbrev pub sent_ends : List Sent → List (ℕ × ℕ)
sent_ends sent = map (λ s. (s.src, s.dst)) sent

-- the ends of the arcs, in order
abbrev pub arc_ends : Network → List (ℕ × ℕ)
arc_ends g = map (λ a. (a.src, a.dst)) g.arcs

-- the flow that is stated for the arc of a number, or its low if none is
abbrev pub stated_or_low : List (ℕ × ℤ) → ℕ × Arc → ℤ
stated_or_low moved arc = option_map_or (λ m. m.1) (find (λ m. m.0 == arc.0) moved) arc.1.low

-- the flow that arcs by their numbers, each with what it carries, give: the others carry their low
abbrev pub spread : List Arc → List (ℕ × ℤ) → List ℤ
spread arcs moved = map (stated_or_low moved) (enumerate_from 1 arcs)

-- a price for each node; the flow is feasible, the prices show it, and its cost is as stated
pub record IsRightFlow (g : Network) (total : ℤ) (prices flow : List ℤ) : Type 0 where
  pub one_price_each : length prices ≡ node_count g
  pub feasible : IsFeasible g flow
  pub shown : Shows g.arcs prices flow
  pub cost_is : total ≡ cost g.arcs flow

-- a flow for each arc, with the arc's ends, and the flow is right
pub record IsRightSolution (g : Network) (a : Solution) : Type 0 where
  pub same_ends : sent_ends a.sent ≡ arc_ends g
  pub right : IsRightFlow g a.cost a.prices (amounts a.sent)

-- arcs of the instance, and the flow that they give is right
pub record IsRightSparse (g : Network) (a : SparseSolution) : Type 0 where
  pub of_instance : All (λ m. m.0 ≤ length g.arcs) a.moved
  pub right : IsRightFlow g a.cost a.prices (spread g.arcs a.moved)

-- nodes of the instance, which block by the named side
pub record IsRightSet (g : Network) (a : BlockingSet) : Type 0 where
  pub of_instance : All (λ v. v ≤ node_count g) a.nodes
  pub exceeds : Blocks g (in_list a.nodes) a.side

-- the answer is right for what the instance text stands for
abbrev pub IsRight : Result Network Fault → Answer → Type 0
IsRight (Err fault) (Refused r) = r ≡ fault
IsRight (Ok g) (Flow a) = IsRightSolution g a
IsRight (Ok g) (Sparse a) = IsRightSparse g a
IsRight (Ok g) (Blocked a) = IsRightSet g a
IsRight (Err fault) (Flow a) = ⊥
IsRight (Err fault) (Sparse a) = ⊥
IsRight (Err fault) (Blocked a) = ⊥
IsRight (Ok g) (Refused r) = ⊥

-- the second text spells an answer that is right for the first: the first fault; or if there is
-- none, a shown flow or a blocking set
pub record IsCorrect (input text : List ℕ) : Type 0 where
  pub answer : Answer
  pub spelled : Spells text answer
  pub right : IsRight (reading limits input) answer

-- the flow that an answer gives for an instance, if it gives one
abbrev pub flow_given : Network → Answer → Option (List ℤ)
flow_given g (Flow a) = Some (amounts a.sent)
flow_given g (Sparse a) = Some (spread g.arcs a.moved)
flow_given g (Blocked a) = None
flow_given g (Refused r) = None

-- the instance text has no fault, and the answer text gives a flow of this cost that no feasible
-- flow undercuts
pub record GivesLeastFlow (input text : List ℕ) (total : ℤ) : Type 0 where
  pub instance : Network
  pub answer : Answer
  pub flow : List ℤ
  pub read : reading limits input ≡ Ok instance
  pub spelled : Spells text answer
  pub given : flow_given instance answer ≡ Some flow
  pub least : IsLeast instance flow
  pub cost_is : total ≡ cost instance.arcs flow

-- the instance text has no fault, and no flow is feasible
pub record HasNoFlow (input : List ℕ) : Type 0 where
  pub instance : Network
  pub read : reading limits input ≡ Ok instance
  pub none : (flow : List ℤ) → ¬ IsFeasible instance flow
