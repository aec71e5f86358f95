-- What a call for arrays hands out.
-- Source: own
use Rattle.std.specs.Prelude.{◌≡◌, ◌≢◌, ℕ, ◌≤◌, ◌⊎◌, ◌↔◌, Bool, List, length, ℤ, pos, FitsSigned, Option, Some, None, IfSome, if◌then◌else◌}
use Rattle.std.specs.Int.{w64}
use Rattle.std.specs.List.{All}
use Rattle.mcf_answer.specs.BlockingSet.{BlockingSet, IsBlockingSet}
use Rattle.mcf_answer.specs.Solution.{Solution}
use Rattle.mcf_c.specs.Verdicts.{Tells, TellsFault, TellsSet}
use Rattle.mcf_c.specs.declared.statuses.TheConstants.{BLOCKED, BUFFER_TOO_SMALL, FLOW, INVALID_CHOICE, INVALID_INPUT, NO_MEMORY, PRICE_OVERFLOW}
use Rattle.mcf_c.specs.declared.verdicts.McfVerdict.{McfVerdict}
use Rattle.mcf_checker.specs.Correct.{IsRightFlow}
use Rattle.mcf_checker.specs.declared.verdict.Verdict.TheVariants.{Flow}
use Rattle.mcf_instance.specs.Arrays.{array_fault}
use Rattle.mcf_flows.specs.Blocking.{in_list}
use Rattle.mcf_flows.specs.Limits.{arc_limit, limits, node_limit}
use Rattle.mcf_flows.specs.Network.{IsNode, Network, at_node, node_count}
use Rattle.mcf_flows.specs.WellFormed.{IsUpTo, IsWellFormed}
use Rattle.mcf_instance.specs.declared.arrays.ArrayFault.{ArrayFault}
use Rattle.mcf_flows.specs.declared.problem.Problem.TheVariants.{Min}
use Rattle.mcf_solver.specs.Answering.{IsLeastFlow, IsLeastSolution, IsNoFlowProof}
use Rattle.mcf_solver.specs.Making.{IsMadeBy, StandsForMade, meant, suited}
use Rattle.mcf_choice.specs.declared.choice.Choice.{Choice}
use Rattle.mcf_choice.specs.declared.choice.EngineChoice.{EngineChoice}

-- a flow by arc that no feasible flow undercuts, its cost, and prices by node that show it
pub record HandsFlow (g : Network) (flow prices : List ℤ) (told : McfVerdict) : Type 0 where
  pub cost : ℤ
  pub right : IsRightFlow g cost prices flow
  pub least : IsLeastFlow g prices flow
  pub tells : Tells (Flow cost) told

-- the flow is what a least state stands for that was made by a new engine, the one that the choice
-- means for the problem
abbrev pub IsMadeFlow : Choice → Network → List ℤ → Type 0
IsMadeFlow choice g flow = StandsForMade (IsMadeBy choice) g flow

-- the mark of a node, by whether it is in a set
abbrev pub mark_of : Bool → ℤ
mark_of is_in = if is_in then pos 1 else pos 0

-- a node set that blocks, so that no flow is feasible, by the mark of each node, its side and the
-- number of its nodes
pub record HandsSet (g : Network) (marks : List ℤ) (told : McfVerdict) : Type 0 where
  pub set : BlockingSet
  pub fits : IsBlockingSet set
  pub owed : IsNoFlowProof g set
  pub one_per_node : length marks ≡ node_count g
  pub marked : (v : ℕ) → IsNode (node_count g) v → at_node marks v ≡ mark_of (in_list set.nodes v)
  pub tells : TellsSet set.side (length set.nodes) told

-- all numbers fit 64 bits
abbrev pub FitWords : List ℤ → Type 0
FitWords zs = All (FitsSigned w64) zs

-- a least flow with its prices, some of which doesn't fit 64 bits
pub record HasWidePrice (g : Network) : Type 0 where
  pub answer : Solution
  pub least : IsLeastSolution g answer
  pub wide : ¬ FitWords answer.prices

-- there are nodes, or the root of the simplex' start basis, to take memory for
abbrev pub TakesMemory : EngineChoice → Network → Type 0
TakesMemory engine g = (1 ≤ node_count g) ⊎ (meant engine g.problem ≡ suited Min)

-- no fault of the sizes or of a supply: what is looked at before memory is taken
pub record KeepsSizes (g : Network) : Type 0 where
  pub nodes : node_count g ≤ node_limit
  pub arcs : length g.arcs ≤ arc_limit
  pub supplies : All (IsUpTo limits.supply) g.supplies

-- the first fault of the arrays of a network
pub record HandsFault (g : Network) (told : McfVerdict) : Type 0 where
  pub fault : ArrayFault
  pub found : array_fault limits g ≡ Some fault
  pub tells : TellsFault fault told

-- what a call answers that solves the problem of a network, by the choice that its numbers mean, if
-- they mean one: what it hands out in `flow`, `prices` and `told` at each status, and what stays as
-- it was there
pub record Answers (g : Network) (chosen : Option Choice) (status : ℕ) (flow flow' prices prices' : List ℤ) (told told' : McfVerdict) : Type 0 where
  pub statuses : status ≤ PRICE_OVERFLOW
  pub hands_flow : status ≡ FLOW → HandsFlow g flow' prices' told'
  pub hands_set : status ≡ BLOCKED → HandsSet g prices' told'
  pub hands_fault : status ≡ INVALID_INPUT → HandsFault g told'
  pub within : (status ≤ BLOCKED) ⊎ (status ≡ PRICE_OVERFLOW) → IsWellFormed limits g
  pub memory : status ≡ NO_MEMORY → IfSome chosen (λ c. TakesMemory c.engine g)
  pub sized : status ≡ NO_MEMORY → KeepsSizes g
  pub room : status ≡ BUFFER_TOO_SMALL → (length flow ≢ length g.arcs) ⊎ (length prices ≢ node_count g)
  pub choice : (status ≡ INVALID_CHOICE) ↔ (chosen ≡ None)
  pub wide : status ≡ PRICE_OVERFLOW → HasWidePrice g
  pub flow_stays : (BLOCKED ≤ status) × (status ≤ INVALID_CHOICE) → flow' ≡ flow
  pub prices_stay : (INVALID_INPUT ≤ status) × (status ≤ INVALID_CHOICE) → prices' ≡ prices
  pub told_stays : NO_MEMORY ≤ status → told' ≡ told
