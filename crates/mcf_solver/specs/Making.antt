-- How the state behind a flow was made: by a new engine, the one that the choice means.
-- Source: own
use Rattle.std.specs.Prelude.{◌≡◌, ⊤, ℕ, ℤ, Bool, List, length, Option, IfSome, Result, Ok, Err}
use Rattle.mcf_answer.specs.declared.answers.Answer.{Answer}
use Rattle.mcf_checker.specs.Correct.{flow_given}
use Rattle.mcf_assign.specs.Runs.{IsMatchedByRows}
use Rattle.mcf_basis.specs.Structures.{TreeStructure}
use Rattle.mcf_fast.specs.Made.{IsMadeOrFound}
use Rattle.mcf_flows.specs.Codes.{Fault}
use Rattle.mcf_flows.specs.Network.{Network}
use Rattle.mcf_flows.specs.declared.problem.Problem.{Problem}
use Rattle.mcf_flows.specs.declared.problem.Problem.TheVariants.{Min, Asn}
use Rattle.mcf_network.specs.Removal.{net_of}
use Rattle.mcf_network.specs.Restoring.{restored}
use Rattle.mcf_network.specs.States.{Pseudoflow}
use Rattle.mcf_network.specs.TreeSolutions.{IsTreeSolution}
use Rattle.mcf_engine.specs.Outcomes.{IsLeastState}
use Rattle.mcf_simplex.specs.Blocks.{BlockRule, IsBlockPick}
use Rattle.mcf_simplex.specs.Picking.{IsBestPick, IsFirstPick}
use Rattle.mcf_simplex.specs.Runs.{IsMadeByRun, RuleState}
use Rattle.mcf_simplex.specs.Stretches.{IsWideFor, IsWidePick, WideRule}
use Rattle.mcf_simplex.specs.declared.best.Best.{Best as BestRule}
use Rattle.mcf_simplex.specs.declared.first.First.{First as FirstRule}
use Rattle.mcf_choice.specs.declared.choice.Choice.{Choice}
use Rattle.mcf_choice.specs.declared.choice.EngineChoice.{EngineChoice}
use Rattle.mcf_scaling.specs.Made.{IsScaled}
use Rattle.mcf_scaling.specs.Refinements.{StepCounts}
use Rattle.mcf_choice.specs.declared.choice.EngineChoice.TheVariants.{Auto, Cancel, Simplex, Scaling, Fast, Sap}
use Rattle.mcf_choice.specs.declared.choice.PricingChoice.{PricingChoice}
use Rattle.mcf_choice.specs.declared.choice.PricingChoice.TheVariants.{First, Best, Block, Wide}
use Rattle.mcf_solver.specs.declared.meant.Meant.{Meant}
use Rattle.mcf_solver.specs.declared.meant.Meant.TheVariants.{ByCancel, BySimplex, ByScaling, ByFast, BySap}

-- the engine that suits a problem
abbrev pub suited : Problem → Meant
suited Min = BySimplex
suited Asn = BySap

-- the engine that a choice means for a problem
abbrev pub meant : EngineChoice → Problem → Meant
meant Auto problem = suited problem
meant Cancel problem = ByCancel
meant Simplex problem = BySimplex
meant Scaling problem = ByScaling
meant Fast problem = ByFast
meant Sap problem = suited problem

-- what the rule of the first arc picks, which keeps nothing
abbrev pub first_picks : FirstRule → TreeStructure → Option ℕ → FirstRule → Type 0
first_picks old b answer new = IsFirstPick b answer

-- what the rule of the most violated arc picks, which keeps nothing
abbrev pub best_picks : BestRule → TreeStructure → Option ℕ → BestRule → Type 0
best_picks old b answer new = IsBestPick b answer

-- the simplex over blocks of this size that has picked nothing: its first block begins with arc 1
abbrev pub new_block_rule : ℕ → RuleState BlockRule
new_block_rule size = record { rule = record { size = size; next = 1 }; pivots = 0 }

-- the net's state was made by a run of the network simplex, with a new rule: the one that is
-- chosen, and its blocks have this size, or, if they are wide, the one that suits the net
abbrev pub IsMadeBySimplex : PricingChoice → ℕ → Network → Pseudoflow → Type 0
IsMadeBySimplex First block g s = (old new : RuleState FirstRule) × IsMadeByRun first_picks old g s new
IsMadeBySimplex Best block g s = (old new : RuleState BestRule) × IsMadeByRun best_picks old g s new
IsMadeBySimplex Block block g s = (new : RuleState BlockRule) × IsMadeByRun IsBlockPick (new_block_rule block) g s new
IsMadeBySimplex Wide block g s = (old new : RuleState WideRule) × IsWideFor (length g.arcs) old.rule × IsMadeByRun IsWidePick old g s new

-- the net's state was made by a new engine of this name; the plain engine asks nothing of how, cost
-- scaling counts its steps, the engine for assignments its searches, and the fast engine the pivots
-- of its run: it made the state by that run, or found it after leaving the run
abbrev pub IsMadeByEngine : Meant → Choice → Network → Pseudoflow → Type 0
IsMadeByEngine ByCancel choice g s = ⊤
IsMadeByEngine BySimplex choice g s = IsMadeBySimplex choice.pricing choice.block g s
IsMadeByEngine ByScaling choice g s = (steps : StepCounts) × IsScaled g s steps
IsMadeByEngine ByFast choice g s = (pivots : ℕ) × (is_found : Bool) × IsMadeOrFound is_found g s pivots
IsMadeByEngine BySap choice g s = (searches : ℕ) × IsMatchedByRows g s searches

-- the net's state was made by a new engine that the choice means for the problem of the net
abbrev pub IsMadeBy : Choice → Network → Pseudoflow → Type 0
IsMadeBy choice g s = IsMadeByEngine (meant choice.engine g.problem) choice g s

-- the flow is what a least state of the net that was made so stands for
pub record StandsForMade (IsMade : Network → Pseudoflow → Type 0) (g : Network) (flow : List ℤ) : Type 0 where
  pub state : Pseudoflow
  pub least : IsLeastState (net_of g) state
  pub made : IsMade (net_of g) state
  pub restores : flow ≡ restored g.arcs state.amounts

-- an answer's flow, where it gives one, is the one that a least state stands for which was made in
-- this way
abbrev pub HasMadeFlow : (Network → Pseudoflow → Type 0) → Result Network Fault → Answer → Type 0
HasMadeFlow IsMade (Ok g) a = IfSome (flow_given g a) (StandsForMade IsMade g)
HasMadeFlow IsMade (Err fault) a = ⊤

-- a flow of the network simplex is a tree solution of the instance
abbrev pub IsShapedBy : Meant → Network → List ℤ → Type 0
IsShapedBy ByCancel g flow = ⊤
IsShapedBy BySimplex g flow = IsTreeSolution g flow
IsShapedBy ByScaling g flow = ⊤
IsShapedBy ByFast g flow = ⊤
IsShapedBy BySap g flow = ⊤

-- an answer's flow, where it gives one, has the shape of those of the engine that the choice means
abbrev pub HasShapedFlow : Choice → Result Network Fault → Answer → Type 0
HasShapedFlow choice (Ok g) a = IfSome (flow_given g a) (IsShapedBy (meant choice.engine g.problem) g)
HasShapedFlow choice (Err fault) a = ⊤
