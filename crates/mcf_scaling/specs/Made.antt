-- How cost scaling made a state.
-- Source: AMO 10.3
use Rattle.std.specs.Prelude.{◌≡◌, ℕ, List}
use Rattle.mcf_network.specs.States.{IsFeasibleState, Pseudoflow}
use Rattle.mcf_flows.specs.Network.{Network}
use Rattle.mcf_network.specs.declared.rid.Rid.{Rid}
use Rattle.mcf_engine.specs.NegativeCycles.{IsNegativeCycle}
use Rattle.mcf_scaling.specs.Phases.{EachPhaseSettles, IsBoundedThroughout, IsDone, IsSettled, Run}
use Rattle.mcf_scaling.specs.Refinements.{Refinement, StepCounts}
use Rattle.mcf_scaling.specs.Scales.{ArePhases, IsStart}

-- a feasible state was refined by this many steps of each kind, as many of them beginnings of
-- phases as the net takes; each phase ended without surplus and e-optimal, and no price rose in it
-- by more than 3ne and no node was relabelled in it more than 3n times; after the last e is 1, no
-- node is active, and there is no negative cycle
pub record IsScaled (g : Network) (s : Pseudoflow) (steps : StepCounts) : Type 0 where
  pub given : Pseudoflow
  pub feasible : IsFeasibleState g given
  pub first : Refinement
  pub start : IsStart given first
  pub last : Refinement
  pub begins : ℕ
  pub run : Run first last begins
  pub phases : ArePhases g begins
  pub bounded : IsBoundedThroughout run
  pub settled : EachPhaseSettles run
  pub done : IsDone last
  pub last_settled : IsSettled last
  pub no_cycle : (walk : List Rid) → ¬ IsNegativeCycle last.flow walk
  pub ends : last.flow ≡ s
  pub counted : last.steps ≡ steps
  pub begun : steps.phases ≡ begins
