-- What an answer says.
-- Source: AMO 6.7, Hoffman
use Rattle.std.specs.Prelude.{◌↔◌, ℕ, Bool, List, ℤ}
use Rattle.mcf_flows.specs.declared.problem.Side.{Side}
use Rattle.mcf_flows.specs.Blocking.{Blocks}
use Rattle.mcf_flows.specs.Flow.{IsFeasible}
use Rattle.mcf_flows.specs.Network.{Network}
use Rattle.mcf_network.specs.Nets.{IsNet}
use Rattle.mcf_network.specs.States.{IsFeasibleState, Pseudoflow}
use Rattle.mcf_feas.specs.declared.feas.Feas.{Feas}
use Rattle.mcf_feas.specs.declared.feas.Feas.TheVariants.{Flow as WithFlow, Blocked}
use Rattle.mcf_feas.specs.Feasible.{IsFeas}

-- where a set blocks, no state is without surplus
abbrev pub BlockedHasNoState : Type 0
BlockedHasNoState =
    (g : Network) (set : ℕ → Bool) (side : Side) (s : Pseudoflow) → Blocks g set side → ¬ IsFeasibleState g s

-- the answer holds a flow
abbrev pub HoldsFlow : Feas → Type 0
HoldsFlow (WithFlow s) = Unit {0}
HoldsFlow (Blocked table side) = ⊥

-- the answer holds a flow exactly if the net has a feasible flow
abbrev pub AnswersAreExact : Type 0
AnswersAreExact =
    (g : Network) (answer : Feas) → IsNet g → IsFeas g answer → HoldsFlow answer ↔ ((flow : List ℤ) × IsFeasible g flow)
