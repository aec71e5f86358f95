-- What an answer says.
use Rattle.std.proofs.Common.{subst}
use Rattle.mcf_flows.specs.Blocking.{in_table}
use Rattle.mcf_flows.specs.Flow.{IsFeasible}
use Rattle.mcf_flows.specs.Network.{Network}
use Rattle.mcf_flows.proofs.Hoffman.{blocked_has_no_flow_lem}
use Rattle.mcf_network.specs.Nets.{IsNet}
use Rattle.mcf_network.specs.States.{IsFeasibleState, Pseudoflow}
use Rattle.mcf_feas.specs.declared.feas.Feas.TheVariants.{Flow as WithFlow, Blocked}
use Rattle.mcf_network.proofs.StuckLaws.{feasible_of_state}
use Rattle.mcf_feas.specs.Exactness.{AnswersAreExact, BlockedHasNoState}

-- a state without surplus is a feasible flow of its net
flow_of_state : (g : Network) (s : Pseudoflow) → IsFeasibleState g s → IsFeasible g s.amounts
flow_of_state g s ok =
    subst (λ (n : Network). IsFeasible n s.amounts) ok.of_net (feasible_of_state s ok.flow ok.no_surplus)

pub blocked_has_no_state_lem : BlockedHasNoState
blocked_has_no_state_lem g set side s blocks ok =
    blocked_has_no_flow_lem g set side s.amounts (subst (λ (n : Network). IsNet n) ok.of_net (ok.flow).of_net).ends blocks (flow_of_state g s ok)

pub answers_are_exact_lem : AnswersAreExact
answers_are_exact_lem g (WithFlow s) ok answer = (λ _. (s.amounts, flow_of_state g s answer), λ _. tt)
answers_are_exact_lem g (Blocked table side) ok answer =
    (λ none. absurd none, λ w. blocked_has_no_flow_lem g (in_table table) side w.0 ok.ends answer.blocks w.1)
