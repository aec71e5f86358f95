use Rattle.std.proofs.Common.{◌∙◌, ap, sym, subst}
use Rattle.mcf_flows.specs.declared.problem.Side.TheVariants.{Send}
use Rattle.mcf_flows.specs.Network.{Network, node_count}
use Rattle.mcf_network.specs.States.{Pseudoflow}
use Rattle.mcf_network.specs.Chosen.{IsChosenBlock, supply_total}
use Rattle.mcf_network.proofs.Choices.{chosen_stuck}
use Rattle.mcf_network.proofs.Wholes.{settled}
use Rattle.mcf_feas.proofs.feas.push_balanced.Goals as goal

pub returns-clause-answer : goal.returns-clause-answer
returns-clause-answer c =
    let s = c.push_in_rounds.new.state in
    let answer = c.in_ok-settled.ensures in
    let same = answer.net ∙ ap (λ (q : Pseudoflow). q.net) c.in_ok-state.ensures.value in
    let stuck = rw c.if-settled.false at answer.settled in
    rw c.into_reached.ensures (subst (λ (g : Network). IsChosenBlock g c.push_in_rounds.new.search.reached Send) same
    (chosen_stuck s _ answer.flow (answer.nodes ∙ sym (ap node_count answer.net)) stuck (ap supply_total same ∙ c.requires)))

pub returns-then-settled-clause-answer : goal.returns-then-settled-clause-answer
returns-then-settled-clause-answer c =
    let s = c.push_in_rounds.new.state in
    let answer = c.in_ok-settled.ensures in
    let same = answer.net ∙ ap (λ (q : Pseudoflow). q.net) c.in_ok-state.ensures.value in
    let none = rw c.if-settled.true at answer.settled in
    record {
      of_net = same;
      flow = answer.flow;
      no_surplus = settled s answer.flow (ap supply_total same ∙ c.requires) none;
    }
