use Rattle.std.proofs.Common.{◌≤◌, ◌⊎◌, inl, inr, rules, subst}
use Rattle.std.proofs.lemmas.Result.{on_err_weaker}
use Rattle.mcf_flows.specs.Network.{node_count}
use Rattle.mcf_network.specs.Removal.{net_of}
use Rattle.mcf_solver.proofs.Making.{made_of_state}
use Rattle.mcf_solver.proofs.WantedMemory.{arcs_have_nodes}
use Rattle.mcf_solver.proofs.solving.solve_by.Goals as goal

pub returns-in_err-state-clause-wants : goal.returns-in_err-state-clause-wants
returns-in_err-state-clause-wants g c =
    let wanted : (1 ≤ node_count c.args.instance.now) ⊎ g.E.Engine.Wants (net_of c.args.instance.now) =
    inr (subst g.E.Engine.Wants c.in_ok-net.ensures.value c.in_err-state.ensures.wants) in
    search rules

pub returns-in-Least-clause-made : goal.returns-in-Least-clause-made
returns-in-Least-clause-made g c =
    made_of_state _ c.args.instance.now c.in-Least.state c.least_answer.result (search rules) (search rules) c.least_answer.ensures.restores

pub returns-in-Least-clause-wants : goal.returns-in-Least-clause-wants
returns-in-Least-clause-wants g c =
    on_err_weaker c.least_answer.result (λ some. inl (arcs_have_nodes c.args.instance.now c.in_ok-net.net c.in_ok-net.ensures.value
    c.in_ok-net.ensures.of_net some)) c.least_answer.ensures.wants
