use Rattle.std.proofs.Common.{rules, ap, ◌≡◌, ◌∙◌}
use Rattle.std.proofs.lemmas.Result.{IfOk-weaker}
use Rattle.clap.specs.Words.{App, app_of, shape_of, with_subcommand}
use Rattle.mcf_plan_asking.specs.PlanAsking.{mcfplan_top}
use Rattle.mcf_plan_asking.proofs.asking.mcfplan.Goals as goal

pub returns-clause-app : goal.returns-clause-app
returns-clause-app c =
    let flow = c.in_ok-flow.ensures in
    let pairs = c.in_ok-pairs.ensures in
    let flows = shape_of c.in_ok-flow.flow in
    let paired = shape_of c.in_ok-pairs.pairs in
    let top : app_of c.subcommand_required.result ≡ mcfplan_top = search rules in
    let one = c.in_ok-subcommand.ensures.shape flow.local ∙ ap (λ (a : App). with_subcommand a flows) top in
    IfOk-weaker c.subcommand-2.result _ _ (λ r h. record {
      flow = flows;
      pairs = paired;
      is_flow = flow.shape;
      is_pairs = pairs.shape;
      reads = h.shape pairs.local ∙ ap (λ (a : App). with_subcommand a paired) one;
    }) c.subcommand-2.ensures
