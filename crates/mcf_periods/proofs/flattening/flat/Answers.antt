use Rattle.mcf_periods.proofs.MadeFlat.{all_made_flat}
use Rattle.mcf_periods.proofs.flattening.flat.Goals as goal

pub returns-clause-exact : goal.returns-clause-exact
returns-clause-exact c =
    all_made_flat c.args.rows c.args.policy c.in_ok-routes.routes.items c.of.result c.in_ok-routes.ensures c.of.ensures.exact
