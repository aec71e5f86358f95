use Rattle.std.proofs.Common.{rules}
use Rattle.mcf_scaling.specs.Private.Stars.{residual_of}
use Rattle.mcf_scaling.proofs.Scans.{landed_less}
use Rattle.mcf_scaling.proofs.pricing.is_admissible.Goals as goal

pub returns-clause-yes : goal.returns-clause-yes
returns-clause-yes c =
    let less = landed_less c.args.state.now c.args.prices.now (residual_of c.args.residual.link) c.args.price c.requires.price in
    search (rules, less)

pub returns-clause-no : goal.returns-clause-no
returns-clause-no c =
    let less = landed_less c.args.state.now c.args.prices.now (residual_of c.args.residual.link) c.args.price c.requires.price in
    search (rules, less)
