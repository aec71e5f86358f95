use Rattle.std.proofs.Common.{◌∙◌}
use Rattle.mcf_matching.proofs.Updated.{judged_updated}
use Rattle.mcf_matching.proofs.judging.are_shown.Goals as goal

pub returns : goal.returns
returns c fit =
    let s = c.args.scene.now.state.now in
    judged_updated s c.args.scene.now.prices.now c.args.prices.now c.requires.scene.matching c.requires.scene.prices
    (c.if-prices-scene.false ∙ c.requires.scene.mates.count) (c.do_nodes_fit.ensures c.if-not-do_nodes_fit.false) (c.do_rows_fit.ensures fit)
