use Rattle.std.proofs.Common.{◌∙◌}
use Rattle.mcf_checker.specs.Private.StatedFlows.{flow_stated}
use Rattle.mcf_checker.proofs.BadNodes.{bad_node-table}
use Rattle.mcf_checker.proofs.PriceLists.{values_length}
use Rattle.mcf_checker.proofs.solution.first_bad_node.Goals as goal

pub returns-clause-value : goal.returns-clause-value
returns-clause-value t c =
    let P = t.P.Price in
    let many = values_length P.value P.values t.met.P.Price.each c.args.prices.now in
    let first = rw (c.deref.ensures.value, ← many) at c.first_unmet.ensures in
    first
    ∙ bad_node-table c.args.instance.now (P.values c.args.prices.now) (flow_stated c.args.instance.now.arcs c.args.stated) c.in_ok-nets.nets.items
    c.in_ok-nets.ensures.value
