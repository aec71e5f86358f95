use Rattle.std.proofs.Common.{rules, ◌≡◌, ◌-ℤ◌, to_z, of_z}
use Rattle.std.specs.Int.{w128}
use Rattle.mcf_flows.specs.Network.{at_node}
use Rattle.mcf_range_text.proofs.SupplyLaws.{costed_told, costed_untold}
use Rattle.mcf_range_text.proofs.supplies.costed_range.Goals as goal

pub returns-clause-exact : goal.returns-clause-exact
returns-clause-exact g c =
    let xs = c.deref.result.now in
    let cost : to_z w128 (of_z w128 c.unit_cost-cost.result) ≡ at_node xs c.args.ends.from -ℤ at_node xs c.args.ends.to = search rules in
    costed_told c.args.shown.now c.args.ends.from c.args.ends.to c.in_ok-told.told c.with_cost.result xs c.deref-2.result.now _ c.deref.ensures.value
    c.deref-2.ensures.value c.with_cost.ensures cost c.requires.priced c.in_ok-told.ensures.range

pub returns-clause-none : goal.returns-clause-none
returns-clause-none g c =
    costed_untold c.args.shown.now c.args.ends.from c.args.ends.to c.in_ok-told.told c.with_cost.result c.deref-2.result.now _ c.deref-2.ensures.value
    c.with_cost.ensures c.in_ok-told.ensures.untold
