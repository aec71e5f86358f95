use Rattle.std.proofs.Common.{rules, ◌≡◌, ◌∙◌, false, sym, true}
use Rattle.mcf_range_text.proofs.SupplyLaws.{from_is_node, no_supply, supply_told, to_is_node}
use Rattle.mcf_range_text.proofs.supplies.supply_range.Goals as goal

pub returns-then-not-has : goal.returns-then-not-has
returns-then-not-has g c =
    let none : c.has_supply_range-has.result ≡ false = search rules in
    no_supply c.args.planner.now c.args.least.now c.args.row (sym c.has_supply_range-has.ensures ∙ none)

pub costed_range-requires-clause-from : goal.costed_range-requires-clause-from
costed_range-requires-clause-from g c =
    from_is_node c.args.planner.now c.args.least.now c.sound_planners_have_sound_models.ensures c.told_figures_are_the_planners.ensures c.requires.shown c.args.row (c.requires.low, c.requires.high)
    c.supply_ends-ends.result.from c.supply_ends-ends.ensures.from

pub costed_range-requires-clause-to : goal.costed_range-requires-clause-to
costed_range-requires-clause-to g c =
    to_is_node c.args.planner.now c.args.least.now c.sound_planners_have_sound_models.ensures c.told_figures_are_the_planners.ensures c.requires.shown c.args.row (c.requires.low, c.requires.high)
    c.supply_ends-ends.result.to c.supply_ends-ends.ensures.to

pub returns : goal.returns
returns g c =
    let has : c.has_supply_range-has.result ≡ true = search rules in
    supply_told c.args.planner.now c.args.least.now c.args.row c.costed_range.result c.supply_ends-ends.result.from c.supply_ends-ends.result.to
    c.supply_ends-ends.ensures.from c.supply_ends-ends.ensures.to (sym c.has_supply_range-has.ensures ∙ has) c.costed_range.ensures.exact c.costed_range.ensures.none
