use Rattle.std.proofs.Common.{ap, sym, ◌∙◌, subst}
use Rattle.mcf_plan_ranges.specs.PlanRanges.{IsPlanRange}
use Rattle.mcf_plan_ranges.specs.Private.Sides.{meet}
use Rattle.mcf_plan_ranges.proofs.SideLaws.{is_plan_range}
use Rattle.mcf_plan_ranges.proofs.ranging.range_within.Goals as goal

pub returns : goal.returns
returns c =
    let m = c.args.model.now in
    let plan = c.args.carries.now in
    let k = c.args.number in
    subst (IsPlanRange m plan k) (sym (c.meet-2.ensures ∙ ap (λ a. meet a c.floor_range-floor.result) c.meet.ensures))
    (is_plan_range m plan c.args.prices.now k c.place_count-places.ensures.proper.sound c.requires.plan c.requires.shown c.requires.number
    c.in_ok-more.more c.in_ok-less.less c.floor_range-floor.result c.in_ok-more.ensures c.in_ok-less.ensures c.floor_range-floor.ensures)
