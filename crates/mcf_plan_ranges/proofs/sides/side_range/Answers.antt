use Rattle.std.proofs.Common.{rules, ◌≡◌, ◌∙◌, sym, subst, to_z, of_z}
use Rattle.std.specs.Int.{w128}
use Rattle.mcf_flows.specs.WellFormed.{IsUpTo}
use Rattle.mcf_figures.specs.Figures.{figure_limit}
use Rattle.mcf_model.specs.Tables.{route_with}
use Rattle.mcf_plan_ranges.proofs.Calls.{free_here, shown_side_here, small_amount}
use Rattle.mcf_plan_ranges.proofs.sides.side_range.Goals as goal

pub may_change-may-requires : goal.may_change-may-requires
may_change-may-requires c =
    let read : to_z w128 (of_z w128 c.number_at-carried.result) ≡ c.number_at-carried.result = search rules in
    subst (IsUpTo figure_limit) (sym (read ∙ c.number_at-carried.ensures))
    (small_amount c.args.model.now c.args.prices.now c.args.carries.now c.args.number c.requires.plan c.requires.within c.requires.number)

pub returns-then-not-may : goal.returns-then-not-may
returns-then-not-may c =
    let read : to_z w128 (of_z w128 c.number_at-carried.result) ≡ c.number_at-carried.result = search rules in
    free_here c.args.model.now c.args.carries.now c.args.prices.now c.args.number c.args.less c.route-route.ensures.proper.sound c.requires.plan c.requires.shown
    c.requires.number (route_with c.route-route.result.row c.route-route.result.steps.now) c.number_at-carried.result c.route-route.ensures.value
    c.number_at-carried.ensures c.may_change-may.result (rw read at c.may_change-may.ensures) c.if-not-may.true

pub returns : goal.returns
returns c =
    let read : to_z w128 (of_z w128 c.number_at-carried.result) ≡ c.number_at-carried.result = search rules in
    shown_side_here c.args.model.now c.args.carries.now c.args.prices.now c.args.number c.args.less c.route-route.ensures.proper.sound c.requires.plan c.requires.shown
    c.requires.number (route_with c.route-route.result.row c.route-route.result.steps.now) c.number_at-carried.result c.route-route.ensures.value
    c.number_at-carried.ensures c.may_change-may.result (rw read at c.may_change-may.ensures) c.if-not-may.false c.in_ok-range.range c.one_sided.result c.grows-falls.result
    c.in_ok-range.ensures.exact c.in_ok-range.ensures.shown (rw read at c.grows-falls.ensures) c.one_sided.ensures
