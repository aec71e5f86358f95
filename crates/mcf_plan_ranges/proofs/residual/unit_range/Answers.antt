use Rattle.std.proofs.Common.{sym, ◌∙◌, subst}
use Rattle.std.specs.Prelude.{IfOk}
use Rattle.mcf_plan_ranges.specs.Private.Units.{still}
use Rattle.mcf_plan_ranges.proofs.Calls.{feasible_here, instance_is, never_beyond, one_each, one_price_each, shown_here}
use Rattle.mcf_ranges.specs.Ranges.{IsCostRange, IsShownInRange}
use Rattle.mcf_plan_ranges.proofs.residual.unit_range.Goals as goal

pub residual_problem-requires-clause-long : goal.residual_problem-requires-clause-long
residual_problem-requires-clause-long c = one_each c.args.model.now c.args.carries.now c.requires.plan

pub first_range-requires-clause-feasible : goal.first_range-requires-clause-feasible
first_range-requires-clause-feasible c =
    let is = instance_is c.args.model.now c.args.prices.now c.args.carries.now c.args.number c.args.less c.in-Ok.instance (sym c.in-Ok.is ∙ c.in_ok-made.ensures.exact) in
    feasible_here c.args.model.now c.args.prices.now c.args.carries.now c.args.number c.args.less c.place_count-places.ensures.proper.sound c.requires.within c.requires.plan
    c.requires.shown c.requires.number c.in-Ok.instance is

pub first_range-requires-clause-shown : goal.first_range-requires-clause-shown
first_range-requires-clause-shown c =
    let is = instance_is c.args.model.now c.args.prices.now c.args.carries.now c.args.number c.args.less c.in-Ok.instance (sym c.in-Ok.is ∙ c.in_ok-made.ensures.exact) in
    shown_here c.args.model.now c.args.prices.now c.args.carries.now c.args.number c.args.less c.place_count-places.ensures.proper.sound c.requires.within c.requires.plan
    c.requires.shown c.requires.number c.in-Ok.instance is

pub first_range-requires-clause-one_per_node : goal.first_range-requires-clause-one_per_node
first_range-requires-clause-one_per_node c =
    let is = instance_is c.args.model.now c.args.prices.now c.args.carries.now c.args.number c.args.less c.in-Ok.instance (sym c.in-Ok.is ∙ c.in_ok-made.ensures.exact) in
    one_price_each c.args.model.now c.args.prices.now c.args.carries.now c.args.number c.args.less c.place_count-places.ensures.proper.sound c.requires.within c.requires.plan
    c.requires.shown c.requires.number c.in-Ok.instance is

pub returns-in-Ok-clause-exact : goal.returns-in-Ok-clause-exact
returns-in-Ok-clause-exact c =
    let is = instance_is c.args.model.now c.args.prices.now c.args.carries.now c.args.number c.args.less c.in-Ok.instance (sym c.in-Ok.is ∙ c.in_ok-made.ensures.exact) in
    subst (λ n. IfOk c.first_range.result (IsCostRange n (still n.arcs) 1)) is c.first_range.ensures.exact

pub returns-in-Ok-clause-shown : goal.returns-in-Ok-clause-shown
returns-in-Ok-clause-shown c =
    let is = instance_is c.args.model.now c.args.prices.now c.args.carries.now c.args.number c.args.less c.in-Ok.instance (sym c.in-Ok.is ∙ c.in_ok-made.ensures.exact) in
    subst (λ n. IfOk c.first_range.result (IsShownInRange n (still n.arcs) 1)) is c.first_range.ensures.shown

pub returns-in-Err-clause-exact : goal.returns-in-Err-clause-exact
returns-in-Err-clause-exact c =
    absurd (never_beyond c.args.model.now c.args.prices.now c.args.carries.now c.args.number c.args.less c.place_count-places.ensures.proper.sound c.requires.within c.requires.plan
    c.requires.shown c.requires.number c.in_ok-made.made c.in-Err.field-0 c.in-Err.is c.in_ok-made.ensures.well_formed.1)

pub returns-in-Err-clause-shown : goal.returns-in-Err-clause-shown
returns-in-Err-clause-shown c =
    absurd (never_beyond c.args.model.now c.args.prices.now c.args.carries.now c.args.number c.args.less c.place_count-places.ensures.proper.sound c.requires.within c.requires.plan
    c.requires.shown c.requires.number c.in_ok-made.made c.in-Err.field-0 c.in-Err.is c.in_ok-made.ensures.well_formed.1)
