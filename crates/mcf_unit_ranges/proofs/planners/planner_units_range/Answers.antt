use Rattle.std.proofs.Common.{List, ℕ, ℤ, ap, sym, ◌∙◌, subst, length}
use Rattle.std.specs.Prelude.{IfOk, IfSome}
use Rattle.mcf_flows.specs.Network.{IsNode}
use Rattle.mcf_places.specs.declared.places.Place.{Place}
use Rattle.mcf_places.specs.LimitedPlanners.{limited}
use Rattle.mcf_places.specs.Models.{exit_of}
use Rattle.mcf_unit_ranges.specs.PlannerUnits.{IsUnitsRangeBetween}
use Rattle.mcf_unit_ranges.specs.Told.{IsRangeAt}
use Rattle.mcf_unit_ranges.proofs.PlannerRanges.{leaves, units_between}
use Rattle.mcf_unit_ranges.proofs.RoomRanges.{range_ok}
use Rattle.mcf_unit_ranges.proofs.planners.planner_units_range.Goals as goal

pub units_range-requires-clause-to : goal.units_range-requires-clause-to
units_range-requires-clause-to g c =
    let P = c.args.planner.now in
    let p = c.args.least.now in
    let w = c.args.ends.to in
    subst (λ (v : ℕ). IsNode (length p.shown.model.supplies) v) (sym (c.exit_of-to.ensures ∙ ap (λ (ps : List Place). exit_of ps w) c.places-places.ensures.value))
    (leaves P p c.places-places.ensures.proper.sound c.requires.shown c.sound_planners_have_sound_models.ensures w c.requires.to)

pub returns-clause-range : goal.returns-clause-range
returns-clause-range g c =
    let P = c.args.planner.now in
    let p = c.args.least.now in
    let u = c.args.ends.from in
    let w = c.args.ends.to in
    let exit = c.exit_of-to.ensures ∙ ap (λ (ps : List Place). exit_of ps w) c.places-places.ensures.value in
    let told = subst (λ (xs : List ℤ). IfOk c.units_range.result (λ told. IfSome told (λ range. IsRangeAt p.shown.model xs u c.exit_of-to.result range.most))) c.deref.ensures.value c.units_range.ensures.range in
    let found = subst (λ (v : ℕ). IfOk c.units_range.result (λ told. IfSome told (λ range. IsRangeAt p.shown.model p.shown.prices.items u v range.most))) exit told in
    range_ok c.units_range.result (λ o. IsRangeAt p.shown.model p.shown.prices.items u (exit_of P.places w) o) (λ o. IsUnitsRangeBetween (limited P) p u w o)
    (λ o range. units_between P p c.places-places.ensures.proper.sound c.requires.shown c.units_are_the_models.ensures u w o c.requires.from c.requires.to range) found
