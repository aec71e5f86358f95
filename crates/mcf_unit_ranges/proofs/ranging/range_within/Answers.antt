use Rattle.std.proofs.Common.{◌≡◌, Bool, true, false, subst}
use Rattle.std.specs.Prelude.{Option, IfSome}
use Rattle.mcf_unit_ranges.specs.Private.Plans.{HasPlan}
use Rattle.mcf_unit_ranges.proofs.ToldRanges.{is_closed, range_free}
use Rattle.mcf_unit_ranges.proofs.ranging.range_within.Goals as goal

pub returns-in-Some-true-clause-some : goal.returns-in-Some-true-clause-some
returns-in-Some-true-clause-some g c =
    let has = subst (λ (o : Option Bool). IfSome o (λ h. h ≡ true → HasPlan c.in_ok-free.free)) c.in-Some-true.is c.in_ok-has_plan.ensures.some in
    range_free c.args.model.now c.args.prices.now c.args.ends.from c.args.ends.to c.place_count-places.ensures.proper.sound c.requires.from c.requires.to
    c.in_ok-free.free c.in_ok-free.ensures (has c.in-Some-true.field-0-test)

pub limited_range-requires-clause-closed : goal.limited_range-requires-clause-closed
limited_range-requires-clause-closed g c =
    let none = subst (λ (o : Option Bool). IfSome o (λ h. h ≡ false → ¬ HasPlan c.in_ok-free.free)) c.in-Some-false.is c.in_ok-has_plan.ensures.closed in
    is_closed c.args.model.now c.args.prices.now c.args.ends.from c.args.ends.to c.place_count-places.ensures.proper.sound c.requires.from c.requires.to
    c.in_ok-free.free c.in_ok-free.ensures (none c.in-Some-false.field-0-test)
