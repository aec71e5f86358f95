use Rattle.std.proofs.Common.{rules, ◌≡◌, sym, subst, to_z, of_z, ℤ}
use Rattle.std.specs.Int.{w128}
use Rattle.std.specs.Prelude.{Option, IfNone, IfSome, ◌⊎◌}
use Rattle.mcf_unit_ranges.specs.Private.Plans.{CarriesFirst, HasPlan}
use Rattle.mcf_unit_ranges.specs.Told.{FitsLimits, IsRangeAt, IsUntold}
use Rattle.mcf_unit_ranges.proofs.ToldRanges.{none_from, range_most, some_range, untold_beside, untold_spans}
use Rattle.mcf_unit_ranges.proofs.ranging.limited_range.Goals as goal

pub returns-in-Some-clause-some : goal.returns-in-Some-clause-some
returns-in-Some-clause-some g c =
    let m = c.args.model.now in
    let prices = c.args.prices.now in
    let u = c.args.ends.from in
    let w = c.args.ends.to in
    let read : to_z w128 (of_z w128 c.in-Some.spare) ≡ c.in-Some.spare = search rules in
    let first = subst (CarriesFirst c.in_ok-spans.spans) (sym read) (subst (λ (o : Option ℤ). IfSome o (CarriesFirst c.in_ok-spans.spans)) c.in-Some.is c.in_ok-spare.ensures.some) in
    some_range (IsRangeAt m prices u w) _ _ c.range_beside.result c.range_beside.ensures.some
    (λ some. range_most m prices u w c.place_count-places.ensures.proper.sound c.requires.from c.requires.to c.in_ok-spans.spans _ c.in_ok-spans.ensures first some)

pub returns-in-Some-clause-none : goal.returns-in-Some-clause-none
returns-in-Some-clause-none g c =
    let m = c.args.model.now in
    let prices = c.args.prices.now in
    let u = c.args.ends.from in
    let w = c.args.ends.to in
    let read : to_z w128 (of_z w128 c.in-Some.spare) ≡ c.in-Some.spare = search rules in
    let first = subst (CarriesFirst c.in_ok-spans.spans) (sym read) (subst (λ (o : Option ℤ). IfSome o (CarriesFirst c.in_ok-spans.spans)) c.in-Some.is c.in_ok-spare.ensures.some) in
    none_from c.range_beside.result _ (IsUntold m prices u w) c.range_beside.ensures.none
    (λ why. untold_beside m prices u w c.place_count-places.ensures.proper.sound c.requires.from c.requires.to c.in_ok-spans.spans _ c.requires.closed c.in_ok-spans.ensures first why)

pub returns-clause-none : goal.returns-clause-none
returns-clause-none g c =
    untold_spans c.args.model.now c.args.prices.now c.args.ends.from c.args.ends.to c.place_count-places.ensures.proper.sound c.requires.from c.requires.to
    c.in_ok-spans.spans c.requires.closed c.in_ok-spans.ensures
    (subst (λ (o : Option ℤ). IfNone o ((¬ FitsLimits c.in_ok-spans.spans) ⊎ (¬ HasPlan c.in_ok-spans.spans))) c.in-None.is c.in_ok-spare.ensures.none)
