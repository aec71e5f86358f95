use Rattle.std.proofs.Common.{◌≡◌, ap, arith, length, refl, rules, subst, sym, ◌∙◌, Some, ℕ, ℤ, true}
use Rattle.std.specs.Int.{w128}
use Rattle.std.specs.List.{slice_get}
use Rattle.std.specs.Prelude.{FitsSigned}
use Rattle.std.proofs.lemmas.Int.{to_z-of_z}
use Rattle.std.proofs.lemmas.Option.{same_Some, slice_get_read}
use Rattle.mcf_checker.specs.Judging.{moved_agrees}
use Rattle.mcf_checker.proofs.SparseFlows.{agree_more, bad_moved-none, bad_moved-some}
use Rattle.mcf_checker.proofs.sparse.first_bad_moved.Goals as goal

pub returns-then-not-is_carried-clause-least : goal.returns-then-not-is_carried-clause-least
returns-then-not-is_carried-clause-least c =
    let moved = c.args.moved.now in
    let line = c.index-moved-place.result in
    let at : slice_get moved c.loop-place.place ≡ Some line =
    slice_get_read moved (length moved) c.loop-place.place line refl c.loop-place-test.true c.index-moved-place.is in
    let fits : FitsSigned w128 line.1 = search rules in
    let test = simp to_z-of_z at c.is_carried.ensures in
    ap Some c.get.ensures
    ∙ sym (bad_moved-some c.args.instance.now moved c.loop-place.place line at c.loop-place.invariant (sym test ∙ c.if-not-is_carried.true))

pub loop-place-preserved : goal.loop-place-preserved
loop-place-preserved c =
    let moved = c.args.moved.now in
    let line = c.index-moved-place.result in
    let at : slice_get moved c.loop-place.place ≡ Some line =
    slice_get_read moved (length moved) c.loop-place.place line refl c.loop-place-test.true c.index-moved-place.is in
    let fits : FitsSigned w128 line.1 = search rules in
    let test = simp to_z-of_z at c.is_carried.ensures in
    agree_more c.args.instance.now.arcs moved c.loop-place.place c.loop-place.invariant (λ m at-m.
    subst (λ (l : ℕ × ℤ). moved_agrees c.args.instance.now.arcs l ≡ true) (same_Some line m (sym at ∙ at-m)) (sym test ∙ c.if-not-is_carried.false))

pub returns-clause-least : goal.returns-clause-least
returns-clause-least c =
    sym (bad_moved-none c.args.instance.now c.args.moved.now (λ j h. c.loop-place.invariant j (omega (arith, h, c.loop-place-test.false))))
