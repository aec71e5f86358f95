use Rattle.std.proofs.Common.{◌≡◌, ◌∙◌, ap, arith, int_lt, pos, to_z, of_z, neg_ℤ}
use Rattle.std.specs.Int.{w128}
use Rattle.std.specs.Ordering.{int_eq}
use Rattle.std.proofs.lemmas.Int.{ints}
use Rattle.mcf_figures.proofs.LooseRoutes.{back_case}
use Rattle.mcf_figures.proofs.loose.is_between_both.Goals as goal

pub returns-then-below : goal.returns-then-below
returns-then-below c =
    let x : to_z w128 (of_z w128 c.turned-amount.result) ≡ neg_ℤ c.args.carried = omega (arith, ints, c.turned-amount.type_inv, c.turned-amount.ensures, c.ranges.carried.sfits) in
    let d : to_z w128 (of_z w128 c.turned-slope.result) ≡ neg_ℤ c.args.drop = omega (arith, ints, c.turned-slope.type_inv, c.turned-slope.ensures, c.ranges.drop.sfits) in
    let read : to_z w128 (of_z w128 c.args.carried) ≡ c.args.carried = omega (arith, ints, c.ranges.carried.sfits) in
    back_case c.args.own.now c.args.row.last_most c.args.row.last_cost c.args.carried _ c.args.drop _ c.is_zero-zero.result c.is_below_zero-below.result
    c.is_between.result (c.is_zero-zero.ensures ∙ ap (λ z. int_eq z (pos 0)) read) (c.is_below_zero-below.ensures ∙ ap (λ z. int_lt z (pos 0)) read) c.if-zero.false c.if-below.true x d c.is_between.ensures
