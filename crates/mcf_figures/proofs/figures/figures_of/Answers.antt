use Rattle.std.proofs.Common.{◌≡◌, ◌-ℤ◌, arith, subst, to_z, of_z}
use Rattle.std.specs.Int.{w128}
use Rattle.std.proofs.lemmas.Int.{ints}
use Rattle.mcf_flows.specs.WellFormed.{IsUpTo}
use Rattle.mcf_model.specs.Tables.{route_with}
use Rattle.mcf_figures.specs.Figures.{figure_limit}
use Rattle.mcf_figures.proofs.Told.{same_numbers}
use Rattle.mcf_figures.proofs.figures.figures_of.Goals as goal

pub returns-then-small_head-clause-some : goal.returns-then-small_head-clause-some
returns-then-small_head-clause-some c =
    let x : to_z w128 (of_z w128 c.args.carried) ≡ c.args.carried = omega (arith, ints, c.ranges.carried.sfits) in
    let d : to_z w128 (of_z w128 c.drop_of-drop.result) ≡ c.drop_of-drop.result = omega (arith, ints, c.drop_of-drop.type_inv) in
    let drop : c.drop_of-drop.result ≡ c.args.tail -ℤ c.args.head = omega (arith, ints, c.drop_of-drop.ensures.value, c.ranges.tail.sfits, c.ranges.head.sfits) in
    same_numbers (route_with c.args.row c.args.own.now) c.args.carried _ c.drop_of-drop.result _ _ c.numbers_of.result x d drop c.numbers_of.ensures

pub returns-then-small_head-clause-small : goal.returns-then-small_head-clause-small
returns-then-small_head-clause-small c =
    let x : to_z w128 (of_z w128 c.args.carried) ≡ c.args.carried = omega (arith, ints, c.ranges.carried.sfits) in
    let t : to_z w128 (of_z w128 c.args.tail) ≡ c.args.tail = omega (arith, ints, c.ranges.tail.sfits) in
    let h : to_z w128 (of_z w128 c.args.head) ≡ c.args.head = omega (arith, ints, c.ranges.head.sfits) in
    record {
      amount = subst (IsUpTo figure_limit) x (c.is_small-small.ensures.limit.0 c.if-small.true);
      at_tail = subst (IsUpTo figure_limit) t (c.is_small-small_tail.ensures.limit.0 c.if-small_tail.true);
      at_head = subst (IsUpTo figure_limit) h (c.is_small-small_head.ensures.limit.0 c.if-small_head.true);
    }
