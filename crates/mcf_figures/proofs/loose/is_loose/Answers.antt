use Rattle.std.proofs.Common.{◌≡◌, arith, to_z, of_z}
use Rattle.std.specs.Int.{w128}
use Rattle.std.proofs.lemmas.Int.{ints}
use Rattle.mcf_model.specs.Tables.{route_with}
use Rattle.mcf_figures.proofs.LooseRoutes.{both_case}
use Rattle.mcf_figures.proofs.loose.is_loose.Goals as goal

pub returns-then-row : goal.returns-then-row
returns-then-row c =
    let x : to_z w128 (of_z w128 c.args.carried) ≡ c.args.carried = omega (arith, ints, c.ranges.carried.sfits) in
    let d : to_z w128 (of_z w128 c.args.drop) ≡ c.args.drop = omega (arith, ints, c.ranges.drop.sfits) in
    both_case (route_with c.args.row c.args.own.now) c.args.carried _ c.args.drop _ c.is_between_both.result c.if-row.true x d c.is_between_both.ensures
