use Rattle.std.proofs.Common.{◌≡◌, arith, to_z, of_z}
use Rattle.std.specs.Int.{w128}
use Rattle.std.proofs.lemmas.Int.{ints}
use Rattle.mcf_model.specs.Tables.{route_with}
use Rattle.mcf_figures.proofs.Told.{numbers}
use Rattle.mcf_figures.proofs.figures.numbers_of.Goals as goal

pub returns : goal.returns
returns c =
    let x : to_z w128 (of_z w128 c.args.carried) ≡ c.args.carried = omega (arith, ints, c.ranges.carried.sfits) in
    let d : to_z w128 (of_z w128 c.args.drop) ≡ c.args.drop = omega (arith, ints, c.ranges.drop.sfits) in
    let saved : to_z w128 (of_z w128 c.saving-saves.result) ≡ c.saving-saves.result = omega (arith, ints, c.saving-saves.type_inv) in
    numbers (route_with c.args.row c.args.own.now) c.args.carried _ c.args.drop _ c.free-free.result c.dearer-dearer.result c.saving-saves.result _ c.is_loose-loose.result x d
    saved c.free-free.ensures c.saving-saves.ensures c.is_loose-loose.ensures c.dearer-dearer.ensures
