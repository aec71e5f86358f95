use Rattle.std.proofs.Common.{◌≡◌, ◌∙◌, ap, arith, w64, to_z, of_z}
use Rattle.std.specs.Int.{w128}
use Rattle.std.proofs.lemmas.Int.{ints}
use Rattle.mcf_model.specs.Model.{charged, room}
use Rattle.mcf_figures.proofs.units.left.Goals as goal

pub returns : goal.returns
returns c =
    let x : to_z w128 (of_z w128 c.args.carried) ≡ c.args.carried = omega (arith, ints, c.ranges.carried.sfits) in
    let y : to_z w64 (of_z w64 c.args.most) ≡ c.args.most = omega (arith, ints, c.ranges.most.sfits) in
    let e : c.room.result ≡ room c.args.own.now c.args.most = c.room.ensures.value ∙ ap (room c.args.own.now) y in
    let f : c.charged.result ≡ charged c.args.both c.args.carried = c.charged.ensures.value ∙ ap (charged c.args.both) x in
    omega (arith, ints, e, f, c.room.ensures.low, c.room.ensures.high, c.charged.ensures.small, c.room.type_inv, c.charged.type_inv)
