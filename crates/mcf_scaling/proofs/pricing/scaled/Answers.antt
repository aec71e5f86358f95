use mir.Syntax.{w128}
use Rattle.std.proofs.Math.IntN.{◌*ℤ◌}
use Rattle.std.proofs.lemmas.Int.{to_z-of_z}
use Rattle.mcf_scaling.proofs.Sizes.{short_product}
use Rattle.mcf_scaling.proofs.pricing.scaled.Goals as goal

pub overflow_mul-result : goal.overflow_mul-result
overflow_mul-result c =
    rw (to_z-of_z w128 c.args.cost c.ranges.cost, to_z-of_z w128 c.args.scale c.ranges.scale)
    (short_product c.args.cost c.args.scale c.requires.cost c.requires.scale).fits

pub returns-clause-value : goal.returns-clause-value
returns-clause-value c =
    let cost = to_z-of_z w128 c.args.cost c.ranges.cost in
    let scale = to_z-of_z w128 c.args.scale c.ranges.scale in
    let short = short_product c.args.cost c.args.scale c.requires.cost c.requires.scale in
    rw (cost, scale) (to_z-of_z w128 (c.args.cost *ℤ c.args.scale) short.fits)

pub returns-clause-small : goal.returns-clause-small
returns-clause-small c =
    let cost = to_z-of_z w128 c.args.cost c.ranges.cost in
    let scale = to_z-of_z w128 c.args.scale c.ranges.scale in
    let short = short_product c.args.cost c.args.scale c.requires.cost c.requires.scale in
    let same = to_z-of_z w128 (c.args.cost *ℤ c.args.scale) short.fits in
    rw (cost, scale) (rw same (short.low, short.high))
