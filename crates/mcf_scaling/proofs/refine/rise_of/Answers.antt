use Rattle.std.proofs.Common.{◌≡◌, rules, ◌∙◌, arith, to_z, of_z}
use mir.Syntax.{w128}
use Rattle.std.proofs.lemmas.Int.{ints, to_z-of_z}
use Rattle.mcf_scaling.proofs.Sizes.{least_up_to, power_up_to, rise_up_to}
use Rattle.mcf_scaling.proofs.refine.rise_of.Goals as goal

pub unreachable-requires : goal.unreachable-requires
unreachable-requires c = c.requires.some c.in_default.ensures.none

pub sum-requires-clause-a : goal.sum-requires-clause-a
sum-requires-clause-a c =
    let same : to_z w128 (of_z w128 c.in-Some.least) ≡ c.in-Some.least = search (rules, to_z-of_z) in
    rw same (least_up_to c.args.state.now c.args.prices.now c.args.v c.in-Some.least c.requires.flow c.requires.prices c.in-Some.ensures.some)

pub sum-requires-clause-b : goal.sum-requires-clause-b
sum-requires-clause-b c =
    let same : to_z w128 (of_z w128 c.power.result) ≡ c.power.result = search (rules, to_z-of_z) in
    rw (same, c.power.ensures) (power_up_to c.args.scale c.requires.scale)

pub returns-clause-value : goal.returns-clause-value
returns-clause-value c =
    let same : to_z w128 (of_z w128 c.in-Some.least) ≡ c.in-Some.least = search (rules, to_z-of_z) in
    let power : to_z w128 (of_z w128 c.power.result) ≡ c.power.result = search (rules, to_z-of_z) in
    let total : to_z w128 (of_z w128 c.sum.result) ≡ c.sum.result = search (rules, to_z-of_z) in
    let e = c.power.ensures in
    let is = c.sum.ensures in
    (c.in-Some.least, c.in-Some.ensures.some, total ∙ omega (arith, ints, is, same, power, e))

pub returns-clause-small : goal.returns-clause-small
returns-clause-small c =
    let same : to_z w128 (of_z w128 c.in-Some.least) ≡ c.in-Some.least = search (rules, to_z-of_z) in
    let power : to_z w128 (of_z w128 c.power.result) ≡ c.power.result = search (rules, to_z-of_z) in
    let total : to_z w128 (of_z w128 c.sum.result) ≡ c.sum.result = search (rules, to_z-of_z) in
    let e = c.power.ensures in
    let is = c.sum.ensures in
    rise_up_to c.args.state.now c.args.prices.now c.args.v c.args.scale c.in-Some.least _ c.requires.flow c.requires.prices c.requires.scale
    c.in-Some.ensures.some (total ∙ omega (arith, ints, is, same, power, e))
