use Rattle.std.proofs.Common.{◌≡◌, pos, arith, rules, to_z, of_z}
use mir.Syntax.{w128}
use Rattle.std.proofs.lemmas.Int.{ints, to_z-of_z}
use Rattle.mcf_engine.proofs.LabelLengths.{scaled_up_to}
use Rattle.mcf_engine.proofs.raising.scaled.Goals as goal

pub overflow_mul-result : goal.overflow_mul-result
overflow_mul-result c =
    let small = scaled_up_to c.args.scale c.args.cost c.requires.scale c.requires.cost in
    let a : to_z w128 (of_z w128 c.args.cost) ≡ c.args.cost = search (rules, to_z-of_z) in
    let b : to_z w128 (of_z w128 c.from.result) ≡ pos c.args.scale = search (rules, to_z-of_z) in
    rw (a, b) (omega (arith, ints, small))

pub returns-clause-value : goal.returns-clause-value
returns-clause-value c =
    let small = scaled_up_to c.args.scale c.args.cost c.requires.scale c.requires.cost in
    let a : to_z w128 (of_z w128 c.args.cost) ≡ c.args.cost = search (rules, to_z-of_z) in
    let b : to_z w128 (of_z w128 c.from.result) ≡ pos c.args.scale = search (rules, to_z-of_z) in
    rw (a, b) (omega (arith, ints, small))

pub returns-clause-small : goal.returns-clause-small
returns-clause-small c =
    let small = scaled_up_to c.args.scale c.args.cost c.requires.scale c.requires.cost in
    let a : to_z w128 (of_z w128 c.args.cost) ≡ c.args.cost = search (rules, to_z-of_z) in
    let b : to_z w128 (of_z w128 c.from.result) ≡ pos c.args.scale = search (rules, to_z-of_z) in
    rw (a, b) (omega (arith, ints, small), omega (arith, ints, small))
