use Rattle.std.proofs.Common.{arith}
use Rattle.std.proofs.lemmas.Int.{ints}
use Rattle.mcf_scaling.proofs.QueueLaws.{tidy_next}
use Rattle.mcf_scaling.proofs.queue.tidy.Goals as goal

pub fronts-smaller : goal.fronts-smaller
fronts-smaller c =
    let (rest, e) = c.in-Some.ensures.some in
    let is = c.surplus.ensures.value in
    let test = c.if-surplus-gt0.false in
    (tidy_next c.args.state.now c.fronts.queue c.pop.new.self c.pop.result c.in-Some.v rest c.fronts.invariant e c.pop.ensures.some
    c.pop.ensures.empty c.pop.ensures.valid (omega (arith, ints, is, test))).1

pub fronts-preserved : goal.fronts-preserved
fronts-preserved c =
    let (rest, e) = c.in-Some.ensures.some in
    let is = c.surplus.ensures.value in
    let test = c.if-surplus-gt0.false in
    (tidy_next c.args.state.now c.fronts.queue c.pop.new.self c.pop.result c.in-Some.v rest c.fronts.invariant e c.pop.ensures.some
    c.pop.ensures.empty c.pop.ensures.valid (omega (arith, ints, is, test))).0
