use Rattle.std.proofs.Common.{arith, ◌<◌, length}
use Rattle.mcf_plan_ranges.proofs.Making.{pushed_two}
use Rattle.mcf_plan_ranges.proofs.residual.push_units.Goals as goal

pub loop-place-preserved : goal.loop-place-preserved
loop-place-preserved c =
    let end = c.requires.end in
    let inside : c.loop-place.place < length c.args.model.now.routes = omega (arith, c.loop-place-test.true, end) in
    let inside_too : c.loop-place.place < length c.args.carries.now = omega (arith, inside, c.requires.long) in
    pushed_two c.loop-place.arcs.items c.push.new.self.items c.push-in-loop-place.new.self.items c.arc_at-more.result c.arc_at-less.result
    c.loop-place.place c.args.end c.args.model.now.routes c.args.carries.now _ c.loop-place-test.true inside inside_too
    c.in_ok-push.ensures.items c.in_ok-push-2.ensures.items c.arc_at-more.ensures c.arc_at-less.ensures c.loop-place.invariant
