use Rattle.std.proofs.Common.{arith}
use Rattle.mcf_groups.specs.Counts.{broken_rows}
use Rattle.mcf_groups.proofs.Listing.{pushed}
use Rattle.mcf_groups.proofs.counting.push_broken.Goals as goal

pub loop-place-preserved : goal.loop-place-preserved
loop-place-preserved c =
    let place = c.loop-place.place in
    pushed (broken_rows c.args.number c.args.range c.args.tallied.now) 0 place place c.args.found.now.items c.loop-place.found.items
    c.push_outside.new.found.items (omega arith) c.loop-place.invariant c.in_ok-push_outside.ensures
