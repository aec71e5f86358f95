use Rattle.std.proofs.Common.{◌∙◌, arith}
use Rattle.mcf_groups.proofs.BoundLists.{bounds_next}
use Rattle.mcf_groups.proofs.bounds.push_links.Goals as goal

pub loop-place-preserved : goal.loop-place-preserved
loop-place-preserved c =
    bounds_next c.args.cut.marks.now c.args.cut.side c.args.group c.args.range c.args.links.now c.loop-place.place _ c.loop-place.found.items
    c.push_bound.new.found.items (omega arith) c.in_ok-push_bound.ensures
    ∙ c.loop-place.invariant
