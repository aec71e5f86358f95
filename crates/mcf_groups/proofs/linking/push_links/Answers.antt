use Rattle.std.proofs.Common.{◌+◌}
use Rattle.mcf_roster.proofs.RowSteps.{entry_more}
use Rattle.mcf_groups.specs.LinkRows.{link_row}
use Rattle.mcf_groups.proofs.linking.push_links.Goals as goal

pub loop-place-preserved : goal.loop-place-preserved
loop-place-preserved c =
    let links = c.args.links in
    entry_more (λ v. link_row links.leave (links.old + v) (links.new + v) links.range) c.args.rows.now.items c.loop-place.rows.items c.push.new.self.items
    c.loop-place.place c.link_row-row.result c.loop-place.invariant c.in_ok-push.ensures.items c.link_row-row.ensures
