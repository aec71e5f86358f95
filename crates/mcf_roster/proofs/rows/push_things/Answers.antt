use Rattle.std.proofs.Common.{◌∙◌, ◌+◌, ap, pos}
use Rattle.mcf_roster.specs.TableRows.{thing_row, plain_row}
use Rattle.mcf_roster.proofs.RowSteps.{entry_more, range_next}
use Rattle.mcf_roster.proofs.rows.push_things.Goals as goal

pub loop-place-preserved : goal.loop-place-preserved
loop-place-preserved c =
    entry_more (thing_row c.args.persons c.args.hub c.args.needs.now) c.args.rows.now.items c.loop-place.rows.items c.push.new.self.items c.loop-place.place
    c.plain_row-row.result c.loop-place.invariant c.in_ok-push.ensures.items
    (c.plain_row-row.ensures
    ∙ ap (λ r. plain_row (c.args.persons + (c.loop-place.place + 1)) c.args.hub r (pos 0)) (range_next c.args.needs.now c.loop-place.place))
