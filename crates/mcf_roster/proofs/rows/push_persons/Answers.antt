use Rattle.std.proofs.Common.{◌∙◌, ◌+◌, ap, pos}
use Rattle.mcf_roster.specs.TableRows.{person_row, plain_row}
use Rattle.mcf_roster.proofs.RowSteps.{entry_more, range_next}
use Rattle.mcf_roster.proofs.rows.push_persons.Goals as goal

pub loop-place-preserved : goal.loop-place-preserved
loop-place-preserved c =
    entry_more (person_row c.args.hub c.args.takes.now) c.args.rows.now.items c.loop-place.rows.items c.push.new.self.items c.loop-place.place
    c.plain_row-row.result c.loop-place.invariant c.in_ok-push.ensures.items
    (c.plain_row-row.ensures ∙ ap (λ r. plain_row c.args.hub (c.loop-place.place + 1) r (pos 0)) (range_next c.args.takes.now c.loop-place.place))
