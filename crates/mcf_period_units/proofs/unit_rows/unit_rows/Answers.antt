use Rattle.std.proofs.Common.{◌∙◌, ◌+◌, ◌++◌, ◌∷◌, [], List, ap, arith}
use Rattle.mcf_period_reading.specs.declared.place_times.PlaceTime.{PlaceTime}
use Rattle.mcf_reading.proofs.Ranges.{made}
use Rattle.mcf_reading.specs.declared.place_rows.PlaceEntry.{PlaceEntry}
use Rattle.mcf_period_units.specs.PeriodEntries.{entry_at, time_at}
use Rattle.mcf_period_units.specs.UnitRows.{unit_row}
use Rattle.mcf_period_units.specs.declared.unit_rows.UnitRow.{UnitRow}
use Rattle.mcf_period_units.proofs.unit_rows.unit_rows.Goals as goal

pub loop-place-preserved : goal.loop-place-preserved
loop-place-preserved c =
    let place = c.loop-place.place in
    let s = c.args.scales in
    let entries = c.args.tables.now.places in
    let times = c.args.times.now.places.items in
    let before = c.loop-place.made.items in
    made (λ row. unit_row s (entry_at entries row) (time_at times row)) 1 place (place + 1) before c.push.new.self.items (omega arith) c.loop-place.invariant
    (c.in_ok-push.ensures.items ∙ ap (λ (u : UnitRow). before ++ u ∷ []) c.unit_row.ensures
    ∙ ap (λ (e : PlaceEntry). before ++ unit_row s e c.time_at-time.result ∷ [])
    (c.entry_at-entry.ensures ∙ ap (λ (es : List PlaceEntry). entry_at es (place + 1)) c.places-entries.ensures)
    ∙ ap (λ (t : PlaceTime). before ++ unit_row s (entry_at entries (place + 1)) t ∷ [])
    (c.time_at-time.ensures ∙ ap (λ (ts : List PlaceTime). time_at ts (place + 1)) c.deref.ensures.value))
