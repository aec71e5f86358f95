use Rattle.std.proofs.Common.{List, ℕ, ◌≡◌, ◌++◌, subst, Ok}
use Rattle.std.specs.Prelude.{OnOk, Option}
use Rattle.mcf_answer_rows.proofs.RowTexts.{two_put}
use Rattle.mcf_answer_rows.specs.Lines.{rows_text}
use Rattle.mcf_period_text.specs.TimedTables.{timed_in}
use Rattle.mcf_range_text.specs.PeriodUnitTexts.{departure_room_rows, keep_room_rows, period_pass_rows, period_supply_rows}
use Rattle.mcf_range_text.specs.declared.supplies.SupplyRange.{SupplyRange}
use Rattle.mcf_unit_ranges.specs.declared.ranging.UnitsRange.{UnitsRange}
use Rattle.mcf_range_text.proofs.period_unit_rows.put_timed_units.Goals as goal

pub returns : goal.returns
returns c =
    let t = timed_in c.args.timed in
    let scales = c.args.scales in
    let ranges = c.args.ranges.now in
    let old = c.args.out.now.items in
    let rooms = departure_room_rows t scales ranges.rooms.items in
    let keeps = keep_room_rows t scales ranges.rooms.items in
    let passes = period_pass_rows t scales ranges.passes.items in
    let supplies = period_supply_rows t scales ranges.supplies.items in
    let first = subst (λ (rs : List (Option UnitsRange)). c.put_departure_rooms.new.out.items ≡ old ++ rows_text (departure_room_rows t scales rs))
    c.deref.ensures.value c.in_ok-put_departure_rooms.ensures in
    let second = subst (λ (rs : List (Option UnitsRange)). c.put_keep_rooms.new.out.items
    ≡ c.put_departure_rooms.new.out.items ++ rows_text (keep_room_rows t scales rs)) c.deref-2.ensures.value c.in_ok-put_keep_rooms.ensures in
    let third = subst (λ (rs : List (Option UnitsRange)). c.put_passes.new.out.items
    ≡ c.put_keep_rooms.new.out.items ++ rows_text (period_pass_rows t scales rs)) c.deref-3.ensures.value c.in_ok-put_passes.ensures in
    let fourth = subst (λ (rs : List (Option SupplyRange)). OnOk c.put_supplies.result (c.put_supplies.new.out.items
    ≡ c.put_passes.new.out.items ++ rows_text (period_supply_rows t scales rs))) c.deref-4.ensures.value c.put_supplies.ensures in
    let both : c.put_keep_rooms.new.out.items ≡ old ++ rows_text (rooms ++ keeps) =
    two_put {E = ℕ} (Ok tt) old c.put_departure_rooms.new.out.items c.put_keep_rooms.new.out.items rooms keeps first second in
    let rest = two_put c.put_supplies.result c.put_keep_rooms.new.out.items c.put_passes.new.out.items c.put_supplies.new.out.items passes supplies third fourth in
    two_put c.put_supplies.result old c.put_keep_rooms.new.out.items c.put_supplies.new.out.items (rooms ++ keeps) (passes ++ supplies) both rest
