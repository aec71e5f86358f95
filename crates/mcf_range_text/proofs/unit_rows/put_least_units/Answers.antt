use Rattle.std.proofs.Common.{ap, append_assoc, List, ℕ, ◌≡◌, ◌++◌, ◌∙◌, subst, sym}
use Rattle.std.specs.Prelude.{OnOk, Option}
use Rattle.mcf_answer_rows.proofs.RowTexts.{rows_text_append, two_put}
use Rattle.mcf_answer_rows.specs.Lines.{rows_text}
use Rattle.mcf_plan_rows.specs.FaultRows.{tables_in}
use Rattle.mcf_range_text.specs.PassRangeTexts.{pass_range_rows}
use Rattle.mcf_range_text.specs.RoomRangeTexts.{room_range_rows}
use Rattle.mcf_range_text.specs.SupplyRangeTexts.{supply_range_rows}
use Rattle.mcf_range_text.specs.declared.supplies.SupplyRange.{SupplyRange}
use Rattle.mcf_unit_ranges.specs.declared.ranging.UnitsRange.{UnitsRange}
use Rattle.mcf_range_text.proofs.unit_rows.put_least_units.Goals as goal

pub returns : goal.returns
returns c =
    let two = tables_in c.args.two in
    let scales = c.args.scales in
    let old = c.args.out.now.items in
    let rooms = room_range_rows scales two.routes c.args.ranges.now.rooms.items in
    let passes = pass_range_rows scales two.places c.args.ranges.now.passes.items in
    let supplies = supply_range_rows scales two.places c.args.ranges.now.supplies.items in
    let first = subst (λ (rs : List (Option UnitsRange)). c.put_rooms.new.out.items ≡ old ++ rows_text (room_range_rows scales two.routes rs)) c.deref.ensures.value
    c.in_ok-put_rooms.ensures in
    let second = subst (λ (rs : List (Option UnitsRange)). c.put_passes.new.out.items ≡ c.put_rooms.new.out.items ++ rows_text (pass_range_rows scales two.places rs))
    c.deref-2.ensures.value c.in_ok-put_passes.ensures in
    let both : c.put_passes.new.out.items ≡ old ++ rows_text (rooms ++ passes) =
    second ∙ ap (λ (xs : List ℕ). xs ++ rows_text passes) first ∙ append_assoc old (rows_text rooms) (rows_text passes)
    ∙ ap (λ (xs : List ℕ). old ++ xs) (sym (rows_text_append rooms passes)) in
    let third = subst (λ (rs : List (Option SupplyRange)). OnOk c.put_supplies.result (c.put_supplies.new.out.items
    ≡ c.put_passes.new.out.items ++ rows_text (supply_range_rows scales two.places rs))) c.deref-3.ensures.value c.put_supplies.ensures in
    two_put c.put_supplies.result old c.put_passes.new.out.items c.put_supplies.new.out.items (rooms ++ passes) supplies both third
