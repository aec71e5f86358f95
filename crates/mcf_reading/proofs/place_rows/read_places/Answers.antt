use Rattle.std.proofs.Common.{◌∙◌, ◌+◌, ◌++◌, ◌∷◌, [], ap, arith}
use Rattle.mcf_table.specs.Heads.{cells_of}
use Rattle.mcf_reading.specs.PlaceRows.{place_entry, place_faults, read_place}
use Rattle.mcf_reading.specs.declared.place_rows.PlaceEntry.{PlaceEntry}
use Rattle.mcf_reading.proofs.Ranges.{made, pushed}
use Rattle.mcf_reading.proofs.place_rows.read_places.Goals as goal

pub loop-place-preserved : goal.loop-place-preserved
loop-place-preserved c =
    let records = c.args.records.now in
    let place = c.loop-place.place in
    let before = c.loop-place.made.items in
    let mark = c.args.mark in
    let columns = c.args.columns in
    record {
      entries = made (λ row. place_entry (read_place mark columns (cells_of records row))) 1 place (place + 1) before c.push.new.self.items (omega arith)
          c.loop-place.invariant.entries
          (c.in_ok-push.ensures.items ∙ ap (λ (entry : PlaceEntry). before ++ entry ∷ []) c.in_ok-entry.ensures.entry);
      faults = pushed (λ row. place_faults mark columns c.args.names.now row (cells_of records row)) 1 place (place + 1) c.args.faults.now.items
          c.loop-place.faults.items c.read_row.new.faults.items (omega arith) c.loop-place.invariant.faults c.in_ok-entry.ensures.faults;
    }
