use Rattle.std.proofs.Common.{◌≡◌, ◌++◌, map}
use Rattle.std.specs.List.{flat_map, range_with_len}
use Rattle.mcf_table.specs.Heads.{cells_of}
use Rattle.mcf_reading.specs.PlaceRows.{place_entry, place_faults, read_place}
use Rattle.mcf_reading.proofs.place_rows.read_places.Given as goal

abbrev pub invariant-loop-place : goal.invariant-loop-place
invariant-loop-place l = record {
  entries : l.made.items ≡ map (λ row. place_entry (read_place l.mark l.columns (cells_of l.records row))) (range_with_len 1 l.place);
  faults : l.faults.items
      ≡ l.initial.faults.items ++ flat_map (λ row. place_faults l.mark l.columns l.names row (cells_of l.records row)) (range_with_len 1 l.place);
}
