use Rattle.std.proofs.Common.{◌≡◌, ◌++◌, drop, map, slice_index_or}
use Rattle.mcf_table.specs.Texts.{no_record}
use Rattle.mcf_answer_rows.proofs.table_rows.push_cells.Given as goal

abbrev pub invariant-loop-place : goal.invariant-loop-place
invariant-loop-place l =
    map (λ cell. cell.now) l.cells.items ++ drop l.place (slice_index_or l.records l.row no_record).cells
    ≡ map (λ cell. cell.now) l.initial.cells.items ++ (slice_index_or l.records l.row no_record).cells
