use Rattle.std.proofs.Common.{◌≡◌, ◌==◌, [], map}
use Rattle.std.specs.List.{range_with_len}
use Rattle.std.specs.Prelude.{if◌then◌else◌, slice_index_or}
use Rattle.mcf_table.specs.Heads.{cells_of}
use Rattle.mcf_forms.proofs.filled.with_cell.Given as goal

abbrev pub invariant-loop-other : goal.invariant-loop-other
invariant-loop-other l =
    map (λ cell. cell.now) l.made.items
    ≡ map (λ other. if other == l.place then l.value else slice_index_or (cells_of l.records l.row) other []) (range_with_len 0 l.other)
