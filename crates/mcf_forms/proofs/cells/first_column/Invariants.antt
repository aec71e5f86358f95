use Rattle.std.proofs.Common.{◌≡◌, ◌-◌, length}
use Rattle.std.specs.List.{range_with_len}
use Rattle.std.specs.Prelude.{find}
use Rattle.std.specs.Str.{str_eq_ignore_ascii_case}
use Rattle.mcf_table.specs.Heads.{head_at, heads}
use Rattle.mcf_forms.specs.Cells.{first_column}
use Rattle.mcf_forms.proofs.cells.first_column.Given as goal

abbrev pub invariant-loop-place : goal.invariant-loop-place
invariant-loop-place l =
    find (λ place. str_eq_ignore_ascii_case (head_at l.records place) l.head) (range_with_len l.place (length (heads l.records) - l.place))
    ≡ first_column l.head l.records
