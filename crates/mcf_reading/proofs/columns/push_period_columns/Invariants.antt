use Rattle.std.proofs.Common.{◌≡◌, ◌++◌, take}
use Rattle.std.specs.List.{flat_map}
use Rattle.mcf_reading.specs.ShownMarks.{placed_column}
use Rattle.mcf_reading.proofs.columns.push_period_columns.Given as goal
use Rattle.mcf_table.specs.Heads.{column_of, only_place}

abbrev pub invariant-loop-head : goal.invariant-loop-head
invariant-loop-head l =
    l.columns.items
    ≡ l.initial.columns.items ++ flat_map (λ head. placed_column (only_place (column_of head.now l.records))) (take l.head-index l.heads)
