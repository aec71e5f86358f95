use Rattle.std.proofs.Common.{◌≡◌, map, take}
use Rattle.mcf_reading.specs.ShownMarks.{number_column}
use Rattle.mcf_reading.proofs.columns.number_columns.Given as goal

abbrev pub invariant-loop-head : goal.invariant-loop-head
invariant-loop-head l = l.made.items ≡ map (number_column l.records) (take l.head-index l.heads)
