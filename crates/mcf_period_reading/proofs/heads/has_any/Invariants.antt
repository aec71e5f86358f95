use Rattle.std.proofs.Common.{◌≡◌, false, take}
use Rattle.std.specs.List.{list_any}
use Rattle.mcf_period_reading.specs.PeriodHeads.{column_under}
use Rattle.mcf_period_reading.proofs.heads.has_any.Given as goal
use Rattle.mcf_table.specs.Heads.{is_there}

abbrev pub invariant-loop-place : goal.invariant-loop-place
invariant-loop-place l = list_any (λ head. is_there (column_under l.records head)) (take l.place l.heads) ≡ false
