use Rattle.std.proofs.Common.{◌≡◌, false, take}
use Rattle.std.specs.List.{list_any}
use Rattle.mcf_model.specs.Faults.{earns}
use Rattle.mcf_model.specs.Tables.{own_steps}
use Rattle.mcf_model.proofs.faults.some_earn.Given as goal

abbrev pub invariant-loop-place : goal.invariant-loop-place
invariant-loop-place l = list_any (λ row. earns (own_steps l.steps row) row.last_cost) (take l.place l.rows) ≡ false
