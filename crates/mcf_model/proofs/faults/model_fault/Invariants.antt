use Rattle.std.proofs.Common.{◌≡◌, ◌+◌, drop}
use Rattle.mcf_model.specs.Faults.{fault_from, row_fault, some_earn}
use Rattle.mcf_model.proofs.faults.model_fault.Given as goal

abbrev pub invariant-loop-place : goal.invariant-loop-place
invariant-loop-place l =
    fault_from (row_fault l.places l.steps (some_earn l.steps l.rows)) (l.place + 1) (drop l.place l.rows)
    ≡ fault_from (row_fault l.places l.steps (some_earn l.steps l.rows)) 1 l.rows
