use Rattle.std.proofs.Common.{◌≡◌, ◌+◌, ◌++◌, drop}
use Rattle.mcf_model.specs.Faults.{faults_from}
use Rattle.mcf_model.proofs.faults.all_faults.Given as goal

abbrev pub invariant-loop-place : goal.invariant-loop-place
invariant-loop-place l =
    l.found.items ++ faults_from l.places l.steps l.earning (l.place + 1) (drop l.place l.rows) ≡ faults_from l.places l.steps l.earning 1 l.rows
