use Rattle.std.proofs.Common.{◌≡◌, false, take, pos, int_lt}
use Rattle.std.specs.List.{list_any}
use Rattle.mcf_model.proofs.faults.takes_below.Given as goal

abbrev pub invariant-loop-place : goal.invariant-loop-place
invariant-loop-place l = list_any (λ s. int_lt s.most (pos 0)) (take l.place l.own) ≡ false
