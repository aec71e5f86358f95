use Rattle.std.proofs.Common.{◌≡◌, true}
use Rattle.std.specs.List.{list_all, range_with_len}
use Rattle.mcf_forms.specs.Totals.{may_sum}
use Rattle.mcf_forms.proofs.totals.are_sums.Given as goal

abbrev pub invariant-loop-place : goal.invariant-loop-place
invariant-loop-place l = list_all (may_sum l.records l.row) (range_with_len 0 l.place) ≡ true
