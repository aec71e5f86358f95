use Rattle.std.proofs.Common.{◌≡◌, ◌*◌, ◌^◌, true, take, pos, neg_ℤ, ◌≤ℤ◌}
use Rattle.std.specs.List.{list_all}
use Rattle.mcf_forms.specs.Sums.{fits, sum_at}
use Rattle.mcf_forms.proofs.sums.sum_at.Given as goal

abbrev pub invariant-loop-place : goal.invariant-loop-place
invariant-loop-place l = record {
  fit : list_all (fits l.scale) (take l.place l.numbers) ≡ true;
  is : l.sum ≡ sum_at l.scale (take l.place l.numbers);
  low : neg_ℤ (pos (2 ^ 63 * l.place)) ≤ℤ l.sum;
  high : l.sum ≤ℤ pos (2 ^ 63 * l.place);
}
