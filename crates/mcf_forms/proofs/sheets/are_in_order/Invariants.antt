use Rattle.std.proofs.Common.{◌≡◌, true}
use Rattle.std.specs.List.{list_all, range_with_len}
use Rattle.mcf_forms.specs.Wishes.{is_in_order}
use Rattle.mcf_forms.proofs.sheets.are_in_order.Given as goal

abbrev pub invariant-loop-place : goal.invariant-loop-place
invariant-loop-place l = list_all (is_in_order l.ranks) (range_with_len 0 l.place) ≡ true
