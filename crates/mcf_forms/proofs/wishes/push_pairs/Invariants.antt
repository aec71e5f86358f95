use Rattle.std.proofs.Common.{◌≡◌, ◌++◌}
use Rattle.std.specs.List.{flat_map, range_with_len}
use Rattle.mcf_forms.specs.Wishes.{pair_at}
use Rattle.mcf_forms.proofs.wishes.push_pairs.Given as goal

abbrev pub invariant-loop-place : goal.invariant-loop-place
invariant-loop-place l = l.made ≡ l.initial.made ++ flat_map (pair_at l.sheet l.row) (range_with_len 0 l.place)
