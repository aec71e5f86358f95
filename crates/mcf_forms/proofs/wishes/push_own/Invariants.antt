use Rattle.std.proofs.Common.{◌≡◌, ◌++◌, map}
use Rattle.std.specs.List.{flat_map, range_with_len}
use Rattle.mcf_forms.specs.Wishes.{own_at}
use Rattle.mcf_forms.proofs.wishes.push_own.Given as goal

abbrev pub invariant-loop-place : goal.invariant-loop-place
invariant-loop-place l =
    map (λ cell. cell.now) l.made.items ≡ map (λ cell. cell.now) l.initial.made.items ++ flat_map (own_at l.sheet l.row) (range_with_len 0 l.place)
