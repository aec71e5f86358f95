use Rattle.std.proofs.Common.{◌≡◌, ◌∷◌, [], ◌++◌}
use Rattle.std.specs.List.{flat_map, range_with_len}
use Rattle.mcf_forms.specs.Wishes.{person_rows, wish_heads}
use Rattle.mcf_forms.proofs.wishes.wish_list.Given as goal

abbrev pub invariant-loop-row : goal.invariant-loop-row
invariant-loop-row l = l.made ≡ (wish_heads l.sheet ∷ []) ++ flat_map (person_rows l.sheet) (range_with_len 1 l.row)
