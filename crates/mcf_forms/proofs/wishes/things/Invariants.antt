use Rattle.std.proofs.Common.{◌≡◌, map}
use Rattle.std.specs.List.{flat_map, range_with_len}
use Rattle.mcf_forms.specs.Wishes.{things_in}
use Rattle.mcf_forms.proofs.wishes.things.Given as goal

abbrev pub invariant-loop-row : goal.invariant-loop-row
invariant-loop-row l = map (λ cell. cell.now) l.made.items ≡ flat_map (things_in l.sheet) (range_with_len 1 l.row)
