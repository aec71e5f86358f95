use Rattle.std.proofs.Common.{◌≡◌, ◌++◌, map, take}
use Rattle.mcf_groups.specs.LinkRows.{nested_row}
use Rattle.mcf_groups.specs.Nests.{nest_in}
use Rattle.mcf_groups.proofs.making.push_pairs.Given as goal

abbrev pub invariant-loop-place : goal.invariant-loop-place
invariant-loop-place l = l.rows.items ≡ l.initial.rows.items ++ map (nested_row (nest_in l.nest)) (take l.place l.pairs)
