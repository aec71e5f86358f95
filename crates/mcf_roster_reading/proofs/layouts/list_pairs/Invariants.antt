use Rattle.std.proofs.Common.{◌≡◌, map, take}
use Rattle.mcf_roster_reading.specs.Layouts.{list_pair}
use Rattle.mcf_roster_reading.proofs.layouts.list_pairs.Given as goal

abbrev pub invariant-loop-row : goal.invariant-loop-row
invariant-loop-row l =
    l.made.items ≡ map (list_pair l.columns.who l.columns.what l.columns.cost) (take l.row-index l.rows)
