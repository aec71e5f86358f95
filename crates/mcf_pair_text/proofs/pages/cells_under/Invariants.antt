use Rattle.std.proofs.Common.{◌≡◌, ◌++◌, drop, map}
use Rattle.mcf_pair_text.specs.PairPlaces.{cell_of}
use Rattle.mcf_pair_text.proofs.pages.cells_under.Given as goal

abbrev pub invariant-loop-row : goal.invariant-loop-row
invariant-loop-row l =
    map (λ cell. cell.now) l.made.items ++ map (cell_of l.place) (drop l.row l.records) ≡ map (cell_of l.place) (drop 1 l.records)
