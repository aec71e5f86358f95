use Rattle.std.proofs.Common.{◌≡◌, map, take}
use Rattle.mcf_roster_reading.specs.Cells.{cell_in}
use Rattle.mcf_roster_reading.proofs.naming.names_at.Given as goal

abbrev pub invariant-loop-at : goal.invariant-loop-at
invariant-loop-at l = map (λ name. name.now) l.found.items ≡ map (cell_in l.records) (take l.at-index l.places)
