use Rattle.std.proofs.Common.{◌≡◌, false, take}
use Rattle.mcf_table.specs.HeadRows.{has_cell}
use Rattle.mcf_table.specs.Heads.{cells_of}
use Rattle.mcf_table.proofs.records.Records.has_head.Given as goal

abbrev pub invariant-cells : goal.invariant-cells
invariant-cells l = has_cell l.head (take l.place (cells_of l.self l.row)) ≡ false
