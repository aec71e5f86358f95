use Rattle.std.proofs.Common.{◌≡◌, take}
use Rattle.mcf_decimal.specs.Settled.{marks_of}
use Rattle.mcf_roster_reading.specs.CostMarks.{cost_cells}
use Rattle.mcf_roster_reading.proofs.marks.shown_marks.Given as goal

abbrev pub invariant-loop-pair : goal.invariant-loop-pair
invariant-loop-pair l = l.marks ≡ marks_of (cost_cells l.records (take l.pair-index l.pairs))
