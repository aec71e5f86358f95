use Rattle.std.proofs.Common.{◌≡◌, ◌++◌, map, take, drop}
use Rattle.mcf_model.specs.Complements.{turned_if}
use Rattle.mcf_groups.proofs.answering.turn_all.Given as goal

abbrev pub invariant-loop-place : goal.invariant-loop-place
invariant-loop-place l = l.table ≡ map (turned_if l.turned) (take l.place l.initial.table) ++ drop l.place l.initial.table
