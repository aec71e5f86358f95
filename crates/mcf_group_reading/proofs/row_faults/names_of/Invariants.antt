use Rattle.std.proofs.Common.{◌≡◌, map, take}
use Rattle.mcf_group_reading.proofs.row_faults.names_of.Given as goal

abbrev pub invariant-loop-text : goal.invariant-loop-text
invariant-loop-text l = map (λ name. name.now) l.found.items ≡ map (λ text. text.items) (take l.text-index l.texts)
