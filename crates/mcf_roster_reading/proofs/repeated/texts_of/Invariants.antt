use Rattle.std.proofs.Common.{◌≡◌, map, take}
use Rattle.mcf_roster_reading.specs.Repeated.{text_of}
use Rattle.mcf_roster_reading.proofs.repeated.texts_of.Given as goal

abbrev pub invariant-loop-pair : goal.invariant-loop-pair
invariant-loop-pair l = map (λ text. text.items) l.made.items ≡ map (text_of l.records) (take l.pair-index l.pairs)
