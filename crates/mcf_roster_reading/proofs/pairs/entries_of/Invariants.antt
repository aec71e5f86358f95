use Rattle.std.proofs.Common.{◌≡◌, map, take}
use Rattle.mcf_roster_reading.specs.Pairs.{pair_entry}
use Rattle.mcf_roster_reading.proofs.pairs.entries_of.Given as goal

abbrev pub invariant-loop-pair : goal.invariant-loop-pair
invariant-loop-pair l =
    l.made.items ≡ map (pair_entry l.mark l.persons l.things l.records) (take l.pair-index l.pairs)
