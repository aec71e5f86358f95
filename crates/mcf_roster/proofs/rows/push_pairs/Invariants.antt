use Rattle.std.proofs.Common.{◌≡◌, ◌++◌, map, take}
use Rattle.mcf_roster.specs.TableRows.{pair_row}
use Rattle.mcf_roster.proofs.rows.push_pairs.Given as goal

abbrev pub invariant-loop-place : goal.invariant-loop-place
invariant-loop-place l = l.rows.items ≡ l.initial.rows.items ++ map (pair_row l.persons) (take l.place l.pairs)
