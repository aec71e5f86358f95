use Rattle.std.proofs.Common.{◌≡◌, ◌++◌, map}
use Rattle.std.specs.List.{range_with_len}
use Rattle.mcf_roster.specs.TableRows.{person_row}
use Rattle.mcf_roster.proofs.rows.push_persons.Given as goal

abbrev pub invariant-loop-place : goal.invariant-loop-place
invariant-loop-place l = l.rows.items ≡ l.initial.rows.items ++ map (person_row l.hub l.takes) (range_with_len 1 l.place)
