use Rattle.std.proofs.Common.{◌≡◌, ◌++◌, map}
use Rattle.std.specs.List.{range_with_len}
use Rattle.mcf_roster.specs.TableRows.{thing_row}
use Rattle.mcf_roster.proofs.rows.push_things.Given as goal

abbrev pub invariant-loop-place : goal.invariant-loop-place
invariant-loop-place l = l.rows.items ≡ l.initial.rows.items ++ map (thing_row l.persons l.hub l.needs) (range_with_len 1 l.place)
