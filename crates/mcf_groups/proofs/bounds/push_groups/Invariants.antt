use Rattle.std.proofs.Common.{◌≡◌, ◌++◌, drop}
use Rattle.std.specs.Prelude.{suc}
use Rattle.mcf_groups.specs.MarkedPlaces.{bounds_from}
use Rattle.mcf_groups.proofs.bounds.push_groups.Given as goal

abbrev pub invariant-loop-place : goal.invariant-loop-place
invariant-loop-place l =
    l.found.items ++ bounds_from l.cut.marks.now l.cut.side l.roster (suc l.place) l.rest (drop l.place l.groups)
    ≡ l.initial.found.items ++ bounds_from l.cut.marks.now l.cut.side l.roster 1 l.links l.groups
