use Rattle.std.proofs.Common.{◌≡◌, ◌++◌, drop}
use Rattle.std.specs.Prelude.{suc}
use Rattle.mcf_groups.specs.MarkedPlaces.{link_bounds}
use Rattle.mcf_groups.proofs.bounds.push_links.Given as goal

abbrev pub invariant-loop-place : goal.invariant-loop-place
invariant-loop-place l =
    l.found.items ++ link_bounds l.cut.marks.now l.cut.side l.group l.range (suc l.place) (drop l.place l.links)
    ≡ l.initial.found.items ++ link_bounds l.cut.marks.now l.cut.side l.group l.range 1 l.links
