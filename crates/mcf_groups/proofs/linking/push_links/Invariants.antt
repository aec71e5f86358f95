use Rattle.std.proofs.Common.{◌≡◌, ◌++◌}
use Rattle.mcf_groups.specs.LinkRows.{links_after}
use Rattle.mcf_groups.proofs.linking.push_links.Given as goal

abbrev pub invariant-loop-place : goal.invariant-loop-place
invariant-loop-place l = l.rows.items ≡ l.initial.rows.items ++ links_after l.links.leave l.links.old l.links.new l.links.range l.place
