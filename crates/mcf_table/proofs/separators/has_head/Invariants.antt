use Rattle.std.proofs.Common.{◌≡◌, ◌≤◌, length}
use Rattle.std.specs.List.{list_any}
use Rattle.mcf_table.specs.Separators.{is_head, parts_of}
use Rattle.mcf_table.proofs.separators.has_head.Given as goal

abbrev pub invariant-parts : goal.invariant-parts
invariant-parts l = record {
  same : list_any (is_head l.head) (parts_of l.byte l.line) ≡ list_any (is_head l.head) (parts_of l.byte l.rest);
  inside : length l.rest ≤ length l.line;
}

abbrev pub decreases-parts : goal.decreases-parts
decreases-parts l = length l.rest
