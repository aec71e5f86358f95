use Rattle.std.proofs.Common.{◌≡◌, ◌≤◌, length}
use Rattle.mcf_table.specs.Separators.{written_lines}
use Rattle.mcf_table.proofs.separators.next_written.Given as goal

abbrev pub invariant-lines : goal.invariant-lines
invariant-lines l = record {
  same : written_lines l.text ≡ written_lines l.rest;
  inside : length l.rest ≤ length l.text;
}

abbrev pub decreases-lines : goal.decreases-lines
decreases-lines l = length l.rest
