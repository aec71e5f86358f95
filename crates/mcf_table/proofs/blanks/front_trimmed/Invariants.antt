use Rattle.std.proofs.Common.{◌≡◌, ◌≤◌, length}
use Rattle.mcf_table.specs.Blanks.{front_blank, front_trimmed}
use Rattle.mcf_table.proofs.blanks.front_trimmed.Given as goal

abbrev pub invariant-blanks : goal.invariant-blanks
invariant-blanks l = record {
  same : front_trimmed l.text ≡ front_trimmed l.rest;
  next : l.len ≡ front_blank l.rest;
  inside : l.len ≤ length l.rest;
}

abbrev pub decreases-blanks : goal.decreases-blanks
decreases-blanks l = length l.rest
