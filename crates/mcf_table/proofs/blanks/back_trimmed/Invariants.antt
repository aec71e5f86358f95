use Rattle.std.proofs.Common.{◌≡◌, ◌≤◌, length}
use Rattle.mcf_table.specs.Blanks.{back_blank, back_trimmed}
use Rattle.mcf_table.proofs.blanks.back_trimmed.Given as goal

abbrev pub invariant-blanks : goal.invariant-blanks
invariant-blanks l = record {
  same : back_trimmed l.text ≡ back_trimmed l.rest;
  next : l.len ≡ back_blank l.rest;
  inside : l.len ≤ length l.rest;
}

abbrev pub decreases-blanks : goal.decreases-blanks
decreases-blanks l = length l.rest
