use Rattle.std.proofs.Common.{◌≡◌, ◌++◌, length}
use Rattle.mcf_text.specs.Lines.{lines_of}
use Rattle.mcf_forms.specs.Filled.{filled_columns, fillings}
use Rattle.mcf_forms.proofs.columns.filled_columns.Given as goal

-- what is left to do leads to the same rows and columns
abbrev pub invariant-heads : goal.invariant-heads
invariant-heads l = record {
  rows : filled_columns (lines_of l.rest) l.rows ≡ filled_columns (lines_of l.heads) l.initial.rows;
  columns : l.columns.items ++ fillings (lines_of l.rest) l.rows ≡ fillings (lines_of l.heads) l.initial.rows;
}

abbrev pub decreases-heads : goal.decreases-heads
decreases-heads l = length l.rest
