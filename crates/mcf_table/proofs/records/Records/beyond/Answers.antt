use Rattle.std.proofs.Common.{◌∙◌, ◌++◌, ◌<◌, ℕ, length, ap, arith}
use Rattle.mcf_table.specs.Heads.{cells_of, filled_from, in_row}
use Rattle.mcf_table.proofs.HeadLemmas.{rows_next}
use Rattle.mcf_table.proofs.records.Records.beyond.Goals as goal

pub rows-preserved : goal.rows-preserved
rows-preserved c =
    let records = c.args.self.now in
    let row = c.rows.row in
    let below : row < length records = omega (arith, c.rows-test.true, c.len.ensures) in
    let more = c.in_ok-push_filled.ensures
    ∙ ap (λ (first : ℕ). c.rows.found.items ++ in_row row (filled_from first (cells_of records row))) c.rows.invariant.first in
    record {
      first = c.rows.invariant.first;
      left = rows_next records row c.rows.found.items c.push_filled.new.found.items below c.rows.invariant.left more;
    }
