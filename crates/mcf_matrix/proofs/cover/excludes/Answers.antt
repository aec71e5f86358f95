use Rattle.std.proofs.Common.{◌≡◌, arith, length}
use Rattle.mcf_matrix.specs.Covers.{IsShortCover}
use Rattle.mcf_matrix.proofs.CoverDuality.{covered_has_no_matching_lem}
use Rattle.mcf_matrix.proofs.cover.excludes.Goals as goal

pub returns-clause-none : goal.returns-clause-none
returns-clause-none g c = λ t x.
    let m = g.M.Allows.costs c.args.matrix.now in
    let rows : length c.args.rows.now ≡ m.rows = omega (arith, c.if-rows-row_count.false, c.row_count.ensures) in
    let columns : length c.args.columns.now ≡ m.columns = omega (arith, c.if-columns-column_count.false, c.column_count.ensures) in
    let cover : IsShortCover m c.args.rows.now c.args.columns.now = record {
      one_per_row = rows;
      one_per_column = columns;
      covers = c.are_covered.ensures.0 t;
      short = c.is_short.ensures.0 c.if-not-is_short.false;
    } in
    covered_has_no_matching_lem m c.args.rows.now c.args.columns.now x cover
