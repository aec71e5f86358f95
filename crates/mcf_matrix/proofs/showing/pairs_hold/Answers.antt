use Rattle.std.proofs.Common.{arith, get_or, sym, ◌≡◌, ◌+◌, ◌<◌, ◌≤◌, subst, refl, length}
use Rattle.mcf_matrix.specs.Private.Pairing.{ArePairedSoFar}
use Rattle.mcf_matrix.proofs.Pairing.{all_paired, column_again, good_pair, nothing_paired, row_paired, row_skipped}
use Rattle.mcf_matrix.proofs.showing.pairs_hold.Goals as goal
use Rattle.mcf_matrix.proofs.showing.pairs_hold.Goals.{then-column-column_count+else-not-is_good+else-seen-column, else-column-column_count}

pub loop-row-init : goal.loop-row-init
loop-row-init g c =
    nothing_paired (g.P.Priced.costs c.args.priced.now) c.args.columns_of.now (g.P.Priced.row_prices c.args.priced.now) (g.P.Priced.column_prices c.args.priced.now)
    c.args.seen.now c.requires.none_seen

pub loop-row-preserved : goal.loop-row-preserved
loop-row-preserved g c =
    let m = g.P.Priced.costs c.args.priced.now in
    let x = c.args.columns_of.now in
    let u = g.P.Priced.row_prices c.args.priced.now in
    let v = g.P.Priced.column_prices c.args.priced.now in
    let i = c.loop-row.row in
    let P = ArePairedSoFar m x u v (i + 1) in
    elim c.if-column-column_count.branch [
      | then-column-column_count+else-not-is_good+else-seen-column w ↦
          let row : i < m.rows = omega (arith, c.requires.rows, c.loop-row-test.true) in
          let column : get_or x i 0 < m.columns = omega (arith, w.if-column-column_count.true, c.column_count.ensures) in
          let size : length c.loop-row.seen ≡ m.columns = omega (arith, c.loop-row.auto.seen, c.requires.columns) in
          let good = w.is_good_pair-is_good.ensures.0 w.if-not-is_good.false in
          subst P (sym w.seen-is) (row_paired m x u v i c.loop-row.seen row column size good w.if-seen-column.false c.loop-row.invariant)
      | else-column-column_count w ↦
          let none : m.columns ≤ get_or x i 0 = omega (arith, w.if-column-column_count.false, c.column_count.ensures) in
          subst P (sym w.seen-is) (row_skipped m x u v i c.loop-row.seen none c.loop-row.invariant)
    ]

pub returns-then-not-is_good-clause-exact : goal.returns-then-not-is_good-clause-exact
returns-then-not-is_good-clause-exact g c =
    let m = g.P.Priced.costs c.args.priced.now in
    let x = c.args.columns_of.now in
    let u = g.P.Priced.row_prices c.args.priced.now in
    let v = g.P.Priced.column_prices c.args.priced.now in
    let i = c.loop-row.row in
    let row : i < m.rows = omega (arith, c.requires.rows, c.loop-row-test.true) in
    let column : get_or x i 0 < m.columns = omega (arith, c.if-column-column_count.true, c.column_count.ensures) in (
      (λ t. absurd (cc)),
      (λ all.
          let passes = c.is_good_pair-is_good.ensures.1 (good_pair m x u v i row column all) in
          let fails = c.if-not-is_good.true in
          absurd (cc (passes, fails))),
    )

pub returns-then-seen-column-clause-exact : goal.returns-then-seen-column-clause-exact
returns-then-seen-column-clause-exact g c =
    let m = g.P.Priced.costs c.args.priced.now in
    let x = c.args.columns_of.now in
    let i = c.loop-row.row in
    let row : i < m.rows = omega (arith, c.requires.rows, c.loop-row-test.true) in
    let column : get_or x i 0 < m.columns = omega (arith, c.if-column-column_count.true, c.column_count.ensures) in (
      (λ t. absurd (cc)),
      (λ all. absurd (column_again m x (g.P.Priced.row_prices c.args.priced.now) (g.P.Priced.column_prices c.args.priced.now) i c.loop-row.seen row column
          c.if-seen-column.true c.loop-row.invariant all)),
    )

pub returns-clause-exact : goal.returns-clause-exact
returns-clause-exact g c =
    let m = g.P.Priced.costs c.args.priced.now in
    let x = c.args.columns_of.now in
    let u = g.P.Priced.row_prices c.args.priced.now in
    let v = g.P.Priced.column_prices c.args.priced.now in
    let done : c.loop-row.row ≡ m.rows = omega (arith, c.requires.rows, c.loop-row-test.false, c.loop-row.auto.row-end) in (
      (λ t. all_paired m x u v c.loop-row.seen (subst (λ n. ArePairedSoFar m x u v n c.loop-row.seen) done c.loop-row.invariant)),
      (λ all. refl),
    )

pub returns-clause-marks : goal.returns-clause-marks
returns-clause-marks g c =
    let m = g.P.Priced.costs c.args.priced.now in
    let x = c.args.columns_of.now in
    let u = g.P.Priced.row_prices c.args.priced.now in
    let v = g.P.Priced.column_prices c.args.priced.now in
    let done : c.loop-row.row ≡ m.rows = omega (arith, c.requires.rows, c.loop-row-test.false, c.loop-row.auto.row-end) in
    λ t. (subst (λ n. ArePairedSoFar m x u v n c.loop-row.seen) done c.loop-row.invariant).marking
