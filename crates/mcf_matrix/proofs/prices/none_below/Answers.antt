use Rattle.std.proofs.Common.{rules, ◌<◌, ◌+◌, ◌*◌, IfSome, arith, subst, sym, get_or, ℤ, pos, ◌≤ℤ◌, List}
use Rattle.std.specs.List.{slice_range}
use Rattle.std.specs.Int.{w64}
use Rattle.std.specs.Prelude.{FitsSigned}
use Rattle.std.proofs.lemmas.Int.{to_z-of_z}
use Rattle.mcf_matrix.specs.MatrixPrices.{reduced_cost}
use Rattle.mcf_matrix.specs.Private.Narrow.{RowHolds}
use Rattle.mcf_matrix.specs.Tables.{cost_of}
use Rattle.mcf_matrix.proofs.Rows.{places_more, places_of_row}
use Rattle.mcf_matrix.proofs.prices.none_below.Goals as goal

pub returns-then-not-row_holds : goal.returns-then-not-row_holds
returns-then-not-row_holds c =
    let u = c.args.row_prices.now in
    let v = c.args.column_prices.now in
    let row : c.loop-row.row < c.args.matrix.now.rows = omega (arith, c.requires.rows, c.loop-row-test.true) in
    let fits : FitsSigned w64 (get_or u c.loop-row.row (pos 0)) = search rules in (
      (λ h. absurd (cc)),
      (λ all.
          let holds = places_of_row (λ i j z. IfSome (cost_of z) (λ c'. pos 0 ≤ℤ reduced_cost u v i j c')) c.args.matrix.now c.loop-row.row c.row.ensures.matrix.shaped row
          (λ j b. all c.loop-row.row j (row, b)) in
          let same : RowHolds c.row.result.now (get_or u c.loop-row.row (pos 0)) v = subst (λ (xs : List ℤ). RowHolds xs (get_or u c.loop-row.row (pos 0)) v) (sym c.row.ensures.value) holds in
          let passes = (simp to_z-of_z at c.row_holds.ensures).1 same in
          let fails = c.if-not-row_holds.true in absurd (cc (passes, fails))),
    )

pub loop-row-preserved : goal.loop-row-preserved
loop-row-preserved c =
    let u = c.args.row_prices.now in
    let v = c.args.column_prices.now in
    let row : c.loop-row.row < c.args.matrix.now.rows = omega (arith, c.requires.rows, c.loop-row-test.true) in
    let fits : FitsSigned w64 (get_or u c.loop-row.row (pos 0)) = search rules in
    let holds = (simp to_z-of_z at c.row_holds.ensures).0 c.if-not-row_holds.false in
    let here : RowHolds (slice_range c.args.matrix.now.entries (c.loop-row.row * c.args.matrix.now.stride) (c.loop-row.row * c.args.matrix.now.stride + c.args.matrix.now.columns))
    (get_or u c.loop-row.row (pos 0)) v = subst (λ (xs : List ℤ). RowHolds xs (get_or u c.loop-row.row (pos 0)) v) c.row.ensures.value holds in
    places_more (λ i j z. IfSome (cost_of z) (λ c'. pos 0 ≤ℤ reduced_cost u v i j c')) c.args.matrix.now c.loop-row.row c.row.ensures.matrix.shaped row
    c.loop-row.invariant here
