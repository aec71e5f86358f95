use Rattle.std.proofs.Common.{rules, ◌-◌, ◌<◌, ◌^◌, ◌+ℤ◌, length, IfSome, List, ℕ, get_or, arith, subst, sym, pos, ◌≤ℤ◌}
use Rattle.std.specs.Int.{w128}
use Rattle.std.specs.Prelude.{FitsSigned}
use Rattle.std.proofs.lemmas.Int.{ints, to_z-of_z}
use Rattle.mcf_flows.specs.WellFormed.{IsUpTo}
use Rattle.mcf_matrix.specs.MatrixPrices.{reduced_cost}
use Rattle.mcf_matrix.specs.PlaceSums.{at_place}
use Rattle.mcf_matrix_doubles.specs.DoublePrices.{RowHolds, in_units}
use Rattle.mcf_matrix_doubles.specs.Doubles.{double_cost}
use Rattle.mcf_matrix_doubles.proofs.BitRows.{places_more, places_of_row, row_of}
use Rattle.mcf_matrix_doubles.proofs.Covering.{covers_above, from_reduced, to_reduced}
use Rattle.mcf_matrix_doubles.proofs.prices.none_below.Goals as goal

pub returns-then-not-row_holds : goal.returns-then-not-row_holds
returns-then-not-row_holds c =
    let t = c.args.matrix.now in
    let u = c.args.row_prices.now in
    let v = c.args.column_prices.now in
    let i = c.loop-row.row in
    let row : i < t.rows = omega (arith, c.requires.rows, c.loop-row-test.true) in
    let own : FitsSigned w128 (get_or u i (pos 0)) = search rules in (
      (λ t'. absurd (cc)),
      (λ all.
          let cells = places_of_row (λ k j z. IfSome (double_cost z) (λ c'. pos 0 ≤ℤ reduced_cost (in_units c.args.unit u) (in_units c.args.unit v) k j c')) t i
          c.row.ensures.matrix.shaped row (λ j b. all i j (row, b)) in
          let here : RowHolds (row_of t i) (get_or u i (pos 0)) v c.args.unit = λ j b. from_reduced (get_or (row_of t i) j 0) c.args.unit u v i j (cells j b) in
          let same : RowHolds c.row.result.now (get_or u i (pos 0)) v c.args.unit =
          subst (λ (xs : List ℕ). RowHolds xs (get_or u i (pos 0)) v c.args.unit) (sym c.row.ensures.value) here in
          let passes = (simp to_z-of_z at c.row_holds.ensures).1 same in
          let fails = c.if-not-row_holds.true in
          absurd (cc (passes, fails))),
    )

pub loop-row-preserved : goal.loop-row-preserved
loop-row-preserved c =
    let t = c.args.matrix.now in
    let u = c.args.row_prices.now in
    let v = c.args.column_prices.now in
    let i = c.loop-row.row in
    let row : i < t.rows = omega (arith, c.requires.rows, c.loop-row-test.true) in
    let own : FitsSigned w128 (get_or u i (pos 0)) = search rules in
    let holds = (simp to_z-of_z at c.row_holds.ensures).0 c.if-not-row_holds.false in
    let here : RowHolds (row_of t i) (get_or u i (pos 0)) v c.args.unit = subst (λ (xs : List ℕ). RowHolds xs (get_or u i (pos 0)) v c.args.unit) c.row.ensures.value holds in
    places_more (λ k j z. IfSome (double_cost z) (λ c'. pos 0 ≤ℤ reduced_cost (in_units c.args.unit u) (in_units c.args.unit v) k j c')) t i
    c.row.ensures.matrix.shaped row c.loop-row.invariant (λ j b. to_reduced (get_or (row_of t i) j 0) c.args.unit u v i j (here j b))

pub row_holds-requires-clause-least : goal.row_holds-requires-clause-least
row_holds-requires-clause-least c =
    let u = c.args.row_prices.now in
    let i = c.loop-row.row in
    let most = c.greatest_of-greatest.result in
    let row : i < length u = c.loop-row-test.true in
    let price : IsUpTo (2 ^ 125 - 1) (get_or u i (pos 0)) = c.requires.row_prices i row in
    let own : FitsSigned w128 (get_or u i (pos 0)) = search rules in
    let other : FitsSigned w128 most = omega (arith, ints, c.greatest_of-greatest.ensures.small) in
    let sum : FitsSigned w128 (get_or u i (pos 0) +ℤ most) = omega (arith, ints, price, c.greatest_of-greatest.ensures.small) in
    simp to_z-of_z
    (λ j bits b le small.
    covers_above bits c.args.unit (get_or u i (pos 0)) (at_place c.args.column_prices.now j) most (c.greatest_of-greatest.ensures.greatest j b)
    ((simp to_z-of_z at c.threshold-least.ensures) bits le small))
