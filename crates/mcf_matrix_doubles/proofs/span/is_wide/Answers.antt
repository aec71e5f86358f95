use Rattle.std.proofs.Common.{ℕ, ◌≡◌, ◌+◌, ◌%◌, ◌^◌, ◌<◌, ◌↔◌, IfSome, IsTrue, arith, not, ◌&&◌, subst}
use Rattle.std.specs.Prelude.{unsigned_abs}
use Rattle.mcf_matrix.proofs.Below.{all_more}
use Rattle.mcf_matrix_doubles.specs.DoubleTables.{bits_at, double_costs}
use Rattle.mcf_matrix_doubles.specs.Doubles.{double_cost}
use Rattle.mcf_matrix_doubles.specs.Spans.{AreMultiples, AreWithin, IsWide}
use Rattle.mcf_matrix_doubles.proofs.Spans.{row_is, wide_is, wide_is_not_narrow}
use Rattle.mcf_matrix_doubles.proofs.span.is_wide.Goals as goal

pub loop-row-preserved : goal.loop-row-preserved
loop-row-preserved c =
    let t = c.args.matrix.now in
    let i = c.loop-row.row in
    let row : i < t.rows = omega arith in
    let unit = c.args.unit in
    let shaped = c.row.ensures.matrix.shaped in (
      all_more (λ k. (j : ℕ) → j < t.columns → IfSome (double_cost (bits_at t k j)) (λ z. unsigned_abs z % 2 ^ unit ≡ 0)) i c.loop-row.are_multiples
          c.of_row-span.result.are_multiples c.loop-row.invariant.0
          (row_is (λ bits. IfSome (double_cost bits) (λ z. unsigned_abs z % 2 ^ unit ≡ 0)) t i c.row.result.now c.of_row-span.result.are_multiples shaped row
          c.row.ensures.value c.of_row-span.ensures.multiples),
      all_more (λ k. (j : ℕ) → j < t.columns → IfSome (double_cost (bits_at t k j)) (λ z. unsigned_abs z < 2 ^ (unit + 117))) i c.loop-row.are_within
          c.of_row-span.result.are_within c.loop-row.invariant.1
          (row_is (λ bits. IfSome (double_cost bits) (λ z. unsigned_abs z < 2 ^ (unit + 117))) t i c.row.result.now c.of_row-span.result.are_within shaped row
          c.row.ensures.value c.of_row-span.ensures.within),
    )

pub returns-then-not-are_multiples-clause-exact : goal.returns-then-not-are_multiples-clause-exact
returns-then-not-are_multiples-clause-exact c =
    let t = c.args.matrix.now in
    let unit = c.args.unit in
    let end = c.rows-row-end.ensures.value in
    let multiples : IsTrue c.loop-row.are_multiples ↔ AreMultiples unit (double_costs t) = (
      (λ h i j p. c.loop-row.invariant.0.0 h i (omega (arith, p.0, end)) j p.1),
      (λ all. c.loop-row.invariant.0.1 (λ i a j b. all i j (omega (arith, a, end), b))),
    ) in
    let within : IsTrue c.loop-row.are_within ↔ AreWithin (unit + 117) (double_costs t) = (
      (λ h i j p. c.loop-row.invariant.1.0 h i (omega (arith, p.0, end)) j p.1),
      (λ all. c.loop-row.invariant.1.1 (λ i a j b. all i j (omega (arith, a, end), b))),
    ) in
    subst (λ b. IsTrue (not b && not c.loop-row.are_within) ↔ IsWide unit (double_costs t)) c.if-not-are_multiples.true
    (wide_is unit (double_costs t) c.loop-row.are_multiples c.loop-row.are_within multiples within)

pub returns-then-not-are_multiples-clause-none : goal.returns-then-not-are_multiples-clause-none
returns-then-not-are_multiples-clause-none c = λ h narrow.
    wide_is_not_narrow c.args.unit (double_costs c.args.matrix.now) ((returns-then-not-are_multiples-clause-exact c).0 h) narrow
