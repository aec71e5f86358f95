use Rattle.std.proofs.Common.{◌≡◌, ◌+◌, ◌%◌, ◌^◌, ◌<◌, IfSome, get_or, arith}
use Rattle.std.specs.Prelude.{unsigned_abs}
use Rattle.mcf_matrix.proofs.Below.{all_more}
use Rattle.mcf_matrix_doubles.specs.Doubles.{double_cost}
use Rattle.mcf_matrix_doubles.proofs.span.Span.of_row.Goals as goal

pub loop-bits-preserved : goal.loop-bits-preserved
loop-bits-preserved c =
    let row = c.args.row.now in
    let i = c.loop-bits.bits-index in
    let unit = c.args.unit in (
      all_more (λ j. IfSome (double_cost (get_or row j 0)) (λ z. unsigned_abs z % 2 ^ unit ≡ 0)) i c.loop-bits.are_multiples c.is_multiple-are_multiples.result
          c.loop-bits.invariant.0 c.is_multiple-are_multiples.ensures,
      all_more (λ j. IfSome (double_cost (get_or row j 0)) (λ z. unsigned_abs z < 2 ^ (unit + 117))) i c.loop-bits.are_within c.is_within-are_within.result
          c.loop-bits.invariant.1 c.is_within-are_within.ensures,
    )

pub returns-clause-multiples : goal.returns-clause-multiples
returns-clause-multiples c = (
  (λ t j b. c.loop-bits.invariant.0.0 t j (omega arith)),
  (λ all. c.loop-bits.invariant.0.1 (λ j b. all j (omega arith))),
)

pub returns-clause-within : goal.returns-clause-within
returns-clause-within c = (
  (λ t j b. c.loop-bits.invariant.1.0 t j (omega arith)),
  (λ all. c.loop-bits.invariant.1.1 (λ j b. all j (omega arith))),
)
