use Rattle.std.proofs.Common.{rules, arith, true, false, ◌+ℤ◌}
use Rattle.std.specs.Int.{w64, w128}
use Rattle.std.specs.Prelude.{FitsSigned}
use Rattle.std.proofs.lemmas.Int.{ints, to_z-of_z}
use Rattle.mcf_matrix_doubles.proofs.Judging.{entry_exact, entry_read, entry_rounded}
use Rattle.mcf_matrix_doubles.proofs.assignment.is_good_entry.Goals as goal

pub returns : goal.returns
returns c =
    let a = c.args.row_price in
    let b = c.args.column_price in
    let own : FitsSigned w128 a = c.ranges.row_price in
    let other : FitsSigned w128 b = c.ranges.column_price in
    let sum : FitsSigned w128 (a +ℤ b) = omega (arith, ints, c.requires.row_price, c.requires.column_price) in
    let mantissa : FitsSigned w64 c.of-entry.result.mantissa = search rules in
    entry_read c.args.bits c.args.unit a b false c.args.is_rounded c.is_exactly.result c.if-is_rounded.false
    (entry_exact c.args.bits c.args.unit c.of-entry.result.shift a b c.of-entry.result.mantissa c.is_exactly.result c.if-bits-eq-INFINITY.false c.of-entry.ensures.value (simp to_z-of_z at c.is_exactly.ensures))

pub returns-then-is_rounded : goal.returns-then-is_rounded
returns-then-is_rounded c =
    let a = c.args.row_price in
    let b = c.args.column_price in
    let own : FitsSigned w128 a = c.ranges.row_price in
    let other : FitsSigned w128 b = c.ranges.column_price in
    let sum : FitsSigned w128 (a +ℤ b) = omega (arith, ints, c.requires.row_price, c.requires.column_price) in
    let mantissa : FitsSigned w64 c.of-entry.result.mantissa = search rules in
    entry_read c.args.bits c.args.unit a b true c.args.is_rounded c.is_rounded.result c.if-is_rounded.true
    (entry_rounded c.args.bits c.args.unit c.of-entry.result.shift a b c.of-entry.result.mantissa c.is_rounded.result c.if-bits-eq-INFINITY.false c.of-entry.ensures.value (simp to_z-of_z at c.is_rounded.ensures))
