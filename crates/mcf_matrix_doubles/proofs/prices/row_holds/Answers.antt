use Rattle.std.proofs.Common.{rules, ◌^◌, get_or, IfSome, pos, ◌-ℤ◌, ◌≤ℤ◌}
use Rattle.std.proofs.Math.IntN.{◌*ℤ◌}
use Rattle.std.specs.Int.{w128}
use Rattle.std.specs.Prelude.{FitsSigned}
use Rattle.std.proofs.lemmas.Int.{to_z-of_z}
use Rattle.mcf_matrix.specs.PlaceSums.{at_place}
use Rattle.mcf_matrix.proofs.Below.{all_more}
use Rattle.mcf_matrix_doubles.specs.Doubles.{double_cost}
use Rattle.mcf_matrix_doubles.proofs.prices.row_holds.Goals as goal

pub loop-column-preserved : goal.loop-column-preserved
loop-column-preserved c =
    let price : FitsSigned w128 (get_or c.args.prices.now c.loop-column.column (pos 0)) = search rules in
    let own : FitsSigned w128 c.args.price = c.ranges.price in
    simp to_z-of_z
    (all_more (λ j. IfSome (double_cost (get_or c.args.row.now j 0)) (λ z. pos 0 ≤ℤ (z -ℤ c.args.price *ℤ pos (2 ^ c.args.unit) -ℤ at_place c.args.prices.now j *ℤ pos (2 ^ c.args.unit))))
    c.loop-column.column c.loop-column.holds c.covers-holds.result (simp to_z-of_z at c.loop-column.invariant) (simp to_z-of_z at c.covers-holds.ensures))
