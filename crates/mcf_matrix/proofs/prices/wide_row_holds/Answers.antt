use Rattle.std.proofs.Common.{rules, get_or, IfSome, pos, ◌-ℤ◌, ◌≤ℤ◌}
use Rattle.std.specs.Int.{w64}
use Rattle.std.specs.Prelude.{FitsSigned}
use Rattle.std.proofs.lemmas.Int.{to_z-of_z}
use Rattle.mcf_matrix.specs.PlaceSums.{at_place}
use Rattle.mcf_matrix.specs.Tables.{cost_of}
use Rattle.mcf_matrix.proofs.Below.{all_more}
use Rattle.mcf_matrix.proofs.prices.wide_row_holds.Goals as goal

pub loop-column-preserved : goal.loop-column-preserved
loop-column-preserved c =
    let cost : FitsSigned w64 (get_or c.args.row.now c.loop-column.column (pos 0)) = search rules in
    let price : FitsSigned w64 (get_or c.args.prices.now c.loop-column.column (pos 0)) = search rules in
    let own : FitsSigned w64 c.args.price = c.ranges.price in
    simp to_z-of_z
    (all_more (λ j. IfSome (cost_of (at_place c.args.row.now j)) (λ z. pos 0 ≤ℤ (z -ℤ c.args.price -ℤ at_place c.args.prices.now j))) c.loop-column.column
    c.loop-column.holds c.covers_wide-holds.result (simp to_z-of_z at c.loop-column.invariant) (simp to_z-of_z at c.covers_wide-holds.ensures))
