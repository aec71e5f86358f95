use Rattle.std.proofs.Common.{◌≡◌, ◌+◌, ◌≤◌, ◌∷◌, map, pos, vec_capacity, vec_len}
use Rattle.std.specs.List.{range_with_len}
use Rattle.mcf_basis.specs.Private.Layouts.{no_residuals}
use Rattle.mcf_basis.proofs.StarBases.{star_amount, star_residuals}
use Rattle.mcf_basis.proofs.starting.star_columns.Given as goal

abbrev pub invariant-loop-i : goal.invariant-loop-i
invariant-loop-i l =
    record {
      residuals : l.residuals.items ≡ no_residuals ∷ map (star_residuals l.net) (range_with_len 1 l.i);
      amounts : l.amounts.items ≡ pos 0 ∷ map (star_amount l.net) (range_with_len 1 l.i);
      residuals_size : vec_len l.residuals ≡ l.i + 1;
      amounts_size : vec_len l.amounts ≡ l.i + 1;
      residuals_room : l.count + 1 ≤ vec_capacity l.residuals;
      amounts_room : l.count + 1 ≤ vec_capacity l.amounts;
    }
