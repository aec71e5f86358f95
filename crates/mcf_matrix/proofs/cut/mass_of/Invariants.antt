use Rattle.std.proofs.Common.{◌≡◌, ◌*◌, ◌^◌}
use Rattle.mcf_flows.specs.WellFormed.{IsUpTo}
use Rattle.mcf_matrix.specs.Cuts.{mass_in}
use Rattle.mcf_matrix.proofs.cut.mass_of.Given as goal

abbrev pub invariant-loop-place : goal.invariant-loop-place
invariant-loop-place l = record {
  value : l.total ≡ mass_in l.masses l.marks l.place;
  small : IsUpTo (2 ^ 63 * l.place) l.total;
}
