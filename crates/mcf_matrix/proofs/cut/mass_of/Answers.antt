use Rattle.std.proofs.Common.{rules, ℕ, ◌+◌, ◌*◌, ◌^◌, get_or, arith, ap, sym, ◌∙◌, subst, pos, ◌+ℤ◌, to_z}
use Rattle.std.specs.Int.{w64, w128}
use Rattle.std.specs.Prelude.{FitsSigned}
use Rattle.std.proofs.lemmas.Int.{to_z-of_z}
use Rattle.mcf_flows.specs.Network.{when}
use Rattle.mcf_flows.specs.WellFormed.{IsUpTo}
use Rattle.mcf_matrix.specs.PlaceSums.{at_place, is_marked}
use Rattle.mcf_matrix.proofs.PlaceSums.{sum_below_next}
use Rattle.mcf_matrix.proofs.Tests.{sum_stays_small, sum_up_to}
use Rattle.mcf_matrix.proofs.cut.mass_of.Goals as goal

pub add_when-total-requires : goal.add_when-total-requires
add_when-total-requires c = sum_stays_small (to_z w128 c.loop-place.total-bits) c.loop-place.place (omega arith) c.loop-place.invariant.small

pub loop-place-preserved : goal.loop-place-preserved
loop-place-preserved c =
    let i = c.loop-place.place in
    let term = λ (k : ℕ). when (is_marked c.args.marks.now k) (at_place c.args.masses.now k) in
    let mass : FitsSigned w64 (get_or c.args.masses.now i (pos 0)) = search rules in
    let total : FitsSigned w128 c.add_when-total.result = search rules in
    let added = simp to_z-of_z at c.add_when-total.ensures in
    let read = to_z-of_z w128 c.add_when-total.result total in
    record {
      value = read ∙ added ∙ ap (λ z. z +ℤ term i) c.loop-place.invariant.value ∙ sym (sum_below_next term i);
      small = subst (IsUpTo (2 ^ 63 * (i + 1))) (sym (read ∙ added))
          (sum_up_to (is_marked c.args.marks.now i) (to_z w128 c.loop-place.total-bits) (get_or c.args.masses.now i (pos 0)) i mass c.loop-place.invariant.small);
    }
