use Rattle.std.proofs.Common.{◌≡◌, ap, arith, rules, ◌∙◌, to_z, of_z}
use Rattle.std.specs.Prelude.{int_le, pos, unsigned_abs}
use mir.Syntax.{w128}
use Rattle.std.proofs.lemmas.Int.{to_z-of_z}
use Rattle.mcf_flows.specs.Network.{at_node}
use Rattle.mcf_basis.specs.Private.Layouts.{artificial_residuals, no_residuals}
use Rattle.mcf_basis.proofs.StarBases.{made_behind, star_amount, star_residuals}
use Rattle.mcf_basis.proofs.starting.star_columns.Goals as goal

pub loop-i-preserved : goal.loop-i-preserved
loop-i-preserved c =
    let g = c.args.net.now in
    let read : to_z w128 (of_z w128 c.supply-supply.result) ≡ c.supply-supply.result = search (rules, to_z-of_z) in
    let supply = read ∙ (c.supply-supply.ensures.value ∙ ap (at_node g.supplies) c.at.ensures) in
    let amount : to_z w128 (of_z w128 c.star_amount.result) ≡ c.star_amount.result = search (rules, to_z-of_z) in
    record {
      residuals = made_behind no_residuals (star_residuals g) c.loop-i.i _ _ c.artificial_residuals.result c.loop-i.invariant.residuals
          ((c.artificial_residuals.ensures ∙ ap (artificial_residuals (int_le (pos 0) (to_z w128 (of_z w128 c.supply-supply.result)))) c.unsigned_abs.ensures.value)
          ∙ ap (λ x. artificial_residuals (int_le (pos 0) x) (unsigned_abs x)) supply) (search rules);
      amounts = made_behind (pos 0) (star_amount g) c.loop-i.i _ _ (to_z w128 (of_z w128 c.star_amount.result)) c.loop-i.invariant.amounts
          (amount ∙ (c.star_amount.ensures ∙ ap (star_amount g) c.at-in-loop-i.ensures)) (search rules);
      residuals_size = omega (arith, c.push_reserved-in-loop-i.ensures.len, c.loop-i.invariant.residuals_size);
      amounts_size = omega (arith, c.push_reserved-in-loop-i-2.ensures.len, c.loop-i.invariant.amounts_size);
      residuals_room = omega (arith, c.push_reserved-in-loop-i.ensures.capacity, c.loop-i.invariant.residuals_room);
      amounts_room = omega (arith, c.push_reserved-in-loop-i-2.ensures.capacity, c.loop-i.invariant.amounts_room);
    }
