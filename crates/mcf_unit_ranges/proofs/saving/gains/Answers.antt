use Rattle.std.proofs.Common.{rules, ◌≡◌, ◌∙◌, ap, subst, pos, ◌<ℤ◌, ◌-ℤ◌, to_z, of_z, w64}
use Rattle.std.specs.Int.{w128}
use Rattle.std.specs.Prelude.{IsTrue, ◌↔◌}
use Rattle.mcf_model.specs.Model.{charged}
use Rattle.mcf_unit_ranges.proofs.saving.gains.Goals as goal

pub returns : goal.returns
returns c own =
    let read : to_z w128 (of_z w128 c.charged-size.result) ≡ c.charged-size.result = search rules in
    let wide : to_z w128 (of_z w128 c.price_drop-drop.result) ≡ c.price_drop-drop.result = search rules in
    let cost : to_z w64 (of_z w64 c.args.row.last_cost) ≡ c.args.row.last_cost = search rules in
    subst (λ z. IsTrue c.exceeds.result ↔ (pos 0 <ℤ (z -ℤ c.args.row.last_cost)))
    (c.charged-size.ensures ∙ ap (charged c.args.row.both) (wide ∙ c.price_drop-drop.ensures.value))
    (subst (λ z. IsTrue c.exceeds.result ↔ (pos 0 <ℤ (c.charged-size.result -ℤ z))) cost
    (subst (λ z. IsTrue c.exceeds.result ↔ (pos 0 <ℤ (z -ℤ to_z w64 (of_z w64 c.args.row.last_cost)))) read c.exceeds.ensures))
