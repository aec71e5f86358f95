use Rattle.std.proofs.Common.{◌≡◌, ap, arith, neg_ℤ, pos, rules, to_z, of_z, ◌∙◌}
use Rattle.std.specs.Prelude.{if◌then◌else◌, int_le}
use mir.Syntax.{w128}
use Rattle.std.proofs.lemmas.Int.{to_z-of_z}
use Rattle.mcf_flows.specs.Network.{at_node}
use Rattle.mcf_basis.specs.Artificial.{is_sender}
use Rattle.mcf_basis.proofs.StarBases.{made_behind}
use Rattle.mcf_basis.proofs.starting.star_prices.Goals as goal

pub loop-i-preserved : goal.loop-i-preserved
loop-i-preserved g c =
    let net = c.args.net.now in
    let cost = c.args.cost in
    let read : to_z w128 (of_z w128 c.supply.result) ≡ c.supply.result = search (rules, to_z-of_z) in
    let supply = read ∙ (c.supply.ensures.value ∙ ap (at_node net.supplies) c.at.ensures) in
    record {
      prices = made_behind (pos 0) (λ v. if is_sender net v then cost else neg_ℤ cost) c.loop-i.i _ _ c.star_price-price.result c.loop-i.invariant.prices
          (c.star_price-price.ensures ∙ ap (λ x. if int_le (pos 0) x then cost else neg_ℤ cost) supply) (search rules);
      size = omega (arith, c.push_reserved-in-loop-i.ensures.len, c.loop-i.invariant.size);
      room = omega (arith, c.push_reserved-in-loop-i.ensures.capacity, c.loop-i.invariant.room);
    }
