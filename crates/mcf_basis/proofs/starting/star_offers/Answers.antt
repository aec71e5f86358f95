use Rattle.std.proofs.Common.{ap, arith, rules, ◌∙◌}
use Rattle.mcf_basis.proofs.StarBases.{made_more, star_offer}
use Rattle.mcf_basis.proofs.starting.star_offers.Goals as goal

pub loop-i-preserved : goal.loop-i-preserved
loop-i-preserved c =
    record {
      offers = made_more (star_offer c.args.net.now) c.loop-i.i _ _ c.star_offer.result c.loop-i.invariant.offers
          (c.star_offer.ensures ∙ ap (star_offer c.args.net.now) c.at.ensures) (search rules);
      size = omega (arith, c.push_reserved.ensures.len, c.loop-i.invariant.size);
      room = omega (arith, c.push_reserved.ensures.capacity, c.loop-i.invariant.room);
    }
