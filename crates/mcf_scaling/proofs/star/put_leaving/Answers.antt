use Rattle.std.proofs.Common.{◌≡◌, ◌+◌, ◌-◌, List, [], arith, length, rules, sym, subst}
use Rattle.mcf_network.specs.declared.rid.Rid.{Rid}
use Rattle.mcf_scaling.specs.Private.Stars.{IsStarUpTo}
use Rattle.mcf_scaling.proofs.StarLaws.{IsListing, listing_before, listing_end, listing_next, listing_start, star_next}
use Rattle.mcf_scaling.proofs.star.put_leaving.Goals as goal

pub leaving-init : goal.leaving-init
leaving-init c =
    record {
      can_next = tt;
      is_finite = tt;
      listing = subst (λ (xs : List Rid). IsListing c.args.net.now c.args.v c.args.outs.now.items c.args.outs.now.items xs)
          (sym c.into_iter-leaving-iterator.ensures.into_iter_gives) (listing_start c.args.net.now c.args.v c.args.outs.now.items
          c.leaving-leaving-items.result c.requires.star.each c.leaving-leaving-items.ensures);
    }

pub leaving-preserved : goal.leaving-preserved
leaving-preserved c =
    let steps = c.in-Some.ensures.steps in
    let listing = rw steps at c.leaving.invariant.listing in
    record {
      can_next = tt;
      is_finite = tt;
      listing = listing_next c.args.net.now c.args.v c.args.outs.now.items c.leaving.outs.items c.push.new.self.items c.in-Some.leaving
          c.next.new.self c.residual_arc.result listing c.in_ok-push.ensures.items c.residual_arc.ensures.residual c.residual_arc.ensures.value;
    }

pub returns : goal.returns
returns c =
    let old = c.args.outs.now.items in
    let now = c.leaving.outs.items in
    let v = c.args.v in
    let listing = subst (IsListing c.args.net.now v old now) c.in-None.ensures.steps.0 c.leaving.invariant.listing in
    let low : c.len-first.result ≡ length old = search rules in
    let high : c.len-end.result ≡ length now = search rules in
    let next : v ≡ v - 1 + 1 = omega (arith, c.requires.node) in
    subst (IsStarUpTo c.args.net.now _) (sym next)
    (star_next c.args.net.now c.args.spans.now.items c.push-2.new.self.items old now (v - 1) v (record { first = c.len-first.result; end = c.len-end.result })
    c.requires.star c.in_ok-push-2.ensures.items next (listing_before c.args.net.now v old now [] listing) listing.each low high
    (listing_end c.args.net.now v old now c.len-first.result c.len-end.result listing low high))
