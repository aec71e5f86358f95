use Rattle.std.proofs.Common.{ap, arith, pos, subst, sym, ◌∙◌}
use Rattle.mcf_matching.specs.Extending.{Assigned, IsShownMatching}
use Rattle.mcf_matching.specs.Matchings.{IsMatchedRow, IsRow}
use Rattle.mcf_matching.specs.Private.Reaches.{first_price, price_reach}
use Rattle.mcf_matching.specs.Private.Updating.{AreUpdated}
use Rattle.mcf_matching.proofs.Kept.{scene_kept, shown_kept}
use Rattle.mcf_matching.proofs.Raising.{price_read}
use Rattle.mcf_matching.proofs.Updated.{kept_counted, kept_updated}
use Rattle.mcf_matching.proofs.partial.Partial+i64.refresh.Goals as goal

pub returns-then-not-is_due-clause-shown : goal.returns-then-not-is_due-clause-shown
returns-then-not-is_due-clause-shown c = subst IsShownMatching c.self.view_is (shown_kept c.self.invariant.0)

pub price_reach-reach-requires : goal.price_reach-reach-requires
price_reach-reach-requires c =
    let i = c.self.inside in
    let k = c.self.invariant.0 in
    let row = subst (λ (m : Assigned). IsRow m.flow c.args.row) (sym c.self.view_is) c.requires.row in
    let free = subst (λ (m : Assigned). ¬ IsMatchedRow m.flow c.args.row) (sym c.self.view_is) c.requires.free in
    let node = row.0 in
    let count = k.shown.count in
    let read = price_read i.prices.items c.args.row c.place.result c.index.result.now c.index.ensures c.place.ensures (omega (arith, node, count)) in
    record { width = rw c.net.ensures.value c.self.invariant.2; first = read ∙ k.free_rows c.args.row row free ∙ ap first_price (sym c.net.ensures.value) }

pub run-requires : goal.run-requires
run-requires c =
    record {
      scene = rw c.as_slice.ensures.value (scene_kept c.self.invariant.0 c.self.invariant.1 c.self.invariant.2 c.as_slice-2.ensures.value);
      reach = c.price_reach-reach.ensures ∙ ap (λ g. pos (price_reach g)) c.net.ensures.value;
    }

pub invariant_of-self : goal.invariant_of-self
invariant_of-self c =
    let updated = subst (λ y. AreUpdated c.self.inside.state y c.run.new.self.prices.items) c.as_slice.ensures.value (c.run.ensures.updated c.if-run.true) in (
      rw c.swap.ensures.x_after (kept_counted (kept_updated c.self.invariant.0 updated)),
      c.self.invariant.1,
      c.self.invariant.2,
      c.self.invariant.3,
    )

pub returns-then-run-clause-shown : goal.returns-then-run-clause-shown
returns-then-run-clause-shown c =
    let updated = subst (λ y. AreUpdated c.self.inside.state y c.run.new.self.prices.items) c.as_slice.ensures.value (c.run.ensures.updated c.if-run.true) in
    rw c.swap.ensures.x_after (shown_kept (kept_updated c.self.invariant.0 updated))

pub returns-else-run-clause-shown : goal.returns-else-run-clause-shown
returns-else-run-clause-shown c = shown_kept c.self.invariant.0
