use Rattle.std.proofs.Common.{ℕ, ℤ, List, Some, length, drop, ap, sym, subst, ◌∙◌, arith}
use Rattle.std.specs.List.{All}
use Rattle.mcf_flows.specs.Network.{IsNode}
use Rattle.mcf_matching.specs.declared.scene.Mate.{Mate}
use Rattle.mcf_matching.specs.Extending.{Assigned}
use Rattle.mcf_matching.specs.Matchings.{IsRow}
use Rattle.mcf_matching.specs.Private.Keeping.{IsEnded}
use Rattle.mcf_matching.specs.Private.Searches.{AreRaised, Search, search_of}
use Rattle.mcf_matching.proofs.Kept.{grown_from, kept_grown, scene_kept, shown_kept, stopped_from, target, written}
use Rattle.mcf_matching.proofs.partial.Partial.grow.Goals as goal

pub search-requires-clause-scene : goal.search-requires-clause-scene
search-requires-clause-scene g c = rw c.as_slice.ensures.value (scene_kept c.self.invariant.0 c.self.invariant.1 c.self.invariant.2 c.as_slice-2.ensures.value)

pub augment-requires-clause-small : goal.augment-requires-clause-small
augment-requires-clause-small g c = rw c.as_mut_slice-prices.ensures.value c.self.invariant.0.near

pub fill-requires : goal.fill-requires
fill-requires g c =
    let o = c.search.ensures.ended.order_ok in
    subst (λ (l : List ℕ). All (IsNode (length c.self.inside.reached)) l) (sym c.as_slice-in-None.ensures.value)
    (subst (λ n. All (IsNode n) c.search.new.self.order.items) (sym c.self.invariant.0.count) o.nodes)

pub invariant_of-self : goal.invariant_of-self
invariant_of-self g c =
    let i = c.self.inside in
    let e = c.augment.ensures in
    let q = search_of c.search.new.self in
    let row = subst (λ (m : Assigned). IsRow m.flow c.args.row) (sym c.self.view_is) c.requires.row in
    let ended = subst (λ y. IsEnded i.state y q c.args.row c.search.new.self.order.items) c.as_slice.ensures.value c.search.ensures.ended in
    let best = sym c.in-Some.ensures.best ∙ ap Some (sym (ap (λ k. target k c.target.inside.dist) c.new-arc.ensures ∙ c.target.view_is)) in
    let raised = subst (λ y. AreRaised i.state q c.target.inside.dist y c.augment.new.prices) c.as_mut_slice-prices.ensures.value e.raised in
    let extended = e.extended c.args.row (subst (λ y. IsEnded i.state y q c.args.row c.search.new.self.order.items) (sym c.as_mut_slice-prices.ensures.value) ended) in
    let kept = kept_grown c.self.invariant.0 row ended best raised extended e.mates e.idle in
    let lm = c.augment.auto.mates in
    let vm = ap (λ (l : List Mate). length l) c.as_mut_slice-mates.ensures.value in
    let wm = written i.mates.len c.augment.new.mates (drop (length c.augment.new.mates) i.mates.items) (omega (arith, i.mates.ok.0, lm, vm)) in
    let lp = c.augment.auto.prices in
    let vp = ap (λ (l : List ℤ). length l) c.as_mut_slice-prices.ensures.value in
    let wp = written i.prices.len c.augment.new.prices (drop (length c.augment.new.prices) i.prices.items) (omega (arith, i.prices.ok.0, lp, vp)) in
    (rw (wm, wp) kept, rw extended.net c.self.invariant.1, rw extended.net c.self.invariant.2, rw extended.net c.self.invariant.3)

pub returns-in-Some-clause-extended : goal.returns-in-Some-clause-extended
returns-in-Some-clause-extended g c =
    let e = c.augment.ensures in
    let q = search_of c.search.new.self in
    let ended = subst (λ y. IsEnded c.self.inside.state y q c.args.row c.search.new.self.order.items) c.as_slice.ensures.value c.search.ensures.ended in
    let best = sym c.in-Some.ensures.best ∙ ap Some (sym (ap (λ k. target k c.target.inside.dist) c.new-arc.ensures ∙ c.target.view_is)) in
    let raised = subst (λ y. AreRaised c.self.inside.state q c.target.inside.dist y c.augment.new.prices) c.as_mut_slice-prices.ensures.value e.raised in
    let extended = e.extended c.args.row (subst (λ y. IsEnded c.self.inside.state y q c.args.row c.search.new.self.order.items) (sym c.as_mut_slice-prices.ensures.value) ended) in
    rw (← c.self.view_is) (grown_from c.self.invariant.0.matching c.self.invariant.0.shown ended best raised extended e.changed e.order (ap (λ (q : Search). q.number) e.tables ∙ c.search.ensures.counted))

pub returns-in-Some-clause-shown : goal.returns-in-Some-clause-shown
returns-in-Some-clause-shown g c = shown_kept (invariant_of-self g c).0

pub returns-in-None-clause-extended : goal.returns-in-None-clause-extended
returns-in-None-clause-extended g c =
    let k = c.self.invariant.0 in
    let s = c.search.ensures in
    let members = rw c.as_slice-in-None.ensures.value at c.fill.ensures.members in
    rw (← c.self.view_is) (stopped_from k.matching s.ended (sym c.in-None.ensures.best) (c.fill.ensures.count ∙ k.count)
    (λ v n. members v (subst (λ m. IsNode m v) (sym k.count) n)) s.counted)

pub returns-in-None-clause-shown : goal.returns-in-None-clause-shown
returns-in-None-clause-shown g c = shown_kept c.self.invariant.0
