use Rattle.std.proofs.Common.{◌≡◌, ◌∙◌, ◌∷◌, [], refl, sym, subst, rules, to_z, of_z}
use mir.Syntax.{w128}
use Rattle.std.proofs.lemmas.Int.{to_z-of_z}
use Rattle.mcf_flows.specs.Network.{Network, node_count}
use Rattle.mcf_network.specs.Stars.{ListsLeaving}
use Rattle.mcf_engine.specs.Private.Raisings.{IsPassedFrom}
use Rattle.mcf_engine.proofs.ChainScans.{entering_list}
use Rattle.mcf_engine.proofs.RaisingSteps.{base_kept, found, keeps_join, last_kept, passed_list}
use Rattle.mcf_engine.proofs.near_state.NearState.scan_star.Goals as goal

pub returns-in_default-clause-none : goal.returns-in_default-clause-none
returns-in_default-clause-none c =
    let lists = subst (λ (g : Network). ListsLeaving g c.args.w c.leaving-leaving.result) c.net.ensures.value c.leaving-leaving.ensures in
    let t : to_z w128 (of_z w128 c.args.passed) ≡ c.args.passed = search (rules, to_z-of_z) in
    let from = subst (λ x. IsPassedFrom c.args.self.now.scale c.args.base x) (sym t) c.requires.passed in
    record {
      search = passed_list c.args.self.now c.net.ensures.valid c.args.heap.now c.args.w c.args.base _ [] c.leaving-leaving.result [] c.requires.base from
          lists.each_leaves c.in_default.ensures.none
          (entering_list c.args.self.now c.args.heap.now c.args.w c.leaving-leaving.result c.requires.popped lists);
      waiting = refl;
    }

pub entering-init : goal.entering-init
entering-init c =
    let lists = subst (λ (g : Network). ListsLeaving g c.args.w c.leaving-leaving.result) c.net.ensures.value c.leaving-leaving.ensures in
    let t : to_z w128 (of_z w128 c.args.passed) ≡ c.args.passed = search (rules, to_z-of_z) in
    let b : to_z w128 (of_z w128 c.args.base) ≡ c.args.base = search (rules, to_z-of_z) in
    let from = subst (λ x. IsPassedFrom c.args.self.now.scale x (to_z w128 (of_z w128 c.args.passed))) (sym b)
    (subst (λ x. IsPassedFrom c.args.self.now.scale c.args.base x) (sym t) c.requires.passed) in
    record {
      found = found c.args.self.now c.net.ensures.valid c.args.heap.now c.args.w _ _ c.leaving-leaving.result c.next_offer.new.leaving c.in-Some.last
          (b ∙ c.requires.base) from c.requires.popped.last lists.each_leaves c.in-Some.ensures.some
          (entering_list c.args.self.now c.args.heap.now c.args.w c.leaving-leaving.result c.requires.popped lists);
      kept = record { waiting = refl; keys = λ v n e. refl };
    }

pub next_offer-requires-in-entering : goal.next_offer-requires-in-entering
next_offer-requires-in-entering c k d l = (c.entering.invariant.found.leaves k d l).arc

pub entering-preserved : goal.entering-preserved
entering-preserved c =
    let nodes = node_count c.args.self.now.state.now.net in
    let inv = c.entering.invariant in
    let last = c.requires.popped.last in
    let t : to_z w128 (of_z w128 c.args.passed) ≡ c.args.passed = search (rules, to_z-of_z) in
    let b : to_z w128 (of_z w128 c.args.base) ≡ c.args.base = search (rules, to_z-of_z) in
    let from = subst (λ x. IsPassedFrom c.args.self.now.scale x (to_z w128 (of_z w128 c.args.passed))) (sym b)
    (subst (λ x. IsPassedFrom c.args.self.now.scale c.args.base x) (sym t) c.requires.passed) in
    let keeps = keeps_join nodes c.args.heap.now c.entering.heap c.relax.new.heap inv.kept c.relax.ensures.keeps in
    record {
      found = found c.args.self.now c.net.ensures.valid c.relax.new.heap c.args.w _ _ c.entering.leaving c.next_offer-in-entering.new.leaving
          c.in-Some-next_offer.out
          (base_kept c.args.self.now.prices.now c.args.heap.now c.relax.new.heap nodes c.args.w _ (b ∙ c.requires.base) last keeps) from
          (last_kept nodes c.args.heap.now c.relax.new.heap c.args.w keeps last) inv.found.leaves c.in-Some-next_offer.ensures.some
          (c.relax.ensures.search c.entering.leaving inv.found.search);
      kept = keeps;
    }

pub relax_last-requires-clause-search : goal.relax_last-requires-clause-search
relax_last-requires-clause-search c =
    let nodes = node_count c.args.self.now.state.now.net in
    let inv = c.entering.invariant in
    let t : to_z w128 (of_z w128 c.args.passed) ≡ c.args.passed = search (rules, to_z-of_z) in
    let from = subst (λ x. IsPassedFrom c.args.self.now.scale c.args.base x) (sym t) c.requires.passed in
    passed_list c.args.self.now c.net.ensures.valid c.entering.heap c.args.w c.args.base _ (c.entering.last ∷ []) c.entering.leaving []
    (base_kept c.args.self.now.prices.now c.args.heap.now c.entering.heap nodes c.args.w c.args.base c.requires.base c.requires.popped.last inv.kept) from
    inv.found.leaves c.in_default-next_offer.ensures.none inv.found.search

pub relax-requires-clause-last : goal.relax-requires-clause-last
relax-requires-clause-last c = c.entering.invariant.found.last

pub relax-requires-clause-search : goal.relax-requires-clause-search
relax-requires-clause-search c = (c.entering.leaving, c.entering.invariant.found.search)

pub relax_last-requires-clause-last : goal.relax_last-requires-clause-last
relax_last-requires-clause-last c = c.entering.invariant.found.last
