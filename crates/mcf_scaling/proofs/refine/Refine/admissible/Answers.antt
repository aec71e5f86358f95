use Rattle.std.proofs.Common.{List, ℤ, sym, subst}
use Rattle.mcf_flows.specs.Network.{node_count}
use Rattle.mcf_scaling.specs.Optimality.{AreSmallPrices}
use Rattle.mcf_scaling.specs.Refinements.{Refinement}
use Rattle.mcf_scaling.proofs.CurrentLaws.{entry_current, entry_leaves, entry_none, entry_within}
use Rattle.mcf_scaling.proofs.Sizes.{small_prices}
use Rattle.mcf_scaling.proofs.refine.Refine.admissible.Goals as goal

pub next_admissible-requires-clause-prices : goal.next_admissible-requires-clause-prices
next_admissible-requires-clause-prices c =
    let a : Refinement = record {
      flow = c.self.inside.state;
      prices = c.self.inside.prices.items;
      before = c.self.inside.before.items;
      scale = c.self.inside.scale;
      steps = c.self.inside.steps;
    } in
    subst (λ (ys : List ℤ). AreSmallPrices (node_count a.flow.net) ys) (sym c.deref.ensures.value) (small_prices a c.self.invariant.0)

pub next_admissible-requires-clause-within : goal.next_admissible-requires-clause-within
next_admissible-requires-clause-within c =
    let a : Refinement = record {
      flow = c.self.inside.state;
      prices = c.self.inside.prices.items;
      before = c.self.inside.before.items;
      scale = c.self.inside.scale;
      steps = c.self.inside.steps;
    } in
    entry_within a c.args.self.now c.self.inside.star c.self.inside.current_arcs.items c.args.v c.place-i.result c.index_mut.result.now c.self.view_is
    c.requires c.place-i.ensures c.self.invariant.1 c.index_mut.ensures.value

pub next_admissible-requires-clause-leaves : goal.next_admissible-requires-clause-leaves
next_admissible-requires-clause-leaves c =
    let a : Refinement = record {
      flow = c.self.inside.state;
      prices = c.self.inside.prices.items;
      before = c.self.inside.before.items;
      scale = c.self.inside.scale;
      steps = c.self.inside.steps;
    } in
    entry_leaves a c.args.self.now c.self.inside.star c.self.inside.current_arcs.items c.args.v c.place-i.result c.index_mut.result.now c.self.view_is
    c.requires c.place-i.ensures c.self.invariant.1 c.index_mut.ensures.value

pub invariant_of-self : goal.invariant_of-self
invariant_of-self c =
    let a : Refinement = record {
      flow = c.self.inside.state;
      prices = c.self.inside.prices.items;
      before = c.self.inside.before.items;
      scale = c.self.inside.scale;
      steps = c.self.inside.steps;
    } in (
      c.self.invariant.0,
      entry_current a c.args.self.now c.self.inside.star c.self.inside.current_arcs.items c.args.v c.place-i.result c.index_mut.result.now c.self.view_is
          c.requires c.place-i.ensures c.self.invariant.1 c.index_mut.ensures.value c.next_admissible.new.current c.deref.result.now
          c.deref.ensures.value c.next_admissible.ensures.within c.next_admissible.ensures.leaves c.next_admissible.ensures.passed,
      c.self.invariant.2,
      c.self.invariant.3,
      c.self.invariant.4,
      c.self.invariant.5,
    )

pub returns-clause-none : goal.returns-clause-none
returns-clause-none c =
    let a : Refinement = record {
      flow = c.self.inside.state;
      prices = c.self.inside.prices.items;
      before = c.self.inside.before.items;
      scale = c.self.inside.scale;
      steps = c.self.inside.steps;
    } in
    entry_none a c.args.self.now c.self.inside.star c.self.inside.current_arcs.items c.args.v c.place-i.result c.index_mut.result.now c.self.view_is
    c.requires c.place-i.ensures c.self.invariant.1 c.index_mut.ensures.value c.next_admissible.result c.next_admissible.new.current
    c.deref.result.now c.deref.ensures.value c.next_admissible.ensures.within c.next_admissible.ensures.leaves c.next_admissible.ensures.passed
    c.next_admissible.ensures.none
