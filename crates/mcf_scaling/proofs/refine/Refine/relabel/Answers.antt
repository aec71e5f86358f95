use Rattle.std.proofs.Common.{◌≡◌, ℕ, rules, refl, sym, ap, ◌∙◌, subst, ℤ, ◌+ℤ◌, ◌-◌, set, to_z, of_z}
use mir.Syntax.{w128}
use Rattle.std.proofs.lemmas.Int.{to_z-of_z}
use Rattle.mcf_flows.specs.Network.{at_node}
use Rattle.mcf_scaling.proofs.CurrentLaws.{relabel_current}
use Rattle.mcf_scaling.proofs.Methods.{active_not_shut, relabel_raised, relabel_rises, relabel_stepped}
use Rattle.mcf_scaling.proofs.Sizes.{small_prices}
use Rattle.mcf_scaling.specs.Optimality.{AreSmallPrices}
use Rattle.mcf_scaling.specs.declared.star.Span.{Span}
use Rattle.mcf_scaling.specs.Private.CurrentArcs.{AreCurrentArcs}
use Rattle.mcf_scaling.specs.Refinements.{Refinement}
use Rattle.mcf_scaling.proofs.refine.Refine.relabel.Goals as goal

pub rise_of-rise-requires-clause-some : goal.rise_of-rise-requires-clause-some
rise_of-rise-requires-clause-some c =
    let a : Refinement = record {
      flow = c.self.inside.state;
      prices = c.self.inside.prices.items;
      before = c.self.inside.before.items;
      scale = c.self.inside.scale;
      steps = c.self.inside.steps;
    } in
    active_not_shut a c.args.self.now c.args.v c.self.view_is c.self.invariant.0 c.requires.active

pub raise-requires-clause-prices : goal.raise-requires-clause-prices
raise-requires-clause-prices c =
    let a : Refinement = record {
      flow = c.self.inside.state;
      prices = c.self.inside.prices.items;
      before = c.self.inside.before.items;
      scale = c.self.inside.scale;
      steps = c.self.inside.steps;
    } in
    let small = small_prices a c.self.invariant.0 in
    subst (λ n. AreSmallPrices n a.prices) (sym small.count) small

pub invariant_of-self : goal.invariant_of-self
invariant_of-self c =
    let a : Refinement = record {
      flow = c.self.inside.state;
      prices = c.self.inside.prices.items;
      before = c.self.inside.before.items;
      scale = c.self.inside.scale;
      steps = c.self.inside.steps;
    } in
    let same : to_z w128 (of_z w128 c.rise_of-rise.result) ≡ c.rise_of-rise.result = search (rules, to_z-of_z) in
    let raised : c.raise.new.prices.items ≡ set a.prices (c.args.v - 1) (at_node a.prices c.args.v +ℤ c.rise_of-rise.result) = c.raise.ensures ∙ ap
    (λ (z : ℤ). set a.prices (c.args.v - 1) (at_node a.prices c.args.v +ℤ z)) same in
    let step = relabel_stepped a c.args.self.now (record a { prices = c.raise.new.prices.items; steps = c.relabel.new.self }) c.args.v c.rise_of-rise.result c.rise_of-rise.result
    c.deref.result.now c.raise.new.prices.items c.relabel.new.self c.self.view_is c.requires.active c.requires.stuck c.deref.ensures.value
    c.rise_of-rise.ensures.value raised c.relabel.ensures refl refl in (
      relabel_raised a c.args.self.now c.args.v c.rise_of-rise.result c.deref.result.now c.raise.new.prices.items c.relabel.new.self c.self.view_is c.self.invariant.0
          c.requires.active c.requires.stuck c.deref.ensures.value c.rise_of-rise.ensures.value raised c.relabel.ensures,
      subst
          (λ (n : ℕ). AreCurrentArcs a.flow c.raise.new.prices.items c.self.inside.star (set c.self.inside.current_arcs.items n c.span-span.result.first))
          (sym c.place.ensures)
          (relabel_current a c.args.self.now (record a { prices = c.raise.new.prices.items; steps = c.relabel.new.self }) c.args.v c.rise_of-rise.result c.raise.new.prices.items
          c.self.inside.star c.self.inside.current_arcs.items c.span-span.result.first c.self.invariant.0 c.self.view_is step raised c.self.invariant.3
          (ap (λ (s : Span). s.first) c.span-span.ensures) c.self.invariant.1),
      c.self.invariant.2,
      c.self.invariant.3,
      c.self.invariant.4,
      c.self.invariant.5,
    )

pub returns-clause-valid : goal.returns-clause-valid
returns-clause-valid c =
    let a : Refinement = record {
      flow = c.self.inside.state;
      prices = c.self.inside.prices.items;
      before = c.self.inside.before.items;
      scale = c.self.inside.scale;
      steps = c.self.inside.steps;
    } in
    let same : to_z w128 (of_z w128 c.rise_of-rise.result) ≡ c.rise_of-rise.result = search (rules, to_z-of_z) in
    let raised : c.raise.new.prices.items ≡ set a.prices (c.args.v - 1) (at_node a.prices c.args.v +ℤ c.rise_of-rise.result) = c.raise.ensures ∙ ap
    (λ (z : ℤ). set a.prices (c.args.v - 1) (at_node a.prices c.args.v +ℤ z)) same in
    relabel_raised a c.args.self.now c.args.v c.rise_of-rise.result c.deref.result.now c.raise.new.prices.items c.relabel.new.self c.self.view_is c.self.invariant.0
    c.requires.active c.requires.stuck c.deref.ensures.value c.rise_of-rise.ensures.value raised c.relabel.ensures

pub returns-clause-step : goal.returns-clause-step
returns-clause-step c =
    let a : Refinement = record {
      flow = c.self.inside.state;
      prices = c.self.inside.prices.items;
      before = c.self.inside.before.items;
      scale = c.self.inside.scale;
      steps = c.self.inside.steps;
    } in
    let same : to_z w128 (of_z w128 c.rise_of-rise.result) ≡ c.rise_of-rise.result = search (rules, to_z-of_z) in
    let raised : c.raise.new.prices.items ≡ set a.prices (c.args.v - 1) (at_node a.prices c.args.v +ℤ c.rise_of-rise.result) = c.raise.ensures ∙ ap
    (λ (z : ℤ). set a.prices (c.args.v - 1) (at_node a.prices c.args.v +ℤ z)) same in
    relabel_stepped a c.args.self.now (record a { prices = c.raise.new.prices.items; steps = c.relabel.new.self }) c.args.v c.rise_of-rise.result _ c.deref.result.now
    c.raise.new.prices.items c.relabel.new.self c.self.view_is c.requires.active c.requires.stuck c.deref.ensures.value c.rise_of-rise.ensures.value raised c.relabel.ensures refl same

pub returns-clause-high : goal.returns-clause-high
returns-clause-high c =
    let a : Refinement = record {
      flow = c.self.inside.state;
      prices = c.self.inside.prices.items;
      before = c.self.inside.before.items;
      scale = c.self.inside.scale;
      steps = c.self.inside.steps;
    } in
    let same : to_z w128 (of_z w128 c.rise_of-rise.result) ≡ c.rise_of-rise.result = search (rules, to_z-of_z) in
    let raised : c.raise.new.prices.items ≡ set a.prices (c.args.v - 1) (at_node a.prices c.args.v +ℤ c.rise_of-rise.result) = c.raise.ensures ∙ ap
    (λ (z : ℤ). set a.prices (c.args.v - 1) (at_node a.prices c.args.v +ℤ z)) same in
    let step = relabel_stepped a c.args.self.now (record a { prices = c.raise.new.prices.items; steps = c.relabel.new.self }) c.args.v c.rise_of-rise.result c.rise_of-rise.result
    c.deref.result.now c.raise.new.prices.items c.relabel.new.self c.self.view_is c.requires.active c.requires.stuck c.deref.ensures.value
    c.rise_of-rise.ensures.value raised c.relabel.ensures refl refl in
    rw same (relabel_rises c.args.self.now (record a { prices = c.raise.new.prices.items; steps = c.relabel.new.self }) c.args.v c.rise_of-rise.result step)
