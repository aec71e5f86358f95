use Rattle.std.proofs.Common.{◌≡◌, rules, sym, subst}
use Rattle.mcf_flows.specs.Network.{Network}
use Rattle.mcf_scaling.specs.Private.Stars.{ArePositions, IsStarOf}
use Rattle.mcf_scaling.proofs.CurrentLaws.{begin_current}
use Rattle.mcf_scaling.proofs.Methods.{begun_made}
use Rattle.mcf_scaling.specs.Refinements.{Refinement}
use Rattle.mcf_scaling.proofs.refine.Refine.begin.Goals as goal

pub mark_all-requires-clause-star : goal.mark_all-requires-clause-star
mark_all-requires-clause-star c =
    subst (λ (g : Network). IsStarOf g c.self.inside.star) (sym c.fill.ensures.net) c.self.invariant.3

pub mark_all-requires-clause-positions : goal.mark_all-requires-clause-positions
mark_all-requires-clause-positions c =
    subst (λ (g : Network). ArePositions g c.self.inside.star) (sym c.fill.ensures.net) c.self.invariant.5

pub mark_all-requires-clause-count : goal.mark_all-requires-clause-count
mark_all-requires-clause-count c = c.self.invariant.4.count

pub invariant_of-self : goal.invariant_of-self
invariant_of-self c =
    let a : Refinement = record {
      flow = c.self.inside.state;
      prices = c.self.inside.prices.items;
      before = c.self.inside.before.items;
      scale = c.self.inside.scale;
      steps = c.self.inside.steps;
    } in
    let copied : c.copy_from_slice.new.self.items ≡ a.prices = search rules in (
      begun_made a c.args.self.now c.fill.new.state c.deref.result.now c.copy_from_slice.new.self.items c.begin.new.self c.self.view_is c.self.invariant.0
          c.requires.scale c.requires.rest c.fill.ensures c.deref.ensures.value copied c.begin.ensures,
      begin_current a c.fill.new.state c.deref.result.now c.self.inside.star
          c.self.inside.current_arcs.items c.fill.ensures c.deref.ensures.value c.self.invariant.1,
      c.tidy.ensures,
      subst (λ (g : Network). IsStarOf g c.self.inside.star) (sym c.fill.ensures.net) c.self.invariant.3,
      c.mark_all.ensures,
      subst (λ (g : Network). ArePositions g c.self.inside.star) (sym c.fill.ensures.net) c.self.invariant.5,
    )

pub returns-clause-valid : goal.returns-clause-valid
returns-clause-valid c =
    let a : Refinement = record {
      flow = c.self.inside.state;
      prices = c.self.inside.prices.items;
      before = c.self.inside.before.items;
      scale = c.self.inside.scale;
      steps = c.self.inside.steps;
    } in
    let copied : c.copy_from_slice.new.self.items ≡ a.prices = search rules in
    begun_made a c.args.self.now c.fill.new.state c.deref.result.now c.copy_from_slice.new.self.items c.begin.new.self c.self.view_is c.self.invariant.0
    c.requires.scale c.requires.rest c.fill.ensures c.deref.ensures.value copied c.begin.ensures
