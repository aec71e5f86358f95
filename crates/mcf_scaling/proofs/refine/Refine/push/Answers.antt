use Rattle.std.proofs.Common.{◌∙◌, sym, ap, subst}
use Rattle.mcf_flows.specs.Network.{Network, IsArcNumber}
use Rattle.mcf_network.specs.States.{Pseudoflow}
use Rattle.mcf_scaling.specs.Private.Stars.{ArePositions, IsStarOf}
use Rattle.mcf_scaling.proofs.MarkLaws.{pushed_marks}
use Rattle.mcf_network.specs.Residual.{head}
use Rattle.mcf_network.proofs.StateLaws.{rid}
use Rattle.mcf_scaling.proofs.CurrentLaws.{push_current}
use Rattle.mcf_scaling.proofs.QueueLaws.{arc_of, push_holds, share_low}
use Rattle.mcf_scaling.proofs.Methods.{push_low, push_made}
use Rattle.mcf_scaling.specs.Refinements.{Refinement}
use Rattle.mcf_scaling.proofs.refine.Refine.push.Goals as goal

pub push_share-amount-requires-clause-active : goal.push_share-amount-requires-clause-active
push_share-amount-requires-clause-active c =
    let a : Refinement = record {
      flow = c.self.inside.state;
      prices = c.self.inside.prices.items;
      before = c.self.inside.before.items;
      scale = c.self.inside.scale;
      steps = c.self.inside.steps;
    } in
    push_low a c.args.self.now c.args.r c.self.view_is c.requires.active

pub mark-requires-clause-arc : goal.mark-requires-clause-arc
mark-requires-clause-arc c =
    let a : Refinement = record {
      flow = c.self.inside.state;
      prices = c.self.inside.prices.items;
      before = c.self.inside.before.items;
      scale = c.self.inside.scale;
      steps = c.self.inside.steps;
    } in
    subst (λ (g : Network). IsArcNumber g c.args.r.arc) (sym (ap (λ (p : Pseudoflow). p.net) c.push_share-amount.ensures.value))
    (arc_of a c.args.self.now c.args.r c.self.view_is c.requires.admissible)

pub mark-requires-clause-count : goal.mark-requires-clause-count
mark-requires-clause-count c = c.self.invariant.4.count

pub mark-requires-clause-positions : goal.mark-requires-clause-positions
mark-requires-clause-positions c =
    subst (λ (g : Network). ArePositions g c.self.inside.star) (sym (ap (λ (p : Pseudoflow). p.net) c.push_share-amount.ensures.value)) c.self.invariant.5

pub invariant_of-self : goal.invariant_of-self
invariant_of-self c =
    let a : Refinement = record {
      flow = c.self.inside.state;
      prices = c.self.inside.prices.items;
      before = c.self.inside.before.items;
      scale = c.self.inside.scale;
      steps = c.self.inside.steps;
    } in (
      push_made a c.args.self.now c.args.r c.push_share-amount.result c.push_share-amount.new.state c.push.new.self c.self.view_is c.self.invariant.0
          c.requires.admissible c.requires.active c.push_share-amount.ensures.value c.push_share-amount.ensures.amount c.push.ensures,
      push_current a c.args.self.now
          c.args.r c.push_share-amount.result c.push_share-amount.new.state c.self.inside.star c.self.inside.current_arcs.items c.self.view_is c.self.invariant.0
          c.requires.admissible c.requires.active c.push_share-amount.ensures.value c.push_share-amount.ensures.amount c.self.invariant.1,
      c.tidy.ensures,
      subst (λ (g : Network). IsStarOf g c.self.inside.star) (sym (ap (λ (p : Pseudoflow). p.net) c.push_share-amount.ensures.value)) c.self.invariant.3,
      pushed_marks a.flow c.push_share-amount.new.state c.args.r.arc c.args.r.back c.push_share-amount.result c.self.inside.star
          c.self.inside.has_capacity.items c.mark.new.has_capacity.items c.self.invariant.0.flow
          (arc_of a c.args.self.now c.args.r c.self.view_is c.requires.admissible) c.push_share-amount.ensures.value c.self.invariant.3
          c.self.invariant.4 c.mark.ensures,
      subst (λ (g : Network). ArePositions g c.self.inside.star) (sym (ap (λ (p : Pseudoflow). p.net) c.push_share-amount.ensures.value)) c.self.invariant.5,
    )

pub returns-clause-valid : goal.returns-clause-valid
returns-clause-valid c =
    let a : Refinement = record {
      flow = c.self.inside.state;
      prices = c.self.inside.prices.items;
      before = c.self.inside.before.items;
      scale = c.self.inside.scale;
      steps = c.self.inside.steps;
    } in
    push_made a c.args.self.now c.args.r c.push_share-amount.result c.push_share-amount.new.state c.push.new.self c.self.view_is c.self.invariant.0
    c.requires.admissible c.requires.active c.push_share-amount.ensures.value c.push_share-amount.ensures.amount c.push.ensures

pub tidy-requires : goal.tidy-requires
tidy-requires c =
    let a : Refinement = record {
      flow = c.self.inside.state;
      prices = c.self.inside.prices.items;
      before = c.self.inside.before.items;
      scale = c.self.inside.scale;
      steps = c.self.inside.steps;
    } in
    push_holds a.flow c.push_share-amount.new.state c.self.inside.queue c.enqueue.new.queue c.args.r.arc c.args.r.back c.push_share-amount.result
    c.route-to.result.1 c.self.invariant.0.flow (arc_of a c.args.self.now c.args.r c.self.view_is c.requires.admissible)
    (share_low a c.args.self.now c.args.r c.push_share-amount.result c.self.view_is c.requires.admissible c.requires.active
    c.push_share-amount.ensures.amount) c.push_share-amount.ensures.value
    (c.route-to.ensures.head ∙ ap (λ (g : Network). head g (rid c.args.r.arc c.args.r.back)) c.net.ensures.value) c.self.invariant.2
    c.enqueue.ensures.kept c.enqueue.ensures.here c.enqueue.ensures.size c.enqueue.ensures.valid
