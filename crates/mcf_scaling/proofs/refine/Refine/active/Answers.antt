use Rattle.mcf_scaling.specs.Refinements.{Refinement}
use Rattle.mcf_scaling.proofs.QueueLaws.{front_active}
use Rattle.mcf_scaling.proofs.refine.Refine.active.Goals as goal

pub returns-clause-some : goal.returns-clause-some
returns-clause-some c =
    let a : Refinement = record {
      flow = c.self.inside.state;
      prices = c.self.inside.prices.items;
      before = c.self.inside.before.items;
      scale = c.self.inside.scale;
      steps = c.self.inside.steps;
    } in
    front_active a c.args.self.now c.self.inside.queue c.front.result c.self.view_is c.self.invariant.2 c.front.ensures.some
