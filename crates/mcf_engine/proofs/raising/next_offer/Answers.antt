use Rattle.std.proofs.lemmas.List.Elements.{All-head, All-tail}
use Rattle.mcf_flows.specs.Network.{IsArcNumber}
use Rattle.mcf_network.specs.declared.rid.Rid.{Rid}
use Rattle.mcf_engine.proofs.RaisingSteps.{passed_more}
use Rattle.mcf_engine.proofs.raising.next_offer.Goals as goal

pub may_offer-requires : goal.may_offer-requires
may_offer-requires c =
    All-head (λ (r : Rid). IsArcNumber c.args.state.now.net r.arc) c.in-Some.out c.next.new.self (rw c.in-Some.ensures.steps at c.arcs.invariant.arcs)

pub arcs-preserved : goal.arcs-preserved
arcs-preserved c =
    let inv = c.arcs.invariant in
    record {
      arcs = All-tail (λ (r : Rid). IsArcNumber c.args.state.now.net r.arc) c.in-Some.out c.next.new.self (rw c.in-Some.ensures.steps at inv.arcs);
      passed = passed_more _ _ _ _ c.in-Some.out (c.may_offer.ensures c.if-may_offer.false) (rw c.in-Some.ensures.steps at inv.passed);
    }
