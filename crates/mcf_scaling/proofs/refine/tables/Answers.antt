use Rattle.std.proofs.Common.{◌≤◌, subst}
use Rattle.mcf_flows.specs.Network.{Network, node_count}
use Rattle.mcf_scaling.specs.Private.Stars.{ArePositions, IsStarOf}
use Rattle.mcf_scaling.proofs.StarLaws.{on_err, outs_want}
use Rattle.mcf_scaling.proofs.refine.tables.Goals as goal

pub mark_all-requires-clause-star : goal.mark_all-requires-clause-star
mark_all-requires-clause-star c = subst (λ (g : Network). IsStarOf g c.in_ok-star.star) c.net-net.ensures.value c.in_ok-star.ensures.value

pub mark_all-requires-clause-positions : goal.mark_all-requires-clause-positions
mark_all-requires-clause-positions c = subst (λ (g : Network). ArePositions g c.in_ok-star.star) c.net-net.ensures.value c.in_ok-star.ensures.positions

pub returns-in_err-has_capacity-clause-wants : goal.returns-in_err-has_capacity-clause-wants
returns-in_err-has_capacity-clause-wants c =
    let some = c.in_err-has_capacity.ensures.wants in
    let ok = subst (λ (g : Network). IsStarOf g c.in_ok-star.star) c.net-net.ensures.value c.in_ok-star.ensures.value in
    on_err c.from_residual-in_err-has_capacity.result (1 ≤ node_count c.args.state.now.net)
    (outs_want c.args.state.now.net c.in_ok-star.star c.count.result ok c.count.ensures some)
