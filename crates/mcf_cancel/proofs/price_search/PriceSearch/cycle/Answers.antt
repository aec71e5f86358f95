use Rattle.std.proofs.Common.{arith, subst, ap, ◌∙◌}
use Rattle.mcf_flows.specs.Network.{Network, node_count}
use Rattle.std.proofs.lemmas.Bool.{OnFalse_at}
use Rattle.mcf_cancel.specs.Private.Labels.{Labels, IsLabelling}
use Rattle.mcf_cancel.proofs.LinkWalks.{cycle_from_path}
use Rattle.mcf_cancel.proofs.Cycles.{cycle_next, cycle_end, settled_floor}
use Rattle.mcf_cancel.proofs.price_search.PriceSearch.cycle.Goals as goal

pub returns-then-is_closed-clause-some : goal.returns-then-is_closed-clause-some
returns-then-is_closed-clause-some c =
    let found = rw c.as_slice.ensures.value at c.in_ok-walk.ensures in
    let trail = c.in_ok-end.ensures.trail in
    rw found.3 (cycle_from_path c.args.self.now _ _ c.in_ok-end.end found.0 (subst IsLabelling c.self.view_is c.self.invariant) trail.steps trail.distinct
    c.in_ok-end.ensures.walk found.1 found.2)

pub nodes-preserved : goal.nodes-preserved
nodes-preserved c =
    cycle_next c.args.self.now _ _ _ _ c.nodes.number c.in_ok-end.end c.nodes.invariant.before c.in_ok-end.ensures.trail
    (rw c.at-from.ensures at c.in_ok-end.ensures.walk) (OnFalse_at c.if-is_closed.false c.is_closed.ensures.open) c.finish.ensures.done
    c.finish.ensures.kept c.finish.ensures.path

pub returns-clause-none : goal.returns-clause-none
returns-clause-none c =
    let counted = c.node_count-number-end.ensures.value ∙ ap (λ (x : Network). node_count x)
    (c.net-net.ensures.value ∙ ap (λ (x : Labels). x.flow.net) c.self.view_is) in
    let test = c.nodes-test.false in
    cycle_end c.args.self.now _ _ c.nodes.number (subst IsLabelling c.self.view_is c.self.invariant) c.nodes.invariant (omega (arith, counted, test))

pub finish-requires-clause-walk : goal.finish-requires-clause-walk
finish-requires-clause-walk c = (c.at-from.result, c.in_ok-end.ensures.walk)

pub finish-requires-clause-floor : goal.finish-requires-clause-floor
finish-requires-clause-floor c =
    settled_floor c.args.self.now _ c.in_ok-end.end (subst IsLabelling c.self.view_is c.self.invariant) c.nodes.invariant.floors
    (rw c.nodes.invariant.floors.count c.in_ok-end.ensures.end) (OnFalse_at c.if-is_closed.false c.is_closed.ensures.open)
