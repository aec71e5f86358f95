use Rattle.std.proofs.Common.{◌≡◌, ◌+◌, ◌-◌, ◌<◌, ◌∙◌, ◌++◌, ◌+ℤ◌, ◌*ℤ◌, [], ap, length, take, get_or, arith, pos, rules, sym, to_z, of_z, subst}
use Rattle.std.specs.List.{cons_option}
use Rattle.std.specs.Int.{w128}
use Rattle.std.proofs.lemmas.Int.{ints, to_z-of_z}
use Rattle.mcf_flows.specs.Flow.{cost}
use Rattle.mcf_flows.specs.Network.{Network}
use Rattle.mcf_network.proofs.ArcLaws.{amount_count}
use Rattle.mcf_network.proofs.RestoringLaws.{net_of-arc_count}
use Rattle.mcf_network.specs.Restoring.{restored}
use Rattle.mcf_solver.specs.Forms.{moved_arc}
use Rattle.mcf_solver.specs.Private.MovedArcs.{AreMovedOf}
use Rattle.mcf_solver.proofs.IdleArcs.{idle_more}
use Rattle.mcf_solver.proofs.LeastSolutions.{restored_bounds}
use Rattle.mcf_solver.proofs.MovedLists.{are_moved, line_more, moved_done, read_at}
use Rattle.mcf_solver.proofs.SentLists.{arc_is, carried_small, cost_at, in_flow}
use Rattle.mcf_solver.proofs.sparse.stated_along.Goals as goal

pub is_idle-requires : goal.is_idle-requires
is_idle-requires c =
    let same : length c.args.state.now.net.arcs ≡ length c.args.instance.now.arcs = ap (λ (n : Network). length n.arcs) c.requires.of_net
    ∙ net_of-arc_count c.args.instance.now in
    omega (arith, same, c.loop-i-test.true, c.arc_count-count.ensures.value, c.at-number.ensures)

pub loop-i-preserved-then-is_idle : goal.loop-i-preserved-then-is_idle
loop-i-preserved-then-is_idle c =
    let g = c.args.instance.now in
    let s = c.args.state.now in
    let ok = c.arc_count-count.ensures.well_formed in
    let h : c.loop-i.i < length g.arcs = omega (arith, c.loop-i-test.true, c.arc_count-count.ensures.value) in
    let count : length g.arcs ≡ length s.amounts = sym (net_of-arc_count g) ∙ ap (λ (n : Network). length n.arcs) (sym c.requires.of_net)
    ∙ amount_count s c.requires.flow in
    let is = c.is_idle.ensures c.if-is_idle.true in
    let place : c.at-number.result - 1 ≡ c.loop-i.i = omega (arith, c.at-number.ensures) in
    idle_more g s.amounts c.loop-i.i ok (c.is_assignment-units.ensures is.0) count h (subst (λ j. get_or s.amounts j (pos 0) ≡ pos 0) place is.1) _ _
    (restored_bounds g s ok c.requires) c.loop-i.invariant

pub restored_amount-amount-requires-clause-arc : goal.restored_amount-amount-requires-clause-arc
restored_amount-amount-requires-clause-arc c =
    let h : c.loop-i.i < length c.args.instance.now.arcs = omega (arith, c.loop-i-test.true, c.arc_count-count.ensures.value) in
    omega (arith, h, c.at-number.ensures)

pub with_cost-total-requires-clause-total : goal.with_cost-total-requires-clause-total
with_cost-total-requires-clause-total c =
    let g = c.args.instance.now in
    let flow = restored g.arcs c.args.state.now.amounts in
    let ok = c.arc-arc.ensures.well_formed in
    let h : c.loop-i.i < length g.arcs = omega (arith, c.loop-i-test.true, c.arc_count-count.ensures.value) in
    let s = cost_at g flow c.loop-i.i c.at-number.result c.arc-arc.result ok (restored_bounds g c.args.state.now ok c.requires) h
    c.at-number.ensures c.arc-arc.ensures.value in
    (omega (arith, ints, s.before_small, c.loop-i.invariant.cost_is), omega (arith, ints, s.before_small, c.loop-i.invariant.cost_is))

pub with_cost-total-requires-clause-term : goal.with_cost-total-requires-clause-term
with_cost-total-requires-clause-term c =
    let g = c.args.instance.now in
    let flow = restored g.arcs c.args.state.now.amounts in
    let ok = c.arc-arc.ensures.well_formed in
    let h : c.loop-i.i < length g.arcs = omega (arith, c.loop-i-test.true, c.arc_count-count.ensures.value) in
    let s = cost_at g flow c.loop-i.i c.at-number.result c.arc-arc.result ok (restored_bounds g c.args.state.now ok c.requires) h
    c.at-number.ensures c.arc-arc.ensures.value in
    let t : to_z w128 (of_z w128 c.restored_amount-amount.result) ≡ c.restored_amount-amount.result = search (rules, to_z-of_z) in
    let x : to_z w128 (of_z w128 c.restored_amount-amount.result) ≡ get_or flow c.loop-i.i (pos 0) =
    t ∙ read_at flow c.loop-i.i c.at-number.result c.restored_amount-amount.result c.at-number.ensures c.restored_amount-amount.ensures.value in
    rw (s.cost_read, x) (omega (arith, ints, s.term_small), omega (arith, ints, s.term_small))

pub loop-i-preserved : goal.loop-i-preserved
loop-i-preserved c =
    let g = c.args.instance.now in
    let flow = restored g.arcs c.args.state.now.amounts in
    let i = c.loop-i.i in
    let number = c.at-number.result in
    let arc = c.arc-arc.result in
    let ok = c.arc-arc.ensures.well_formed in
    let bounds = restored_bounds g c.args.state.now ok c.requires in
    let h : i < length g.arcs = omega (arith, c.loop-i-test.true, c.arc_count-count.ensures.value) in
    let s = cost_at g flow i number arc ok bounds h c.at-number.ensures c.arc-arc.ensures.value in
    let arc-is = arc_is g flow i number arc ok bounds h c.at-number.ensures c.arc-arc.ensures.value in
    let k = in_flow g flow i number arc ok bounds h c.at-number.ensures c.arc-arc.ensures.value in
    let amount = to_z w128 (of_z w128 c.restored_amount-amount.result) in
    let t : amount ≡ c.restored_amount-amount.result = search (rules, to_z-of_z) in
    let x : amount ≡ get_or flow i (pos 0) = t ∙ read_at flow i number c.restored_amount-amount.result c.at-number.ensures
    c.restored_amount-amount.ensures.value in
    let total = c.with_cost-total.ensures in
    let added_cost : to_z w128 (of_z w128 c.with_cost-total.result) ≡ c.with_cost-total.result = search (rules, to_z-of_z) in
    let step = total ∙ ap (λ z. to_z w128 c.loop-i.total-bits +ℤ z *ℤ amount) s.cost_read ∙ ap (λ z. to_z w128 c.loop-i.total-bits +ℤ arc.cost *ℤ z) x in
    let made : c.with_cost-total.result ≡ cost (take (i + 1) g.arcs) flow = omega (arith, ints, step, s.next, c.loop-i.invariant.cost_is) in
    let added : c.add_moved.new.moved.items ≡ c.loop-i.moved.items ++ cons_option (moved_arc (number, (arc, amount))) [] = c.in_ok-add_moved.ensures in
    record {
      cost_is = added_cost ∙ made;
      lines = line_more g.arcs flow i number arc amount c.loop-i.moved.items c.add_moved.new.moved.items h k c.at-number.ensures arc-is (sym x)
          c.loop-i.invariant.lines added;
    }

pub returns-clause-small : goal.returns-clause-small
returns-clause-small c =
    let ok = c.arc_count-count.ensures.well_formed in
    carried_small _ _ _ _ ok (restored_bounds c.args.instance.now c.args.state.now ok c.requires) c.loop-i.invariant.cost_is

pub returns-clause-moved : goal.returns-clause-moved
returns-clause-moved c =
    moved_done _ _ _ _ (omega (arith, c.loop-i-test.false, c.arc_count-count.ensures.value)) c.loop-i.invariant.lines

pub returns-clause-are_moved : goal.returns-clause-are_moved
returns-clause-are_moved c =
    let ok = c.arc_count-count.ensures.well_formed in
    let is = moved_done _ _ _ _ (omega (arith, c.loop-i-test.false, c.arc_count-count.ensures.value)) c.loop-i.invariant.lines in
    subst (AreMovedOf c.args.instance.now) (sym is)
    (are_moved c.args.instance.now _ ok (restored_bounds c.args.instance.now c.args.state.now ok c.requires))
