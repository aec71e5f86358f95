use Rattle.std.proofs.Common.{◌≡◌, ◌<◌, ◌∙◌, length, get_or, arith, refl, rules, pos, to_z, of_z}
use Rattle.std.specs.Int.{w128}
use Rattle.std.proofs.lemmas.Int.{ints, to_z-of_z}
use Rattle.std.proofs.lemmas.List.{take_all}
use Rattle.mcf_answer.specs.declared.answers.Sent.{Sent}
use Rattle.mcf_network.specs.Restoring.{restored}
use Rattle.mcf_solver.proofs.LeastSolutions.{restored_bounds}
use Rattle.mcf_solver.proofs.MovedLists.{read_at}
use Rattle.mcf_solver.proofs.SentLists.{carried_small, cost_at, flow_done, lines_of, sent_more}
use Rattle.mcf_solver.proofs.flow.carried_along.Goals as goal

pub restored_amount-amount-requires-clause-arc : goal.restored_amount-amount-requires-clause-arc
restored_amount-amount-requires-clause-arc c =
    let h : c.loop-i.i < length c.args.instance.now.arcs = omega (arith, c.loop-i-test.true, c.arc_count-count.ensures.value) in
    omega (arith, h, c.at-number.ensures)

pub overflow_mul-total : goal.overflow_mul-total
overflow_mul-total c =
    let g = c.args.instance.now in
    let flow = restored g.arcs c.args.state.now.amounts in
    let ok = c.arc-arc.ensures.well_formed in
    let h : c.loop-i.i < length g.arcs = omega (arith, c.loop-i-test.true, c.arc_count-count.ensures.value) in
    let bounds = restored_bounds g c.args.state.now ok c.requires in
    let s = cost_at g flow c.loop-i.i c.at-number.result c.arc-arc.result ok bounds h c.at-number.ensures c.arc-arc.ensures.value in
    let t : to_z w128 (of_z w128 c.restored_amount-amount.result) ≡ c.restored_amount-amount.result = search (rules, to_z-of_z) in
    let x : to_z w128 (of_z w128 c.restored_amount-amount.result) ≡ get_or flow c.loop-i.i (pos 0) =
    t ∙ read_at flow c.loop-i.i c.at-number.result c.restored_amount-amount.result c.at-number.ensures c.restored_amount-amount.ensures.value in
    rw (s.cost_read, x) (omega (arith, ints, s.term_small))

pub overflow_add-total : goal.overflow_add-total
overflow_add-total c =
    let g = c.args.instance.now in
    let flow = restored g.arcs c.args.state.now.amounts in
    let ok = c.arc-arc.ensures.well_formed in
    let h : c.loop-i.i < length g.arcs = omega (arith, c.loop-i-test.true, c.arc_count-count.ensures.value) in
    let bounds = restored_bounds g c.args.state.now ok c.requires in
    let s = cost_at g flow c.loop-i.i c.at-number.result c.arc-arc.result ok bounds h c.at-number.ensures c.arc-arc.ensures.value in
    let t : to_z w128 (of_z w128 c.restored_amount-amount.result) ≡ c.restored_amount-amount.result = search (rules, to_z-of_z) in
    let x : to_z w128 (of_z w128 c.restored_amount-amount.result) ≡ get_or flow c.loop-i.i (pos 0) =
    t ∙ read_at flow c.loop-i.i c.at-number.result c.restored_amount-amount.result c.at-number.ensures c.restored_amount-amount.ensures.value in
    rw (s.cost_read, x) (omega (arith, ints, s.term_small, s.before_small, c.loop-i.invariant.cost_is))

pub loop-i-preserved : goal.loop-i-preserved
loop-i-preserved c =
    let g = c.args.instance.now in
    let flow = restored g.arcs c.args.state.now.amounts in
    let ok = c.arc-arc.ensures.well_formed in
    let h : c.loop-i.i < length g.arcs = omega (arith, c.loop-i-test.true, c.arc_count-count.ensures.value) in
    let bounds = restored_bounds g c.args.state.now ok c.requires in
    let s = cost_at g flow c.loop-i.i c.at-number.result c.arc-arc.result ok bounds h c.at-number.ensures c.arc-arc.ensures.value in
    let t : to_z w128 (of_z w128 c.restored_amount-amount.result) ≡ c.restored_amount-amount.result = search (rules, to_z-of_z) in
    let x : to_z w128 (of_z w128 c.restored_amount-amount.result) ≡ get_or flow c.loop-i.i (pos 0) =
    t ∙ read_at flow c.loop-i.i c.at-number.result c.restored_amount-amount.result c.at-number.ensures c.restored_amount-amount.ensures.value in
    let line : Sent =
    record { src = c.arc-arc.result.src; dst = c.arc-arc.result.dst; flow = to_z w128 (of_z w128 c.restored_amount-amount.result) } in
    let so_far = lines_of g flow c.loop-i.i _ c.loop-i.sent.items c.loop-i.invariant in
    let more = sent_more g flow c.loop-i.i c.at-number.result c.arc-arc.result ok bounds h c.at-number.ensures c.arc-arc.ensures.value line
    c.loop-i.sent.items c.push.new.self.items refl refl x so_far (search rules) in
    record {
      cost_is = simp (s.cost_read, x) (omega (arith, ints, s.term_small, s.before_small, s.next, c.loop-i.invariant.cost_is));
      ends = more.ends;
      carried = more.carried;
      fit = more.fit;
    }

pub returns-clause-small : goal.returns-clause-small
returns-clause-small c =
    let ok = c.arc_count-count.ensures.well_formed in
    carried_small _ _ _ _ ok (restored_bounds c.args.instance.now c.args.state.now ok c.requires) c.loop-i.invariant.cost_is

pub returns-clause-flow : goal.returns-clause-flow
returns-clause-flow c =
    let g = c.args.instance.now in
    let flow = restored g.arcs c.args.state.now.amounts in
    let bounds = restored_bounds g c.args.state.now c.arc_count-count.ensures.well_formed c.requires in
    c.loop-i.invariant.carried
    ∙ take_all c.loop-i.i flow (flow_done g flow c.loop-i.i bounds (omega (arith, c.loop-i-test.false, c.arc_count-count.ensures.value)))
