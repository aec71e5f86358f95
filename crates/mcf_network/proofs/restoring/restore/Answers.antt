use Rattle.std.proofs.Common.{◌≡◌, ◌+◌, ◌-◌, length, arith, rules, ap, subst, ◌∙◌, to_z, of_z}
use mir.Syntax.{w128}
use Rattle.std.proofs.lemmas.Int.{to_z-of_z}
use Rattle.mcf_flows.specs.Network.{Network}
use Rattle.mcf_network.specs.Restoring.{restored}
use Rattle.mcf_network.specs.States.{IsPseudoflow, Pseudoflow}
use Rattle.mcf_network.proofs.ArcLaws.{amount_count}
use Rattle.mcf_network.proofs.RestoringLaws.{restored_all, restored_done, restored_next, net_of-arc_count}
use Rattle.mcf_network.proofs.restoring.restore.Goals as goal

pub restored_amount-requires-clause-arc : goal.restored_amount-requires-clause-arc
restored_amount-requires-clause-arc c =
    let g = c.args.instance.now in
    let same : length c.args.state.now.net.arcs ≡ length g.arcs = ap (λ (n : Network). length n.arcs) c.requires.of_net ∙ net_of-arc_count g in
    let view = ap (λ (s : Pseudoflow). length s.net.arcs) c.state.view_is in
    omega (arith, c.at.ensures, c.loop-i-test.true, c.arc_count-i-end.ensures.value, same, view)

pub loop-i-preserved : goal.loop-i-preserved
loop-i-preserved c =
    let back : c.loop-i.i + 1 - 1 ≡ c.loop-i.i = omega arith in
    let read = rw (c.at.ensures, back) at c.restored_amount.ensures.value in
    let made : to_z w128 (of_z w128 c.restored_amount.result) ≡ c.restored_amount.result = search (rules, to_z-of_z) in
    restored_next (restored c.args.instance.now.arcs c.args.state.now.amounts) c.loop-i.i c.restored_amount.result
    (to_z w128 (of_z w128 c.restored_amount.result)) c.loop-i.flow.items c.push.new.self.items read made c.loop-i.invariant (search rules)

pub returns-clause-value : goal.returns-clause-value
returns-clause-value c =
    let g = c.args.instance.now in
    let s = c.args.state.now in
    let same : length s.net.arcs ≡ length g.arcs = ap (λ (n : Network). length n.arcs) c.requires.of_net ∙ net_of-arc_count g in
    let valid : IsPseudoflow s = subst IsPseudoflow c.state.view_is c.state.invariant.0.flow in
    let count = amount_count s valid in
    let all = restored_all g s c.arc_count.ensures.well_formed c.requires.of_net valid c.requires.no_surplus in
    let view = ap (λ (s : Pseudoflow). length s.net.arcs) c.state.view_is in
    let is = restored_done g.arcs s.amounts c.loop-i.i c.loop-i.flow.items (omega (arith, same, count))
    (omega (arith, c.loop-i-test.false, c.arc_count-i-end.ensures.value, same, view)) c.loop-i.invariant in
    is

pub returns-clause-feasible : goal.returns-clause-feasible
returns-clause-feasible c =
    let g = c.args.instance.now in
    let s = c.args.state.now in
    let same : length s.net.arcs ≡ length g.arcs = ap (λ (n : Network). length n.arcs) c.requires.of_net ∙ net_of-arc_count g in
    let valid : IsPseudoflow s = subst IsPseudoflow c.state.view_is c.state.invariant.0.flow in
    let count = amount_count s valid in
    let all = restored_all g s c.arc_count.ensures.well_formed c.requires.of_net valid c.requires.no_surplus in
    let view = ap (λ (s : Pseudoflow). length s.net.arcs) c.state.view_is in
    let is = restored_done g.arcs s.amounts c.loop-i.i c.loop-i.flow.items (omega (arith, same, count))
    (omega (arith, c.loop-i-test.false, c.arc_count-i-end.ensures.value, same, view)) c.loop-i.invariant in
    rw is all.feasible

pub returns-clause-shown : goal.returns-clause-shown
returns-clause-shown c =
    let g = c.args.instance.now in
    let s = c.args.state.now in
    let same : length s.net.arcs ≡ length g.arcs = ap (λ (n : Network). length n.arcs) c.requires.of_net ∙ net_of-arc_count g in
    let valid : IsPseudoflow s = subst IsPseudoflow c.state.view_is c.state.invariant.0.flow in
    let count = amount_count s valid in
    let all = restored_all g s c.arc_count.ensures.well_formed c.requires.of_net valid c.requires.no_surplus in
    let view = ap (λ (s : Pseudoflow). length s.net.arcs) c.state.view_is in
    let is = restored_done g.arcs s.amounts c.loop-i.i c.loop-i.flow.items (omega (arith, same, count))
    (omega (arith, c.loop-i-test.false, c.arc_count-i-end.ensures.value, same, view)) c.loop-i.invariant in
    rw is all.shown

pub returns-clause-cost : goal.returns-clause-cost
returns-clause-cost c =
    let g = c.args.instance.now in
    let s = c.args.state.now in
    let same : length s.net.arcs ≡ length g.arcs = ap (λ (n : Network). length n.arcs) c.requires.of_net ∙ net_of-arc_count g in
    let valid : IsPseudoflow s = subst IsPseudoflow c.state.view_is c.state.invariant.0.flow in
    let count = amount_count s valid in
    let all = restored_all g s c.arc_count.ensures.well_formed c.requires.of_net valid c.requires.no_surplus in
    let view = ap (λ (s : Pseudoflow). length s.net.arcs) c.state.view_is in
    let is = restored_done g.arcs s.amounts c.loop-i.i c.loop-i.flow.items (omega (arith, same, count))
    (omega (arith, c.loop-i-test.false, c.arc_count-i-end.ensures.value, same, view)) c.loop-i.invariant in
    rw is all.cost_is
