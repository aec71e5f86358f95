use Rattle.std.proofs.Common.{◌≡◌, ◌+◌, ◌-◌, ◌<◌, ◌∙◌, Some, ap, arith, length, rules, subst, sym, to_z, of_z}
use Rattle.std.specs.Prelude.{slice_get}
use mir.Syntax.{w128}
use Rattle.std.proofs.lemmas.Int.{ints, to_z-of_z}
use Rattle.mcf_flows.specs.Network.{Network}
use Rattle.mcf_network.proofs.ArcLaws.{amount_count, amount_of}
use Rattle.mcf_network.proofs.RemovalLaws.{arc_of}
use Rattle.mcf_network.proofs.RestoringLaws.{net_of-arc_count, restored_read}
use Rattle.mcf_network.proofs.restoring.restored_amount.Goals as goal

pub amount-amount-requires : goal.amount-amount-requires
amount-amount-requires c =
    let same : length c.args.state.now.net.arcs ≡ length c.args.instance.now.arcs = ap (λ (n : Network). length n.arcs) c.requires.of_net
    ∙ net_of-arc_count c.args.instance.now in
    omega (arith, c.requires.arc, same)

pub restored_flow-requires-clause-arc : goal.restored_flow-requires-clause-arc
restored_flow-requires-clause-arc c =
    let g = c.args.instance.now in
    let h : c.args.k - 1 < length g.arcs = omega (arith, c.requires.arc) in
    let place : c.args.k ≡ c.args.k - 1 + 1 = omega (arith, c.requires.arc) in
    (arc_of g (c.args.k - 1) c.arc.result c.arc.ensures.well_formed h
    (subst (λ j. slice_get g.arcs (j - 1) ≡ Some c.arc.result) place c.arc.ensures.value)).within

pub restored_flow-requires-clause-high : goal.restored_flow-requires-clause-high
restored_flow-requires-clause-high c =
    let s = c.args.state.now in
    let same : length s.net.arcs ≡ length c.args.instance.now.arcs = ap (λ (n : Network). length n.arcs) c.requires.of_net
    ∙ net_of-arc_count c.args.instance.now in
    let amount = amount_of s c.args.k c.amount-amount.ensures.valid (omega (arith, c.requires.arc, same)) in
    omega (arith, ints, c.amount-amount.ensures.low, c.amount-amount.ensures.high, amount.width)

pub returns : goal.returns
returns c =
    let g = c.args.instance.now in
    let s = c.args.state.now in
    let same : length s.net.arcs ≡ length g.arcs = ap (λ (n : Network). length n.arcs) c.requires.of_net ∙ net_of-arc_count g in
    let h : c.args.k - 1 < length g.arcs = omega (arith, c.requires.arc) in
    let place : c.args.k ≡ c.args.k - 1 + 1 = omega (arith, c.requires.arc) in
    let a = arc_of g (c.args.k - 1) c.arc.result c.arc.ensures.well_formed h
    (subst (λ j. slice_get g.arcs (j - 1) ≡ Some c.arc.result) place c.arc.ensures.value) in
    let given : to_z w128 (of_z w128 c.amount-amount.result) ≡ c.amount-amount.result = search (rules, to_z-of_z) in
    let made : to_z w128 (of_z w128 c.restored_flow.result) ≡ c.restored_flow.result = search (rules, to_z-of_z) in
    record {
      value = restored_read g.arcs s.amounts (c.args.k - 1) c.arc.result c.amount-amount.result (to_z w128 (of_z w128 c.restored_flow.result))
          (omega (arith, same, amount_count s c.amount-amount.ensures.valid)) h a.is (sym c.amount-amount.ensures.value)
          (made ∙ (rw given at c.restored_flow.ensures));
    }
