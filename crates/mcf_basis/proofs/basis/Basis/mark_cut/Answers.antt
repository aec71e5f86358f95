use Rattle.std.proofs.Common.{◌≡◌, arith, ap, subst, sym, ◌∙◌, rules, to_z, of_z}
use Rattle.std.specs.Prelude.{int_lt, pos}
use mir.Syntax.{w128}
use Rattle.std.proofs.lemmas.Int.{to_z-of_z}
use Rattle.mcf_flows.specs.Network.{node_count}
use Rattle.mcf_network.specs.NodeSets.{no_nodes}
use Rattle.mcf_basis.specs.Structures.{TreeStructure, price_at}
use Rattle.mcf_basis.proofs.Endings.{IsMarkedTo, cut_blocks, marked_next, marked_start}
use Rattle.mcf_basis.proofs.Views.{view_basis}
use Rattle.mcf_basis.proofs.basis.Basis.mark_cut.Goals as goal

pub loop-i-init : goal.loop-i-init
loop-i-init c =
    let b = c.args.self.now in
    subst (IsMarkedTo (node_count b.net) 0 (λ v. int_lt (pos 0) (price_at b v))) (sym (c.clear.ensures ∙ ap no_nodes c.requires.room))
    (marked_start (node_count b.net) (λ v. int_lt (pos 0) (price_at b v)))

pub price-requires : goal.price-requires
price-requires c =
    let count = c.node_count-i-end.ensures.value ∙ ap (λ (b : TreeStructure). node_count b.net) c.self.view_is in
    (omega arith, omega (arith, count, c.at-v.ensures, c.loop-i-test.true))

pub mark-requires : goal.mark-requires
mark-requires c =
    let count = c.node_count-i-end.ensures.value ∙ ap (λ (b : TreeStructure). node_count b.net) c.self.view_is in
    (omega arith, omega (arith, count, c.loop-i.invariant.room, c.at-v.ensures, c.loop-i-test.true))

pub loop-i-preserved : goal.loop-i-preserved
loop-i-preserved c =
    let b = c.args.self.now in
    let count = c.node_count-i-end.ensures.value ∙ ap (λ (b : TreeStructure). node_count b.net) c.self.view_is in
    let read : to_z w128 (of_z w128 c.price.result) ≡ c.price.result = search (rules, to_z-of_z) in
    marked_next (node_count b.net) c.loop-i.i c.at-v.result (λ v. int_lt (pos 0) (price_at b v)) c.loop-i.set c.mark.new.set
    (int_lt (pos 0) (to_z w128 (of_z w128 c.price.result))) c.loop-i.invariant
    (omega (arith, count, c.loop-i-test.true)) c.at-v.ensures (ap (int_lt (pos 0)) (read ∙ c.price.ensures.value)) c.mark.ensures

pub returns-clause-room : goal.returns-clause-room
returns-clause-room c = c.loop-i.invariant.room

pub returns-clause-marks : goal.returns-clause-marks
returns-clause-marks c v h =
    let count = c.node_count-i-end.ensures.value ∙ ap (λ (b : TreeStructure). node_count b.net) c.self.view_is in
    c.loop-i.invariant.marks v h (omega (arith, count, h, c.loop-i-test.false))

pub returns-clause-blocks : goal.returns-clause-blocks
returns-clause-blocks c =
    let count = c.node_count-i-end.ensures.value ∙ ap (λ (b : TreeStructure). node_count b.net) c.self.view_is in
    cut_blocks _ c.args.self.now c.loop-i.set c.self.view_is c.self.invariant c.requires.last c.requires.balanced c.requires.uneven
    (λ v h. c.loop-i.invariant.marks v h (omega (arith, count, h, c.loop-i-test.false)))

pub returns-clause-basis : goal.returns-clause-basis
returns-clause-basis c = view_basis _ c.args.self.now c.self.view_is c.self.invariant
