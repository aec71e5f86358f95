use Rattle.std.proofs.Common.{◌≡◌, ◌∙◌, ap, arith, length, rules, to_z, of_z}
use Rattle.std.specs.Prelude.{unsigned_abs}
use Rattle.std.specs.Vec.{with_items}
use mir.Syntax.{w128}
use Rattle.std.proofs.lemmas.Int.{to_z-of_z}
use Rattle.std.proofs.lemmas.List.{with_items_is}
use Rattle.mcf_network.proofs.ArcLaws.{net_arc_at}
use Rattle.mcf_basis.specs.declared.cycle.Cycle.{Cycle}
use Rattle.mcf_basis.specs.declared.offer.ArcOffer.{ArcOffer}
use Rattle.mcf_basis.specs.Private.Climbs.{laid}
use Rattle.mcf_basis.specs.Steps.{moved_by}
use Rattle.mcf_basis.proofs.Pivoted.{IsTurnedTo, cycle_found, from_in_tree, number, push_ready, reduced_is, reduced_ready}
use Rattle.mcf_basis.proofs.Pivoted.{replace_ready, residuals_sized, to_in_tree, turned}
use Rattle.mcf_basis.proofs.basis.Basis.pivot.Goals as goal

pub index-offer-requires : goal.index-offer-requires
index-offer-requires c =
    omega (arith, c.self.invariant.offers_size, number _ _ c.args.k c.self.invariant c.self.view_is c.requires, c.place.ensures)

pub reduced-reduced-requires : goal.reduced-reduced-requires
reduced-reduced-requires c =
    reduced_ready _ _ c.args.k c.self.invariant c.self.view_is c.requires c.index-offer.result.now c.place.result c.place.ensures c.index-offer.ensures

pub of-climb-requires-clause-sized : goal.of-climb-requires-clause-sized
of-climb-requires-clause-sized c =
    rw c.deref.ensures.value (residuals_sized _ _ c.args.k c.self.invariant c.self.view_is c.requires)

pub of-climb-requires-clause-left : goal.of-climb-requires-clause-left
of-climb-requires-clause-left c =
    from_in_tree _ _ c.args.k c.self.invariant c.self.view_is c.requires c.index-offer.result.now c.place.result c.place.ensures c.index-offer.ensures

pub of-climb-requires-clause-right : goal.of-climb-requires-clause-right
of-climb-requires-clause-right c =
    to_in_tree _ _ c.args.k c.self.invariant c.self.view_is c.requires c.index-offer.result.now c.place.result c.place.ensures c.index-offer.ensures

pub width-requires : goal.width-requires
width-requires c = number _ _ c.args.k c.self.invariant c.self.view_is c.requires

pub overflow_cast-width : goal.overflow_cast-width
overflow_cast-width c =
    let g = c.self.inside.net.now in
    let width : to_z w128 (of_z w128 c.width.result) ≡ c.width.result = search (rules, to_z-of_z) in
    let arc = net_arc_at g c.args.k c.width.ensures.of_net (number _ _ c.args.k c.self.invariant c.self.view_is c.requires) in
    let low = arc.width_low in
    let high = arc.width_high in
    rw (width, c.width.ensures.value) (search (rules, low, high))

pub push-requires : goal.push-requires
push-requires c =
    let o : ArcOffer = c.index-offer.result.now in
    let f : Cycle = c.cycle-cycle.result in
    let width : to_z w128 (of_z w128 c.width.result) ≡ c.width.result = search (rules, to_z-of_z) in
    let round = cycle_found _ _ c.args.k c.self.invariant c.self.view_is c.requires o c.place.result c.place.ensures c.index-offer.ensures
    f c.of-climb.result c.deref.result.now (unsigned_abs (to_z w128 (of_z w128 c.width.result)))
    c.deref.ensures.value (ap unsigned_abs (width ∙ c.width.ensures.value)) c.of-climb.ensures.value c.cycle-cycle.ensures.arc
    c.cycle-cycle.ensures.from c.cycle-cycle.ensures.to c.cycle-cycle.ensures.apex c.cycle-cycle.ensures.chosen in
    rw (c.deref_mut.ensures.value, c.deref_mut-2.ensures.value) (push_ready _ _ c.args.k c.self.invariant c.self.view_is c.requires f round)

pub replace-requires : goal.replace-requires
replace-requires c =
    let o : ArcOffer = c.index-offer.result.now in
    let f : Cycle = c.cycle-cycle.result in
    let width : to_z w128 (of_z w128 c.width.result) ≡ c.width.result = search (rules, to_z-of_z) in
    let round = cycle_found _ _ c.args.k c.self.invariant c.self.view_is c.requires o c.place.result c.place.ensures c.index-offer.ensures
    f c.of-climb.result c.deref.result.now (unsigned_abs (to_z w128 (of_z w128 c.width.result)))
    c.deref.ensures.value (ap unsigned_abs (width ∙ c.width.ensures.value)) c.of-climb.ensures.value c.cycle-cycle.ensures.arc
    c.cycle-cycle.ensures.from c.cycle-cycle.ensures.to c.cycle-cycle.ensures.apex c.cycle-cycle.ensures.chosen in
    let back : to_z w128 (of_z w128 c.reduced-reduced.result) ≡ c.reduced-reduced.result = search (rules, to_z-of_z) in
    let reduced = c.cycle-cycle.ensures.reduced ∙ (back ∙ (c.reduced-reduced.ensures.value
    ∙ reduced_is _ _ c.args.k c.self.invariant c.self.view_is c.requires o c.place.result c.place.ensures c.index-offer.ensures)) in
    let pushed = c.deref_mut-4.ensures.value ∙ with_items_is c.self.inside.residuals c.push.new.residuals (search rules) in
    rw (c.deref_mut-3.ensures.value, pushed) (replace_ready _ _ c.args.k c.self.invariant c.self.view_is c.requires f round c.push.new.residuals
    (c.push.ensures.residuals_size ∙ ap length c.deref_mut.ensures.value) reduced)

-- the pivot, as it was done
done : (c : goal.After-step_of) → IsTurnedTo c.args.self.now
    (laid c.self.inside.net.now c.replace.new.tree (with_items c.self.inside.offers c.replace.new.offers).items
    (with_items (with_items c.self.inside.residuals c.push.new.residuals) c.replace.new.residuals).items
    (with_items c.self.inside.artificial c.push.new.artificial).items c.replace.new.table c.add_one.new.self.number)
    c.args.k (moved_by c.step_of.result)
done c =
    let inside = c.self.inside in
    let o : ArcOffer = c.index-offer.result.now in
    let f : Cycle = c.cycle-cycle.result in
    let width : to_z w128 (of_z w128 c.width.result) ≡ c.width.result = search (rules, to_z-of_z) in
    let round = cycle_found _ _ c.args.k c.self.invariant c.self.view_is c.requires o c.place.result c.place.ensures c.index-offer.ensures
    f c.of-climb.result c.deref.result.now (unsigned_abs (to_z w128 (of_z w128 c.width.result)))
    c.deref.ensures.value (ap unsigned_abs (width ∙ c.width.ensures.value)) c.of-climb.ensures.value c.cycle-cycle.ensures.arc
    c.cycle-cycle.ensures.from c.cycle-cycle.ensures.to c.cycle-cycle.ensures.apex c.cycle-cycle.ensures.chosen in
    let back : to_z w128 (of_z w128 c.reduced-reduced.result) ≡ c.reduced-reduced.result = search (rules, to_z-of_z) in
    let reduced = c.cycle-cycle.ensures.reduced ∙ (back ∙ (c.reduced-reduced.ensures.value
    ∙ reduced_is _ _ c.args.k c.self.invariant c.self.view_is c.requires o c.place.result c.place.ensures c.index-offer.ensures)) in
    let pushed = c.deref_mut-4.ensures.value ∙ with_items_is inside.residuals c.push.new.residuals (search rules) in
    let new = c.replace.new in
    let offers = with_items_is inside.offers new.offers (search rules) in
    let residuals = with_items_is (with_items inside.residuals c.push.new.residuals) new.residuals (search rules) in
    let artificial = with_items_is inside.artificial c.push.new.artificial (search rules) in
    rw (offers, residuals, artificial, c.step_of.ensures.value) (turned _ _ c.args.k c.self.invariant c.self.view_is c.requires f round new.tree new.offers
    c.push.new.residuals new.residuals c.push.new.artificial new.table c.add_one.new.self.number c.add_one.ensures reduced
    (rw (c.deref_mut.ensures.value, c.deref_mut-2.ensures.value) at c.push.ensures) (rw (c.deref_mut-3.ensures.value, pushed) at c.replace.ensures))

pub invariant_of-self : goal.invariant_of-self
invariant_of-self c = (done c).laid_out

pub returns-clause-basis : goal.returns-clause-basis
returns-clause-basis c = (done c).laid_out.basis

pub returns-clause-step : goal.returns-clause-step
returns-clause-step c = (done c).pivot

pub returns-clause-falls : goal.returns-clause-falls
returns-clause-falls c = (done c).falls
