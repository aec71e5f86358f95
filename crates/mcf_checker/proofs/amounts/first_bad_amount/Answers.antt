use Rattle.std.proofs.Common.{◌≡◌, ◌∙◌, ◌+◌, ap, arith, below_more, get_or, of_z, pos, rules, sym, to_z, Some, ℕ, ℤ}
use Rattle.std.specs.Int.{w64, w128}
use Rattle.std.proofs.lemmas.Int.{to_z-of_z}
use Rattle.std.proofs.lemmas.Option.{slice_get-get_or, slice_get_within}
use Rattle.mcf_checker.specs.Amounts.{sent_along}
use Rattle.mcf_checker.specs.Judging.{can_carry}
use Rattle.mcf_checker.proofs.ArcAmounts.{agreement_along, length-sent_along}
use Rattle.mcf_checker.proofs.BadArcs.{bad_arc-some, bad_arc_nowhere}
use Rattle.mcf_checker.proofs.amounts.first_bad_amount.Goals as goal

pub loop-place-preserved : goal.loop-place-preserved
loop-place-preserved c =
    let arcs = c.args.instance.now.arcs in
    let flow = c.args.amounts.now in
    let place = c.loop-place.place in
    let arc = c.arc_at-arc.result in
    let inside = slice_get_within arcs place arc c.arc_at-arc.ensures.value in
    let z : ℤ = get_or flow place (pos 0) in
    let t : to_z w64 (of_z w64 z) ≡ z = search (rules, to_z-of_z) in
    let w : to_z w128 (of_z w128 c.from-amount.result) ≡ c.from-amount.result = search (rules, to_z-of_z) in
    let test = c.can_carry.ensures ∙ ap (can_carry (Some arc)) (w ∙ c.from-amount.ensures ∙ t) in
    let carried = slice_get-get_or flow place (pos 0) (omega (arith, c.requires, inside)) in
    below_more _ _ c.loop-place.invariant
    (agreement_along arcs flow place arc z c.arc_at-arc.ensures.value carried ∙ sym test ∙ c.if-not-can_carry.false)

pub returns-then-not-can_carry : goal.returns-then-not-can_carry
returns-then-not-can_carry c =
    let arcs = c.args.instance.now.arcs in
    let flow = c.args.amounts.now in
    let place = c.loop-place.place in
    let arc = c.arc_at-arc.result in
    let inside = slice_get_within arcs place arc c.arc_at-arc.ensures.value in
    let z : ℤ = get_or flow place (pos 0) in
    let t : to_z w64 (of_z w64 z) ≡ z = search (rules, to_z-of_z) in
    let w : to_z w128 (of_z w128 c.from-amount.result) ≡ c.from-amount.result = search (rules, to_z-of_z) in
    let test = c.can_carry.ensures ∙ ap (can_carry (Some arc)) (w ∙ c.from-amount.ensures ∙ t) in
    let carried = slice_get-get_or flow place (pos 0) (omega (arith, c.requires, inside)) in
    let here = agreement_along arcs flow place arc z c.arc_at-arc.ensures.value carried ∙ sym test ∙ c.if-not-can_carry.true in
    ap (λ (n : ℕ). Some (n + 1)) c.from.ensures
    ∙ sym (bad_arc-some c.args.instance.now (sent_along arcs flow) place (omega (arith, inside)) c.loop-place.invariant here)

pub returns : goal.returns
returns c =
    let arcs = c.args.instance.now.arcs in
    let long = length-sent_along arcs c.args.amounts.now c.requires in
    sym (bad_arc_nowhere c.args.instance.now (sent_along arcs c.args.amounts.now) (omega (arith, long))
    (λ j h. c.loop-place.invariant j (omega (arith, h, long, c.loop-place-test.false, c.arc_count-place-end.ensures.value))))
