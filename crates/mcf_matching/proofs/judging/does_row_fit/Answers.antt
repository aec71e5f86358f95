use Rattle.std.proofs.Common.{◌≡◌, ◌∙◌, ℕ, ap, arith, refl, get_or, sym, subst, pos, inl}
use Rattle.std.proofs.lemmas.Int.{ints}
use Rattle.std.proofs.lemmas.List.{get_or_default}
use Rattle.mcf_flows.specs.Network.{Network}
use Rattle.mcf_network.specs.Residual.{arc_at}
use Rattle.mcf_matching.specs.Private.Forests.{mate}
use Rattle.mcf_matching.specs.Private.RowLists.{IsRowArc}
use Rattle.mcf_matching.proofs.Mating.{mate_arc, mate_none, mate_pair}
use Rattle.mcf_matching.proofs.Updated.{none_leaves, not_less, not_more, pair_tight, read_arc, readable, row_fits, slice_none, whole_row}
use Rattle.mcf_matching.proofs.judging.does_row_fit.Goals as goal

pub returns-then-span : goal.returns-then-span
returns-then-span c _ k arc from =
    let x = c.span-span.result in
    let row = whole_row c.args.scene.now.rows.now c.requires.scene.rows c.requires.node c.span-span.ensures refl (sym c.is_some.ensures ∙ c.if-is_some.false) in
    absurd (none_leaves row (slice_none c.args.scene.now.rows.now.arcs.items x.start x.end c.if-span.true) k arc from)

pub least_offer-requires : goal.least_offer-requires
least_offer-requires c =
    let g = c.args.scene.now.state.now.net in
    let row = whole_row c.args.scene.now.rows.now c.requires.scene.rows c.requires.node c.span-span.ensures c.between.ensures (sym c.is_some.ensures ∙ c.if-is_some.false) in
    readable g c.args.v c.args.prices.now c.between.result.now row.each c.requires.count c.requires.scene.width c.requires.near

pub row_arc-pair-requires : goal.row_arc-pair-requires
row_arc-pair-requires c =
    let some = c.if-mate-eq0.false in
    rw (c.net.ensures.value, c.new.ensures, c.place-2.ensures)
    (mate_pair c.args.scene.now.state.now c.args.scene.now.mates.now c.requires.scene.mates c.args.v c.requires.node (rw (← c.place-2.ensures) (omega (arith, some)))).arc

pub offer-requires : goal.offer-requires
offer-requires c =
    let g = c.args.scene.now.state.now.net in
    let is = subst (λ (n : Network). (v : ℕ) → (arc_at n c.new.result).src ≡ v → IsRowArc n v c.row_arc-pair.result) c.net.ensures.value c.row_arc-pair.ensures.value in
    read_arc g _ c.args.prices.now c.row_arc-pair.result (is _ refl) c.requires.count c.requires.scene.width c.requires.near

pub returns-then-mate-eq0 : goal.returns-then-mate-eq0
returns-then-mate-eq0 c _ =
    let s = c.args.scene.now.state.now in
    let z = c.args.prices.now in
    let mates = c.args.scene.now.mates.now in
    let row = whole_row c.args.scene.now.rows.now c.requires.scene.rows c.requires.node c.span-span.ensures c.between.ensures (sym c.is_some.ensures ∙ c.if-is_some.false) in
    let node = c.requires.node in
    let count = c.requires.count in
    let at = c.index-prices-place.is ∙ get_or_default z c.place.result c.index-prices-place.result (pos 0) (omega (arith, c.place.ensures, node, count)) ∙ ap (λ i. get_or z i (pos 0)) c.place.ensures in
    let above = not_less c.least_offer.result c.index-prices-place.result (sym c.lt.ensures ∙ c.if-lt.false) in
    row_fits s z row
    (λ i d h. let low = c.least_offer.ensures i d h in omega (arith, ints, low, at, above))
    (λ k p from. absurd (mate_none s mates c.requires.scene.mates c.args.v (rw (← c.place-2.ensures) c.if-mate-eq0.true) (k, p, inl from)))

pub returns : goal.returns
returns c fits =
    let below = not_more c.offer.result c.index-prices-place.result (sym c.le.ensures ∙ fits) in
    let s = c.args.scene.now.state.now in
    let z = c.args.prices.now in
    let mates = c.args.scene.now.mates.now in
    let row = whole_row c.args.scene.now.rows.now c.requires.scene.rows c.requires.node c.span-span.ensures c.between.ensures (sym c.is_some.ensures ∙ c.if-is_some.false) in
    let node = c.requires.node in
    let count = c.requires.count in
    let at = c.index-prices-place.is ∙ get_or_default z c.place.result c.index-prices-place.result (pos 0) (omega (arith, c.place.ensures, node, count)) ∙ ap (λ i. get_or z i (pos 0)) c.place.ensures in
    let above = not_less c.least_offer.result c.index-prices-place.result (sym c.lt.ensures ∙ c.if-lt.false) in
    let offered = c.offer.ensures in
    row_fits s z row
    (λ i d h. let low = c.least_offer.ensures i d h in omega (arith, ints, low, at, above))
    (λ k p from.
    let here : c.new.result ≡ k = c.new.ensures ∙ ap (λ i. (get_or mates i (mate 0 0)).arc) c.place-2.ensures
    ∙ mate_arc s mates c.requires.scene.mates c.args.v k p (inl from) in
    pair_tight s c.net.result.now z c.args.v k c.row_arc-pair.result c.net.ensures.value (c.row_arc-pair.ensures.number ∙ here)
    (c.row_arc-pair.ensures.value _ (ap (λ j. (arc_at c.net.result.now j).src) here)) from (omega (arith, ints, at, below, offered)))
