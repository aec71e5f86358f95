use Rattle.std.proofs.Common.{ap, sym, ◌∙◌, subst, length, pos, ◌<ℤ◌, ℕ}
use Rattle.mcf_figures.specs.Figures.{saving}
use Rattle.mcf_flows.specs.Network.{IsNode}
use Rattle.mcf_model.specs.Tables.{route_at}
use Rattle.mcf_unit_ranges.specs.Spans.{directed}
use Rattle.mcf_unit_ranges.specs.Told.{IsRangeAt, IsRoomRangeAt}
use Rattle.mcf_unit_ranges.proofs.RoomRanges.{head_node, nothing_saved, range_ok, tail_node, units_saved}
use Rattle.mcf_unit_ranges.proofs.saving.room_range.Goals as goal

pub returns-then-not-saves-clause-range : goal.returns-then-not-saves-clause-range
returns-then-not-saves-clause-range g c =
    let own = c.route-route.result.steps.now in
    nothing_saved c.args.model.now c.args.prices.now c.args.number c.requires.number
    (λ some.
    let t = (c.saves-saves.ensures own).1 (subst (λ q. pos 0 <ℤ saving c.args.prices.now q) (sym c.route-route.ensures.value) some) in
    cc (sym t ∙ c.if-not-saves.true))

pub units_range-requires-clause-from : goal.units_range-requires-clause-from
units_range-requires-clause-from g c =
    let own = c.route-route.result.steps.now in
    subst (λ (v : ℕ). IsNode (length c.args.model.now.supplies) v)
    (sym (c.ends_of-ends.ensures.from own ∙ ap (λ q. (directed c.args.prices.now q).head) c.route-route.ensures.value))
    (head_node c.args.model.now c.args.prices.now c.args.number c.requires.number c.route-route.ensures.proper.sound)

pub units_range-requires-clause-to : goal.units_range-requires-clause-to
units_range-requires-clause-to g c =
    let own = c.route-route.result.steps.now in
    subst (λ (v : ℕ). IsNode (length c.args.model.now.supplies) v)
    (sym (c.ends_of-ends.ensures.to own ∙ ap (λ q. (directed c.args.prices.now q).tail) c.route-route.ensures.value))
    (tail_node c.args.model.now c.args.prices.now c.args.number c.requires.number c.route-route.ensures.proper.sound)

pub returns-clause-range : goal.returns-clause-range
returns-clause-range g c =
    let m = c.args.model.now in
    let prices = c.args.prices.now in
    let k = c.args.number in
    let own = c.route-route.result.steps.now in
    let from = c.ends_of-ends.ensures.from own ∙ ap (λ q. (directed prices q).head) c.route-route.ensures.value in
    let to = c.ends_of-ends.ensures.to own ∙ ap (λ q. (directed prices q).tail) c.route-route.ensures.value in
    let some = subst (λ q. pos 0 <ℤ saving prices q) c.route-route.ensures.value ((c.saves-saves.ensures own).0 c.if-not-saves.false) in
    range_ok c.units_range.result (λ o. IsRangeAt m prices c.ends_of-ends.result.from c.ends_of-ends.result.to o) (λ o. IsRoomRangeAt m prices k o)
    (λ o range. units_saved m prices k c.requires.number c.route-route.ensures.proper.sound o some
    (subst (λ (v : ℕ). IsRangeAt m prices (directed prices (route_at m k)).head v o) to (subst (λ (v : ℕ). IsRangeAt m prices v c.ends_of-ends.result.to o) from range)))
    c.units_range.ensures.range
