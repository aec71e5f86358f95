use Rattle.std.proofs.Common.{◌≡◌, ◌∙◌, ◌||◌, true, false, sym, ap}
use Rattle.std.specs.List.{list_any}
use Rattle.mcf_period_reading.specs.Spots.{is_at}
use Rattle.mcf_period_reading.proofs.SeenLemmas.{clashes_one, nonzero}
use Rattle.mcf_period_reading.proofs.taken.clashes_with_seen.Goals as goal

pub returns-then-contains : goal.returns-then-contains
returns-then-contains c rows seen =
    let spot = c.args.spot in
    let each : list_any (is_at spot.place 0) rows ≡ true =
    sym (c.contains-2.ensures ∙ seen.spots_are (spot.place, 0)) ∙ c.if-contains.true in
    c.if-contains.true ∙ sym (ap (λ b. b || list_any (is_at spot.place spot.period) rows) each)
    ∙ clashes_one spot rows (nonzero spot.period c.if-spot-eq0.false)

pub returns-else-contains : goal.returns-else-contains
returns-else-contains c rows seen =
    let spot = c.args.spot in
    let each : list_any (is_at spot.place 0) rows ≡ false =
    sym (c.contains-2.ensures ∙ seen.spots_are (spot.place, 0)) ∙ c.if-contains.false in
    c.contains-else-contains.ensures ∙ seen.spots_are (spot.place, spot.period)
    ∙ sym (ap (λ b. b || list_any (is_at spot.place spot.period) rows) each)
    ∙ clashes_one spot rows (nonzero spot.period c.if-spot-eq0.false)
