use Rattle.std.proofs.Common.{◌∙◌, ◌+◌, ◌++◌, ◌∷◌, [], ℕ, List, sym, ap, arith}
use Rattle.std.specs.Prelude.{filter}
use Rattle.mcf_roster_reading.specs.Layouts.{is_thing}
use Rattle.mcf_roster_reading.proofs.Ranges.{filtered_more}
use Rattle.mcf_roster_reading.proofs.matrix.thing_places.Goals as goal

pub loop-place-preserved : goal.loop-place-preserved
loop-place-preserved c =
    let test = is_thing c.args.records.now in
    let place = c.loop-place.place in
    c.in_ok-push_thing.ensures ∙ ap (λ (xs : List ℕ). xs ++ filter test ((place + 1) ∷ [])) c.loop-place.invariant
    ∙ sym (filtered_more test 1 place (place + 1) (omega arith))
