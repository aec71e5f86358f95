use Rattle.std.proofs.Common.{rules, arith, ◌≡◌, ◌+◌, ◌<◌, [], ◌∷◌, ◌++◌, length, get_or, pos}
use Rattle.std.specs.Prelude.{None}
use Rattle.std.specs.Option.{option_to_list}
use Rattle.mcf_places.specs.declared.places.Place.{Place}
use Rattle.mcf_plan_figures.specs.Told.{place_told}
use Rattle.mcf_plan_figures.proofs.ToldFigures.{made_more, next_number, no_more}
use Rattle.mcf_plan_figures.proofs.figures.places_told.Goals as goal

pub loop-place-preserved : goal.loop-place-preserved
loop-place-preserved c =
    let P = c.args.planner.now in
    let none : Place = record { supply = pos 0; through = None; penalty = None } in
    let here = get_or P.places c.loop-place.place none in
    let pushed : c.push.new.self.items ≡ c.loop-place.made.items ++ c.place_told-told.result ∷ [] = search rules in
    let h : c.loop-place.place < length P.places = search rules in
    let next : c.next_number-number.result ≡ c.loop-place.number + length (option_to_list here.through) = search rules in
    record {
      made = made_more (place_told P c.args.shown.now c.args.groups.now) _ _ c.loop-place.place c.place_told-told.result c.loop-place.invariant.made c.place_told-told.ensures pushed;
      number = next_number P c.loop-place.place c.loop-place.number _ h c.loop-place.invariant.number next;
      few = omega (arith, next, no_more here.through, c.loop-place.invariant.few);
    }
