use Rattle.std.proofs.Common.{rules, arith, ◌≡◌, ◌+◌, ◌<◌, length, get_or, pos}
use Rattle.std.specs.Prelude.{None}
use Rattle.std.specs.Option.{option_to_list}
use Rattle.mcf_places.specs.declared.places.Place.{Place}
use Rattle.mcf_range_text.specs.PassRangeTexts.{IsPassRangeAt}
use Rattle.mcf_range_text.proofs.AreFirsts.{one_told}
use Rattle.mcf_range_text.proofs.PassLaws.{next_is, no_more}
use Rattle.mcf_range_text.proofs.passes.pass_ranges.Goals as goal

pub loop-place-preserved : goal.loop-place-preserved
loop-place-preserved g c =
    let P = c.args.planner.now in
    let none : Place = record { supply = pos 0; through = None; penalty = None } in
    let here = get_or P.places c.loop-place.place none in
    let h : c.loop-place.place < length P.places = search rules in
    let next : c.next_number-number.result ≡ c.loop-place.number + length (option_to_list here.through) = search rules in
    record {
      first = one_told (IsPassRangeAt P c.args.least.now.shown) c.loop-place.place c.loop-place.made.items c.push.new.self.items c.in_ok-told.told
          c.loop-place.invariant.first c.in_ok-push.ensures.items c.in_ok-told.ensures;
      number = next_is P c.loop-place.place c.loop-place.number _ h c.loop-place.invariant.number next;
      few = omega (arith, next, no_more here.through, c.loop-place.invariant.few);
    }
