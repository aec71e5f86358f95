use Rattle.std.proofs.Common.{rules, ◌^◌, ◌<◌, arith, pos}
use Rattle.std.specs.Prelude.{None}
use Rattle.std.proofs.lemmas.Int.{ints}
use Rattle.mcf_places.specs.Planners.{given, wanted}
use Rattle.mcf_places.proofs.PlaceSteps.{place_sum_more}
use Rattle.mcf_places.proofs.faults.sums.Goals as goal

pub loop-place-preserved : goal.loop-place-preserved
loop-place-preserved c =
    let few : c.loop-place.place < 2 ^ 63 = search (rules, arith) in
    let more_given = place_sum_more given c.args.places.now c.loop-place.place (record { supply = pos 0; through = None; penalty = None }) c.loop-place-test.true in
    let more_wanted = place_sum_more wanted c.args.places.now c.loop-place.place (record { supply = pos 0; through = None; penalty = None }) c.loop-place-test.true in
    record {
      given = omega (arith, ints, more_given, c.given.ensures, c.loop-place.invariant, few);
      wanted = omega (arith, ints, more_wanted, c.wanted.ensures, c.loop-place.invariant, few);
      given_low = omega (arith, ints, more_given, c.given.ensures, c.loop-place.invariant);
      given_high = omega (arith, ints, more_given, c.given.ensures, c.loop-place.invariant);
      wanted_low = omega (arith, ints, more_wanted, c.wanted.ensures, c.loop-place.invariant);
      wanted_high = omega (arith, ints, more_wanted, c.wanted.ensures, c.loop-place.invariant);
    }
