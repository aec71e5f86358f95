use Rattle.std.proofs.Common.{rules, arith, ◌≡◌, ◌<◌, ◌∙◌, ap, length, subst, sym}
use Rattle.std.specs.List.{All}
use Rattle.mcf_groups.specs.Counts.{counted_once}
use Rattle.mcf_groups.proofs.Tallies.{counted_next, tallies_few, tallies_none}
use Rattle.mcf_groups.proofs.counting.tally.Goals as goal

pub loop-place-init : goal.loop-place-init
loop-place-init c = search rules ∙ tallies_none c.args.count

pub count_once-requires : goal.count_once-requires
count_once-requires c =
    let inside : c.loop-place.place < length c.args.numbers.now = c.loop-place-test.true in
    let few : length c.args.numbers.now < 18446744073709551616 = search (rules, arith) in
    record {
      room = subst (All (λ count. count < 18446744073709551615)) (sym c.loop-place.invariant)
          (tallies_few c.args.numbers.now c.loop-place.place c.args.count 18446744073709551615 (omega (arith, inside, few)) (omega (arith, inside)));
    }

pub loop-place-preserved : goal.loop-place-preserved
loop-place-preserved c =
    c.count_once.ensures ∙ ap (counted_once _) c.loop-place.invariant
    ∙ counted_next c.args.numbers.now c.loop-place.place c.args.count _ c.loop-place-test.true
