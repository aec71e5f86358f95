use Rattle.mcf_groups.proofs.Listing.{chosen_next}
use Rattle.mcf_groups.proofs.counting.chosen_pairs.Goals as goal

pub loop-place-preserved : goal.loop-place-preserved
loop-place-preserved c =
    chosen_next c.args.pairs.now c.args.chosen.now c.loop-place.place c.loop-place.made.items c.push_chosen.new.made.items c.loop-place-test.true
    c.loop-place.invariant c.in_ok-push_chosen.ensures
