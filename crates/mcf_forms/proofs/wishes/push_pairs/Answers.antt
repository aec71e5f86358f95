use Rattle.std.proofs.Common.{arith}
use Rattle.mcf_forms.specs.Wishes.{pair_at}
use Rattle.mcf_forms.proofs.Ranges.{pushed}
use Rattle.mcf_forms.proofs.wishes.push_pairs.Goals as goal

pub loop-place-preserved : goal.loop-place-preserved
loop-place-preserved c =
    let place = c.loop-place.place in
    pushed (pair_at c.args.sheet.now c.args.row) 0 place place c.args.made.now c.loop-place.made c.push_pair.new.made (omega arith)
    c.loop-place.invariant c.in_ok-push_pair.ensures
