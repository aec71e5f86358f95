use Rattle.std.proofs.Common.{◌+◌, ◌∙◌, ◌++◌, ℕ, List, [], ap, arith}
use Rattle.std.specs.Prelude.{Option}
use Rattle.mcf_groups.specs.declared.groups.Group.{Group}
use Rattle.mcf_roster.specs.declared.pairs.Pair.{Pair}
use Rattle.mcf_groups.specs.Counts.{group_counts}
use Rattle.mcf_groups.specs.Orders.{group_at}
use Rattle.mcf_groups.proofs.Listing.{pushed}
use Rattle.mcf_groups.proofs.counting.counts_of.Goals as goal

pub loop-place-preserved : goal.loop-place-preserved
loop-place-preserved c =
    let place = c.loop-place.place in
    pushed (λ (number : ℕ). group_counts c.args.roster.now c.in_ok-pairs.pairs.items number (group_at c.args.groups.now number)) 1 place (place + 1) []
    c.loop-place.found.items c.push_group.new.found.items (omega arith) c.loop-place.invariant
    (c.in_ok-push_group.ensures
    ∙ ap (λ (g : Option Group). c.loop-place.found.items ++ group_counts c.args.roster.now c.deref.result.now (place + 1) g) c.group_at.ensures
    ∙ ap (λ (ps : List Pair). c.loop-place.found.items ++ group_counts c.args.roster.now ps (place + 1) (group_at c.args.groups.now (place + 1)))
    c.deref.ensures.value)
