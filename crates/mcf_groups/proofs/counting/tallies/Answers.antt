use Rattle.std.proofs.Common.{◌∙◌}
use Rattle.mcf_groups.specs.Counts.{times_in}
use Rattle.mcf_groups.proofs.Tallies.{times_long}
use Rattle.mcf_groups.proofs.counting.tallies.Goals as goal

pub owners_by-requires : goal.owners_by-requires
owners_by-requires c = record {
  times = times_long (times_in c.args.group.now.members.items) c.member_count.result c.deref-2.result.now
      (c.deref-2.ensures.value ∙ (rw (c.deref.ensures.value) at c.in_ok-times.ensures));
}
