use Rattle.std.proofs.Common.{refl}
use Rattle.mcf_pair_tables.specs.PairGroups.{seen}
use Rattle.mcf_pair_tables.proofs.Groupings.{seen_pushed}
use Rattle.mcf_pair_tables.proofs.grouping.push_seen.Goals as goal

pub returns : goal.returns
returns c = seen_pushed c.args.made.now.items c.push.new.self.items c.args.group (seen c.args.group) c.in_ok-push.ensures.items refl
