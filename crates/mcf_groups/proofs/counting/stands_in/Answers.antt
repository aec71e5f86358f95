use Rattle.std.proofs.Common.{arith}
use Rattle.mcf_groups.proofs.Tallies.{stands_by_times}
use Rattle.mcf_groups.proofs.counting.stands_in.Goals as goal

pub returns : goal.returns
returns c = stands_by_times c.args.list.now c.args.times.now c.args.number c.requires.times (omega arith) (omega arith)
