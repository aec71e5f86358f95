use Rattle.std.proofs.Common.{arith}
use Rattle.mcf_network.proofs.net.Net.node_count.Goals as goal

pub returns-clause-value : goal.returns-clause-value
returns-clause-value c = rw (← c.self.view_is) (omega (arith, c.len.ensures))
