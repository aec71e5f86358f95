use Rattle.std.proofs.Common.{take}
use Rattle.mcf_flows.proofs.Tables.{IsTableOf}
use Rattle.mcf_flows.proofs.blocking.table_of.Given as goal

abbrev pub invariant-loop-member : goal.invariant-loop-member
invariant-loop-member l = IsTableOf l.nodes (take l.member-index l.members) l.table.items
