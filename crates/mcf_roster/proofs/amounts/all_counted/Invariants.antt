use Rattle.std.proofs.Common.{◌≡◌, map, take}
use Rattle.mcf_flows.specs.Blocking.{in_table}
use Rattle.mcf_roster.specs.Amounts.{counts_more}
use Rattle.mcf_roster.proofs.amounts.all_counted.Given as goal

abbrev pub invariant-loop-place : goal.invariant-loop-place
invariant-loop-place l = l.made.items ≡ map (counts_more (in_table l.contest.persons.now) (in_table l.contest.things.now) l.contest.side) (take l.place l.pairs)
