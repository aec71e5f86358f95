use Rattle.std.proofs.Common.{◌≡◌, length}
use Rattle.mcf_decimal.specs.Groups.{are_groups, separators}
use Rattle.mcf_decimal.proofs.groups.are_groups.Given as goal

abbrev pub invariant-groups : goal.invariant-groups
invariant-groups l = are_groups (separators l.mark) l.bytes ≡ are_groups (separators l.mark) l.rest

abbrev pub decreases-groups : goal.decreases-groups
decreases-groups l = length l.rest
