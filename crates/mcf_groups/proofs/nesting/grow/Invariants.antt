use Rattle.std.proofs.Common.{◌≡◌, ◌+◌, ◌++◌, drop}
use Rattle.mcf_groups.specs.GroupFaults.{fault_from}
use Rattle.mcf_groups.specs.LinkRows.{all_links}
use Rattle.mcf_groups.specs.Nests.{IsSoundNest, nest_in, nest_of}
use Rattle.mcf_groups.proofs.nesting.grow.Given as goal

abbrev pub invariant-loop-place : goal.invariant-loop-place
invariant-loop-place l =
    record {
      sound : IsSoundNest l.roster (nest_in l.nest);
      faults : fault_from l.roster (nest_in l.nest) (l.place + 1) (drop l.place l.groups) ≡ fault_from l.roster (nest_in l.initial.nest) 1 l.groups;
      nest : nest_of l.roster (nest_in l.nest) (drop l.place l.groups) ≡ nest_of l.roster (nest_in l.initial.nest) l.groups;
      links : l.rows.items ++ all_links l.roster (nest_in l.nest) (drop l.place l.groups)
          ≡ l.initial.rows.items ++ all_links l.roster (nest_in l.initial.nest) l.groups;
    }
