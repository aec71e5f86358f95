use Rattle.std.proofs.Common.{◌≡◌, ◌+◌, drop}
use Rattle.mcf_roster.specs.RosterFaults.{first_number}
use Rattle.mcf_groups.specs.Crossings.{is_cut_by}
use Rattle.mcf_groups.proofs.crossings.first_cut.Given as goal

abbrev pub invariant-loop-place : goal.invariant-loop-place
invariant-loop-place l = first_number (is_cut_by l.group) (l.place + 1) (drop l.place l.groups) ≡ first_number (is_cut_by l.group) 1 l.groups
