-- The groups of a table, and those that a choice keeps to.
-- Source: own
use Rattle.std.specs.Prelude.{◌≡◌, length, map}
use Rattle.std.specs.List.{range_with_len}
use Rattle.mcf_group_reading.specs.GroupReading.{Entries}
use Rattle.mcf_groups.specs.Orders.{crossings_of, kept_of}
use Rattle.mcf_pair_tables.specs.PairGroups.{groups_in, seen}
use Rattle.mcf_pair_tables.specs.declared.group_sets.GroupSets.{GroupSets}

-- all groups of the table; those that are kept, since they cross none that comes before them in the
-- order of their sizes; and those that are left out
pub record AreSetsOf (said : Entries) (sets : GroupSets) : Type 0 where
  pub all_are : map seen sets.all.items ≡ groups_in said (range_with_len 1 (length said.groups))
  pub kept_are : sets.kept.items ≡ kept_of sets.all.items
  pub crossings_are : sets.crossings.items ≡ crossings_of sets.all.items
  pub groups_are : map seen sets.groups.items ≡ groups_in said sets.kept.items
