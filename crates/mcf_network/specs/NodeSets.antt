-- Sets of the nodes of a net, as a table with one entry for each node.
-- Source: own
use Rattle.std.specs.Prelude.{ℕ, ◌-◌, Bool, true, false, List, count_by, replicate, slice_set}

-- how many nodes a table marks
abbrev pub member_count : List Bool → ℕ
member_count table = count_by (λ b. b) table

-- the table that marks no node of this many
abbrev pub no_nodes : ℕ → List Bool
no_nodes nodes = replicate nodes false

-- the table that marks node v too
abbrev pub with_node : List Bool → ℕ → List Bool
with_node table v = slice_set table (v - 1) true
