-- Tables of node sets, made member by member.
use Rattle.std.proofs.Common.{◌≡◌, ℕ, Bool, List, length}
use Rattle.mcf_flows.specs.Blocking.{in_list, in_table}
use Rattle.mcf_flows.specs.Network.{IsNode}

-- a table of this many nodes that marks the members of a list
pub record IsTableOf (nodes : ℕ) (members : List ℕ) (table : List Bool) : Type 0 where
  pub one_per_node : length table ≡ nodes
  pub marks : (v : ℕ) → IsNode nodes v → in_table table v ≡ in_list members v
