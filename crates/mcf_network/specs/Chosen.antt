-- Which node set is named, and by which side, where no flow is feasible.
-- Source: own
use Rattle.std.specs.Prelude.{◌≡◌, ◌≢◌, ℕ, Bool, true, List, length, ℤ, pos, ◌<ℤ◌, ◌↔◌}
use Rattle.mcf_flows.specs.declared.problem.Side.{Side}
use Rattle.mcf_flows.specs.declared.problem.Side.TheVariants.{Take}
use Rattle.mcf_flows.specs.Blocking.{Blocks, in_table, supply_in}
use Rattle.mcf_flows.specs.Network.{Network, IsNode, node_count}

-- what the supplies of all nodes sum to
abbrev pub supply_total : Network → ℤ
supply_total g = supply_in g.supplies (λ v. true)

-- the set and the side to name where several block: `take` exactly if the supplies sum to less than
-- 0, and all nodes where they do not sum to 0
pub record IsChosen (g : Network) (set : ℕ → Bool) (side : Side) : Type 0 where
  pub take : (side ≡ Take) ↔ (supply_total g <ℤ pos 0)
  pub whole : supply_total g ≢ pos 0 → (v : ℕ) → IsNode (node_count g) v → set v ≡ true

-- the set that a table marks blocks by this side, and is the one to name
pub record IsChosenBlock (g : Network) (table : List Bool) (side : Side) : Type 0 where
  pub one_per_node : length table ≡ node_count g
  pub blocks : Blocks g (in_table table) side
  pub chosen : IsChosen g (in_table table) side
