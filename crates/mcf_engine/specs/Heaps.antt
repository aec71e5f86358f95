-- A priority queue of the nodes of a net (Cormen et al., Introduction to Algorithms, 6.5): each has
-- a key, and some wait, by key and then by number.
-- Source: own
use Rattle.std.specs.Prelude.{◌≡◌, ℕ, ◌-◌, ◌≤◌, Bool, true, false, List, length, replicate, slice_set, ℤ, pos, ◌<ℤ◌, ◌⊎◌}
use Rattle.mcf_flows.specs.Blocking.{in_table}
use Rattle.mcf_flows.specs.Network.{IsNode, at_node}
use Rattle.mcf_network.specs.NodeSets.{no_nodes, with_node}

-- the keys of the nodes, and the table of the nodes that wait
pub record Keyed : Type 0 where
  pub keys : List ℤ
  pub waiting : List Bool

-- key x of number a comes before key y of number b, or is the same: x is less, or they are equal
-- and a is at most b
-- Source: CLRS 6.5
abbrev pub ComesFirst : ℤ → ℕ → ℤ → ℕ → Type 0
ComesFirst x a y b = (x <ℤ y) ⊎ ((x ≡ y) × (a ≤ b))

-- a node waits
abbrev pub Waits : Keyed → ℕ → Type 0
Waits h v = in_table h.waiting v ≡ true

-- no node waits
abbrev pub NoneWaits : Keyed → Type 0
NoneWaits h = h.waiting ≡ no_nodes (length h.waiting)

-- the node waits, and comes before each that waits
-- Source: CLRS 6.5
pub record IsFirst (h : Keyed) (v : ℕ) : Type 0 where
  pub is_node : IsNode (length h.waiting) v
  pub waits : Waits h v
  pub precedes : (w : ℕ) → IsNode (length h.waiting) w → Waits h w → ComesFirst (at_node h.keys v) v (at_node h.keys w) w

-- this many nodes with key 0, none of which waits
abbrev pub no_keys : ℕ → Keyed
no_keys nodes = record { keys = replicate nodes (pos 0); waiting = no_nodes nodes }

-- a node has another key
abbrev pub with_key : Keyed → ℕ → ℤ → Keyed
with_key h v key = record h { keys = slice_set h.keys (v - 1) key }

-- a node waits with a key
abbrev pub waiting_with : Keyed → ℕ → ℤ → Keyed
waiting_with h v key = record { keys = slice_set h.keys (v - 1) key; waiting = with_node h.waiting v }

-- a node waits no more
abbrev pub without : Keyed → ℕ → Keyed
without h v = record h { waiting = slice_set h.waiting (v - 1) false }
