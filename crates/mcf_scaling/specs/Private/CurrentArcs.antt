-- The residual arcs that are still to be looked at, for each node.
use Rattle.std.specs.Prelude.{◌≡◌, ◌⊎◌, ℕ, ◌-◌, ◌≤◌, List, length, ℤ, slice_index_or}
use Rattle.std.specs.List.{All, Contains}
use Rattle.mcf_flows.specs.Network.{IsNode, node_count}
use Rattle.mcf_network.specs.declared.rid.Rid.{Rid}
use Rattle.mcf_network.specs.Stars.{Leaves}
use Rattle.mcf_network.specs.States.{Pseudoflow}
use Rattle.mcf_scaling.specs.Optimality.{IsAdmissible}
use Rattle.mcf_scaling.specs.Private.Stars.{Star, residuals, span_of}

-- the residual arcs that leave a node, from a position on
abbrev pub rest_from : Star → ℕ → ℕ → List Rid
rest_from star v i = residuals star.outs i (span_of star v).end

-- the position of the current arc of a node
abbrev pub current_of : List ℕ → ℕ → ℕ
current_of current_arcs v = slice_index_or current_arcs (v - 1) 0

-- the residual arcs that leave a node, from its current arc on
abbrev pub rest_of : Star → List ℕ → ℕ → List Rid
rest_of star current_arcs v = rest_from star v (current_of current_arcs v)

-- for each node the position of its current arc: from there on stand residual arcs that leave it,
-- and no other that leaves it has room and a negative reduced cost
pub record AreCurrentArcs (s : Pseudoflow) (prices : List ℤ) (star : Star) (current_arcs : List ℕ) : Type 0 where
  pub count : length current_arcs ≡ node_count s.net
  pub within : (v : ℕ) → IsNode (node_count s.net) v → current_of current_arcs v ≤ (span_of star v).end
  pub leave : (v : ℕ) → IsNode (node_count s.net) v → All (Leaves s.net v) (rest_of star current_arcs v)
  pub passed : (v : ℕ) → IsNode (node_count s.net) v → (r : Rid) → Leaves s.net v r → (¬ IsAdmissible s prices r) ⊎ Contains (rest_of star current_arcs v) r

-- for each of the first n nodes its first position
pub record AreFirsts (star : Star) (current_arcs : List ℕ) (n : ℕ) : Type 0 where
  pub count : length current_arcs ≡ n
  pub each : (v : ℕ) → IsNode n v → current_of current_arcs v ≡ (span_of star v).first
