-- Prices that no residual arc with room lowers (Ahuja, Magnanti and Orlin, Network Flows, section
-- 9.3).
-- Source: AMO 9.3
use Rattle.std.specs.Prelude.{ℕ, List, length, not, ℤ, pos, neg_ℤ, ◌+ℤ◌, ◌≤ℤ◌}
use Rattle.mcf_flows.specs.Limits.{limits}
use Rattle.mcf_flows.specs.Network.{IsNode, at_node}
use Rattle.mcf_network.specs.declared.rid.Rid.{Rid}
use Rattle.mcf_network.specs.Residual.{tail, head, unit_cost}
use Rattle.mcf_network.specs.States.{Pseudoflow}
use Rattle.mcf_network.specs.Walks.{HasRoom}

-- the greatest size of the cost of an arc
-- Source: own
abbrev pub cost_limit : ℕ
cost_limit = limits.cost

-- the residual arc the other way
-- Source: AMO 2.4
abbrev pub reverse : Rid → Rid
reverse r = record r { back = not r.back }

-- no price is below -f
-- Source: own
abbrev pub AreAtLeast : ℕ → List ℤ → Type 0
AreAtLeast f prices = (v : ℕ) → IsNode (length prices) v → neg_ℤ (pos f) ≤ℤ at_node prices v

-- with room, a residual arc offers its tail no lower price
abbrev pub Respects : Pseudoflow → List ℤ → Rid → Type 0
Respects s prices r =
    HasRoom s r → at_node prices (tail s.net r) ≤ℤ (unit_cost s.net r +ℤ at_node prices (head s.net r))
