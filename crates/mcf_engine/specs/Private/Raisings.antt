-- A search for the greatest prices that show a state, from prices that nearly show it: the label of
-- a node is the least cost, at costs times the scale and with the slack for each arc, of a walk
-- with room that begins there.
use Rattle.std.specs.Prelude.{◌≡◌, ℕ, ◌+◌, ◌*◌, ◌^◌, ◌≤◌, ◌++◌, ◌∷◌, false, List, [], length, ℤ, pos, neg_ℤ, ◌+ℤ◌, ◌*ℤ◌, ◌≤ℤ◌, ◌<ℤ◌, ◌⊎◌}
use Rattle.std.specs.List.{All, Contains}
use Rattle.mcf_flows.specs.Blocking.{in_table}
use Rattle.mcf_flows.specs.Flow.{AreLowPrices}
use Rattle.mcf_flows.specs.Network.{IsNode, at_node, node_count}
use Rattle.mcf_network.specs.declared.rid.Rid.{Rid}
use Rattle.mcf_network.specs.NodeSets.{member_count}
use Rattle.mcf_network.specs.Residual.{tail, head, unit_cost}
use Rattle.mcf_network.specs.States.{Pseudoflow, IsPseudoflow}
use Rattle.mcf_network.specs.Walks.{HasRoom}
use Rattle.mcf_engine.specs.Heaps.{Keyed, Waits}
use Rattle.mcf_engine.specs.declared.near_state.NearState.{NearState}
use Rattle.mcf_engine.specs.Respecting.{cost_limit, reverse}

-- how far below 0 a label may lie for each arc of its walk
abbrev pub label_limit : ℕ
label_limit = 10 ^ 22

-- how far from 0 a label lies at most, and what an arc adds to one
abbrev pub label_reach : ℕ
label_reach = 10 ^ 30

-- how far from 0 a label divided by the scale and rounded lies at most
abbrev pub quotient_reach : ℕ
quotient_reach = 10 ^ 31

-- the label of a node: its key, which is taken from its price on
abbrev pub label : List ℤ → Keyed → ℕ → ℤ
label y h v = at_node y v +ℤ at_node h.keys v

-- a node is settled: it waits no more
abbrev pub Settled : Keyed → ℕ → Type 0
Settled h v = in_table h.waiting v ≡ false

-- what a residual arc adds to the label of its head
abbrev pub step : NearState → Rid → ℤ
step p r = unit_cost p.state.now.net r *ℤ pos p.scale +ℤ pos p.slack

-- with room, a residual arc offers its tail no lower label
abbrev pub RespectsLabel : NearState → Keyed → Rid → Type 0
RespectsLabel p h r =
    HasRoom p.state.now r
    → label p.prices.now h (tail p.state.now.net r) ≤ℤ (label p.prices.now h (head p.state.now.net r) +ℤ step p r)

-- from a cost on, a residual arc whose head has the label base offers its tail no label below 0,
-- even without the slack
abbrev pub IsPassedFrom : ℕ → ℤ → ℤ → Type 0
IsPassedFrom scale base passed = (cost : ℤ) → passed ≤ℤ cost → pos 0 ≤ℤ (base +ℤ cost *ℤ pos scale)

-- with room, a residual arc costs so much or more
abbrev pub CostsAtLeast : Pseudoflow → ℤ → Rid → Type 0
CostsAtLeast s least r = HasRoom s r → least ≤ℤ unit_cost s.net r

-- a list of residual arcs begins with some whose reverses, with room, cost so much or more, and
-- goes on with the rest
pub record ArePassed (s : Pseudoflow) (passed : ℤ) (list rest : List Rid) : Type 0 where
  pub first : List Rid
  pub costs : All (λ r. CostsAtLeast s passed (reverse r)) first
  pub whole : list ≡ first ++ rest

-- a number is the cost of this many arcs, at costs times the scale and with the slack for each;
-- they are no more than the nodes less those that wait
pub record IsLength (scale slack waiting nodes : ℕ) (z : ℤ) : Type 0 where
  pub price : ℤ
  pub arcs : ℕ
  pub few : arcs + waiting ≤ nodes
  pub value : z ≡ price *ℤ pos scale +ℤ pos (slack * arcs)
  pub price_low : neg_ℤ (pos (cost_limit * arcs)) ≤ℤ price
  pub low : neg_ℤ (pos (label_limit * arcs)) ≤ℤ z

-- the labels and the settled nodes of a search: residual arcs that enter settled nodes are
-- respected, but those whose reverses are still to come in a list
pub record IsRaising (p : NearState) (h : Keyed) (rest : List Rid) : Type 0 where
  pub flow : IsPseudoflow p.state.now
  pub key_count : length h.keys ≡ node_count p.state.now.net
  pub waiting_count : length h.waiting ≡ node_count p.state.now.net
  pub not_above : (v : ℕ) → IsNode (node_count p.state.now.net) v → label p.prices.now h v ≤ℤ pos 0
  pub lengths : (v : ℕ) → IsNode (node_count p.state.now.net) v → IsLength p.scale p.slack (member_count h.waiting) (node_count p.state.now.net) (label p.prices.now h v)
  pub shorter : (v : ℕ) → IsNode (node_count p.state.now.net) v → Settled h v → IsLength p.scale p.slack (member_count h.waiting + 1) (node_count p.state.now.net) (label p.prices.now h v)
  pub above : (others : List ℤ) → AreLowPrices p.state.now.net others p.state.now.amounts → (v : ℕ) → IsNode (node_count p.state.now.net) v → (at_node others v *ℤ pos p.scale) ≤ℤ label p.prices.now h v
  pub level : (u v : ℕ) → IsNode (node_count p.state.now.net) u → IsNode (node_count p.state.now.net) v → Settled h u → Waits h v → at_node h.keys u ≤ℤ at_node h.keys v
  pub respects : (r : Rid) → HasRoom p.state.now r → Settled h (head p.state.now.net r)
      → (label p.prices.now h (tail p.state.now.net r) ≤ℤ (label p.prices.now h (head p.state.now.net r) +ℤ step p r)) ⊎ Contains rest (reverse r)

-- a settled node, and no settled node has a greater key
pub record IsLastSettled (nodes : ℕ) (h : Keyed) (w : ℕ) : Type 0 where
  pub is_node : IsNode nodes w
  pub is_settled : Settled h w
  pub last : (u : ℕ) → IsNode nodes u → Settled h u → at_node h.keys u ≤ℤ at_node h.keys w

-- node w was just settled: the search goes on with whatever list has the reverses of the residual
-- arcs that enter it, but for those that are respected
pub record IsPopped (p : NearState) (h : Keyed) (w : ℕ) : Type 0 where
  pub flow : IsPseudoflow p.state.now
  pub key_count : length h.keys ≡ node_count p.state.now.net
  pub low : neg_ℤ (pos label_reach) ≤ℤ label p.prices.now h w
  pub not_above : (v : ℕ) → IsNode (node_count p.state.now.net) v → label p.prices.now h v ≤ℤ pos 0
  pub last : IsLastSettled (node_count p.state.now.net) h w
  pub search : (rest : List Rid)
      → ((r : Rid) → HasRoom p.state.now r → head p.state.now.net r ≡ w → RespectsLabel p h r ⊎ Contains rest (reverse r))
      → IsRaising p h rest

-- the reverse of a residual arc has room, and offers its tail, which waits, a key no greater than
-- its own
pub record IsOffer (p : NearState) (h : Keyed) (out : Rid) (from : ℕ) (key : ℤ) : Type 0 where
  pub from_is : from ≡ tail p.state.now.net (reverse out)
  pub waits : Waits h from
  pub room : HasRoom p.state.now (reverse out)
  pub value : at_node p.prices.now from +ℤ key ≡ label p.prices.now h (tail p.state.now.net out) +ℤ step p (reverse out)
  pub least : key ≤ℤ at_node h.keys from

-- the same nodes wait, and the keys of the others are as they were
pub record KeepsSettled (nodes : ℕ) (old new : Keyed) : Type 0 where
  pub waiting : new.waiting ≡ old.waiting
  pub keys : (v : ℕ) → IsNode nodes v → Settled old v → at_node new.keys v ≡ at_node old.keys v

-- a residual arc was relaxed: the search goes on with whatever is still to come after it
pub record IsRelaxed (p : NearState) (old new : Keyed) (out : Rid) : Type 0 where
  pub search : (rest : List Rid) → IsRaising p old (out ∷ rest) → IsRaising p new rest
  pub keeps : KeepsSettled (node_count p.state.now.net) old new

-- no residual arc is still to come, and the same nodes wait
pub record IsScanned (p : NearState) (old new : Keyed) : Type 0 where
  pub search : IsRaising p new []
  pub waiting : new.waiting ≡ old.waiting

-- node u was settled besides, so that one node less waits
pub record IsSettledNext (p : NearState) (old new : Keyed) (u : ℕ) : Type 0 where
  pub popped : IsPopped p new u
  pub fewer : member_count new.waiting + 1 ≡ member_count old.waiting

-- g is the quotient of z by the scale, rounded down
pub record IsRoundedDown (scale : ℕ) (z g : ℤ) : Type 0 where
  pub below : (g *ℤ pos scale) ≤ℤ z
  pub next : z <ℤ ((g +ℤ pos 1) *ℤ pos scale)

-- the labels of all nodes, divided by the scale and rounded down
pub record AreRounded (scale : ℕ) (y : List ℤ) (h : Keyed) (z : List ℤ) : Type 0 where
  pub count : length z ≡ length y
  pub each : (v : ℕ) → IsNode (length y) v → IsRoundedDown scale (label y h v) (at_node z v)
