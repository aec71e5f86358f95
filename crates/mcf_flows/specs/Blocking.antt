-- Node sets that must send or take more than they can (Hoffman's condition; Ahuja, Magnanti and
-- Orlin, Network Flows, chapter 6). A set is a test of nodes; an arc with both ends in it counts
-- nowhere.
-- Source: AMO 6 (Hoffman's condition: 6.7)
use Rattle.std.specs.Prelude.{ℕ, ◌==◌, ◌-◌, Bool, false, not, ◌&&◌, List, length, ℤ, ◌+ℤ◌, neg_ℤ, ◌<ℤ◌, slice_index_or}
use Rattle.std.specs.List.{list_any}
use Rattle.mcf_flows.specs.declared.arc.Arc.{Arc}
use Rattle.mcf_flows.specs.declared.problem.Side.{Side}
use Rattle.mcf_flows.specs.declared.problem.Side.TheVariants.{Send, Take}
use Rattle.mcf_flows.specs.Network.{Network, arc_sum, at_node, node_sum, when}

-- the arc begins in the set and ends outside
abbrev pub leaves : (ℕ → Bool) → Arc → Bool
leaves set a = set a.src && not (set a.dst)

-- the arc ends in the set and begins outside
abbrev pub enters : (ℕ → Bool) → Arc → Bool
enters set a = set a.dst && not (set a.src)

-- the sum of the supplies in the set
abbrev pub supply_in : List ℤ → (ℕ → Bool) → ℤ
supply_in supplies set = node_sum (λ v. when (set v) (at_node supplies v)) (length supplies)

-- the lower bounds of the arcs that enter the set, summed
abbrev pub low_entering : List Arc → (ℕ → Bool) → ℤ
low_entering arcs set = arc_sum (λ a. when (enters set a) a.low) arcs

-- the upper bounds of the arcs that enter the set, summed
abbrev pub cap_entering : List Arc → (ℕ → Bool) → ℤ
cap_entering arcs set = arc_sum (λ a. when (enters set a) a.cap) arcs

-- the lower bounds of the arcs that leave the set, summed
abbrev pub low_leaving : List Arc → (ℕ → Bool) → ℤ
low_leaving arcs set = arc_sum (λ a. when (leaves set a) a.low) arcs

-- the upper bounds of the arcs that leave the set, summed
abbrev pub cap_leaving : List Arc → (ℕ → Bool) → ℤ
cap_leaving arcs set = arc_sum (λ a. when (leaves set a) a.cap) arcs

-- what the set must send: its supply and the lower bounds that enter it
abbrev pub must_send : Network → (ℕ → Bool) → ℤ
must_send g set = supply_in g.supplies set +ℤ low_entering g.arcs set

-- what the set can send: the upper bounds that leave it
abbrev pub can_send : Network → (ℕ → Bool) → ℤ
can_send g set = cap_leaving g.arcs set

-- what the set must take: minus its supply and the lower bounds that leave it
abbrev pub must_take : Network → (ℕ → Bool) → ℤ
must_take g set = neg_ℤ (supply_in g.supplies set) +ℤ low_leaving g.arcs set

-- what the set can take: the upper bounds that enter it
abbrev pub can_take : Network → (ℕ → Bool) → ℤ
can_take g set = cap_entering g.arcs set

-- the set must send more than it can, or take more than it can
abbrev pub Blocks : Network → (ℕ → Bool) → Side → Type 0
Blocks g set Send = can_send g set <ℤ must_send g set
Blocks g set Take = can_take g set <ℤ must_take g set

-- the set of the nodes of a list
-- Source: own
abbrev pub in_list : List ℕ → ℕ → Bool
in_list nodes v = list_any (λ w. w == v) nodes

-- the set of the nodes that a table marks, which has one entry for each node
-- Source: own
abbrev pub in_table : List Bool → ℕ → Bool
in_table table v = slice_index_or table (v - 1) false
