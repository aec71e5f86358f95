-- A network without its lower bounds (Ahuja, Magnanti and Orlin, Network Flows, section 2.4).
-- Source: AMO 2.4
use Rattle.std.specs.Prelude.{ℕ, ◌==◌, Bool, List, map, ℤ, pos, ◌-ℤ◌, if◌then◌else◌}
use Rattle.std.specs.List.{range_with_len}
use Rattle.mcf_flows.specs.declared.arc.Arc.{Arc}
use Rattle.mcf_flows.specs.Flow.{net}
use Rattle.mcf_flows.specs.Network.{Network, at_node, node_count}

-- both ends are one node
-- Source: own
abbrev pub is_loop : Arc → Bool
is_loop a = a.src == a.dst

-- how far the cap of an arc is above its low; 0 for a loop
-- Source: own
abbrev pub width_of : Arc → ℤ
width_of a = if is_loop a then pos 0 else a.cap -ℤ a.low

-- the arc with its low taken away
abbrev pub without_low : Arc → Arc
without_low a = record a { low = pos 0; cap = width_of a }

-- the flow in which each arc carries its low
abbrev pub lows : List Arc → List ℤ
lows arcs = map (λ a. a.low) arcs

-- the supply of a node that is left when each arc carries its low
abbrev pub supply_left : Network → ℕ → ℤ
supply_left g v = at_node g.supplies v -ℤ net g.arcs (lows g.arcs) v

-- the net of a network: its arcs without their lows, and the supplies that are left
unfoldable pub net_of : Network → Network
net_of g =
    record {
      problem = g.problem;
      arcs = map without_low g.arcs;
      supplies = map (supply_left g) (range_with_len 1 (node_count g));
    }
