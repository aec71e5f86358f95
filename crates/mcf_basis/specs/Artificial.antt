-- A net with artificial arcs (Ahuja, Magnanti and Orlin, Network Flows, section 11.5). A root, node
-- 0, is added, and for each node an arc between it and the root. The label of an arc of the net is
-- its number, and that of the artificial arc of node v is m + v, where m is how many arcs the net
-- has.
-- Source: AMO 11.5
use Rattle.std.specs.Prelude.{ℕ, ◌+◌, ◌++◌, Bool, map, sum, pos, int_le, if◌then◌else◌}
use Rattle.std.specs.List.{range_with_len}
use Rattle.mcf_flows.specs.declared.arc.Arc.{Arc}
use Rattle.mcf_flows.specs.Network.{Network, IsArcNumber, at_node, node_count}
use Rattle.mcf_flows.specs.WellFormed.{weight}

-- the cost of an artificial arc: one more than all arcs of the net together can cost or earn, so
-- that one artificial unit is dearer than all that they can save
abbrev pub artificial_cost : Network → ℕ
artificial_cost g = 1 + sum (map weight g.arcs)

-- whether a node has nothing to take: its supply is at least 0
abbrev pub is_sender : Network → ℕ → Bool
is_sender g v = int_le (pos 0) (at_node g.supplies v)

-- the artificial arc of node v, toward the root from a sender, otherwise from the root. It has no
-- upper bound: nothing reads its cap
abbrev pub artificial_arc : Network → ℕ → Arc
artificial_arc g v =
    record {
      src = if is_sender g v then v else 0;
      dst = if is_sender g v then 0 else v;
      low = pos 0;
      cap = pos 0;
      cost = pos (artificial_cost g);
    }

-- the net with its artificial arcs behind its own. Its nodes are those of the net: at the root
-- nothing is asked to balance
unfoldable pub with_artificial : Network → Network
with_artificial g =
    record g {
      arcs = g.arcs ++ map (artificial_arc g) (range_with_len 1 (node_count g));
    }

-- the label of an arc of the net, or of an artificial one
abbrev pub IsLabel : Network → ℕ → Type 0
IsLabel g label = IsArcNumber (with_artificial g) label
