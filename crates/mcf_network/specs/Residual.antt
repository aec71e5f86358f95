-- Residual arcs (Ahuja, Magnanti and Orlin, Network Flows, section 2.4): an arc of a network,
-- forward or backward.
-- Source: AMO 2.4
use Rattle.std.specs.Prelude.{ℕ, ◌-◌, ℤ, pos, neg_ℤ, if◌then◌else◌, slice_index_or}
use Rattle.mcf_flows.specs.declared.arc.Arc.{Arc}
use Rattle.mcf_flows.specs.Network.{Network}
use Rattle.mcf_network.specs.declared.rid.Rid.{Rid}

-- the arc that a number past the end would name
-- Source: own
abbrev pub no_arc : Arc
no_arc = record { src = 0; dst = 0; low = pos 0; cap = pos 0; cost = pos 0 }

-- the arc of this number
-- Source: own
abbrev pub arc_at : Network → ℕ → Arc
arc_at g k = slice_index_or g.arcs (k - 1) no_arc

-- the node that a residual arc leaves
abbrev pub tail : Network → Rid → ℕ
tail g r = if r.back then (arc_at g r.arc).dst else (arc_at g r.arc).src

-- the node that a residual arc enters
abbrev pub head : Network → Rid → ℕ
head g r = if r.back then (arc_at g r.arc).src else (arc_at g r.arc).dst

-- what a unit along a residual arc costs: the cost of the arc, negated backward
abbrev pub unit_cost : Network → Rid → ℤ
unit_cost g r = if r.back then neg_ℤ (arc_at g r.arc).cost else (arc_at g r.arc).cost
