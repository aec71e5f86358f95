-- Arcs as they are stored.
-- Source: own
use Rattle.std.specs.Prelude.{pos}
use Rattle.mcf_flows.specs.declared.arc.Arc.{Arc}
use Rattle.mcf_flows.specs.declared.arc.Link.{Link}
use Rattle.mcf_flows.specs.declared.arc.PackedArc.{PackedArc}

-- the arc that is stored
abbrev pub unpacked : PackedArc → Arc
unpacked a = record { src = a.src; dst = a.dst; low = a.low; cap = a.cap; cost = a.cost }

-- the arc that is stored without its bounds, where they are 0 and 1
abbrev pub unit_arc : Link → Arc
unit_arc l = record { src = l.src; dst = l.dst; low = pos 0; cap = pos 1; cost = l.cost }
