-- The arcs of an instance as they are stored: without bounds while all have low 0 and cap 1, or
-- with them.
use Rattle.std.specs.Prelude.{List, map, pos}
use Rattle.mcf_flows.specs.declared.arc.Link.{Link}
use Rattle.mcf_flows.specs.declared.arc.PackedArc.{PackedArc}
use Rattle.mcf_flows.specs.declared.arc_table.Stored.{Stored}
use Rattle.mcf_flows.specs.declared.arc_table.Stored.TheVariants.{Unit, Shared, Bounded}

-- an arc of low 0 and cap 1 with its bounds
abbrev pub of_unit : Link → PackedArc
of_unit a = record { src = a.src; dst = a.dst; low = pos 0; cap = pos 1; cost = a.cost }

-- each form holds the arcs themselves
abbrev pub arcs_in : Stored → List PackedArc
arcs_in (Unit links) = map of_unit links.items
arcs_in (Shared links) = map of_unit links.value.items
arcs_in (Bounded arcs) = arcs.items
