-- The reader's state, as arrays are taken into it.
use Rattle.std.specs.Prelude.{◌≡◌, ◌≤◌, Bool, true, List, length, map, ℤ, pos, Option, Some, None, Ok, Err}
use Rattle.std.specs.List.{All}
use Rattle.mcf_flows.specs.declared.arc.Arc.{Arc}
use Rattle.mcf_flows.specs.declared.arc.PackedArc.{PackedArc}
use Rattle.mcf_instance.specs.declared.arrays.ArrayFault.{ArrayFault}
use Rattle.mcf_flows.specs.declared.code.Code.{Code}
use Rattle.mcf_instance.specs.declared.reader.line.ArcNumbers.{ArcNumbers}
use Rattle.mcf_instance.specs.declared.reader.line.Header.{Header}
use Rattle.mcf_instance.specs.declared.reader.line.Item.TheVariants.{Link}
use Rattle.mcf_instance.specs.Arrays.{arc_fault, first_found, sizes_fit, supply_fault}
use Rattle.mcf_flows.specs.Assignment.{OnAssignment}
use Rattle.mcf_flows.specs.Limits.{limits, node_limit, arc_limit}
use Rattle.mcf_flows.specs.Network.{Network, node_count}
use Rattle.mcf_flows.specs.Packed.{unpacked}
use Rattle.mcf_instance.specs.Private.LineReader.{arc_tests}
use Rattle.mcf_instance.specs.Private.ReaderSound.{side_supply}
use Rattle.mcf_instance.specs.Private.ReaderState.{with_item}
use Rattle.mcf_instance.specs.ReadOn.{StateData}
use Rattle.mcf_flows.specs.WellFormed.{IsUpTo}

-- a network's sizes as a problem line says them
abbrev pub sizes : Network → Header
sizes g = record { problem = g.problem; nodes = node_count g; arcs = length g.arcs }

-- the numbers of an arc
abbrev pub numbers_of : Arc → ArcNumbers
numbers_of a = record { src = pos a.src; dst = pos a.dst; low = a.low; cap = a.cap; cost = a.cost }

-- an arc of an assignment carries 0 or 1
abbrev pub CarriesOne : Header → ArcNumbers → Type 0
CarriesOne h a = OnAssignment h.problem ((a.low ≡ pos 0) × (a.cap ≡ pos 1))

-- flags and supplies that fit a problem line
pub record NodesFit (h : Header) (listed : List Bool) (supplies : List ℤ) : Type 0 where
  pub nodes_small : h.nodes ≤ node_limit
  pub arcs_small : h.arcs ≤ arc_limit
  pub one_flag_a_node : length listed ≡ h.nodes
  pub one_supply_a_node : length supplies ≡ h.nodes
  pub within : All (IsUpTo limits.supply) supplies
  pub assignment : OnAssignment h.problem (supplies ≡ map side_supply listed)

-- an arc was taken in, or not for its first fault
abbrev pub Offered : StateData → Header → ArcNumbers → Option Code → StateData → Type 0
Offered old h a None new = (arc : PackedArc) × (arc_tests limits h (length old.arcs) old.total old.listed a ≡ Ok arc) × (new ≡ with_item old (Link arc))
Offered old h a (Some code) new = arc_tests limits h (length old.arcs) old.total old.listed a ≡ Err code

-- the state holds the first arcs of a network, none of which has a fault
pub record HoldsArcs (g : Network) (arcs : List Arc) (s : StateData) : Type 0 where
  pub header : s.header ≡ Some (sizes g)
  pub supplies_are : s.supplies ≡ g.supplies
  pub arcs_are : map unpacked s.arcs ≡ arcs
  pub no_fault : first_found (arc_fault limits g) arcs ≡ None

-- neither the sizes nor a supply of a network are faulty
abbrev pub IsFaultlessBefore : Network → Type 0
IsFaultlessBefore g = (sizes_fit g ≡ true) × (first_found (supply_fault limits) g.supplies ≡ None)

-- all arcs of a network are in the state, or the first fault was found
abbrev pub TookArcs : Network → Option ArrayFault → StateData → Type 0
TookArcs g None s = HoldsArcs g g.arcs s
TookArcs g (Some fault) s = first_found (arc_fault limits g) g.arcs ≡ Some fault
