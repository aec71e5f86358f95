-- Instances made of arrays: which networks, and what is wrong with them.
-- Source: own
use Rattle.std.specs.Prelude.{ℕ, ◌+◌, nat_le, Bool, false, not, ◌&&◌, if◌then◌else◌, List, [], ◌∷◌, ◌++◌, map, length, filter_map, find, replicate, slice_get, sum}
use Rattle.std.specs.Prelude.{ℤ, pos, neg_ℤ, int_lt, Option, Some, None, option_map, Result, Ok, Err}
use Rattle.std.specs.Option.{option_or}
use Rattle.std.specs.Ordering.{int_eq}
use Rattle.mcf_flows.specs.declared.arc.Arc.{Arc}
use Rattle.mcf_instance.specs.declared.arrays.ArrayFault.{ArrayFault}
use Rattle.mcf_instance.specs.declared.arrays.ArrayFault.TheVariants.{Size, Supply as FaultySupply, Arc as FaultyArc}
use Rattle.mcf_instance.specs.declared.arrays.RawArc.{RawArc}
use Rattle.mcf_instance.specs.declared.arrays.RawPair.{RawPair}
use Rattle.mcf_flows.specs.declared.code.Code.{Code}
use Rattle.mcf_flows.specs.declared.code.Code.TheVariants.{Node, Bound, Order, Cost, Side, Total}
use Rattle.mcf_flows.specs.declared.problem.Problem.TheVariants.{Min, Asn}
use Rattle.mcf_instance.specs.Fault.{is_min, is_up_to, passes}
use Rattle.mcf_flows.specs.Limits.{Limits, node_limit, arc_limit}
use Rattle.mcf_flows.specs.Network.{Network, at_node, node_count}
use Rattle.mcf_flows.specs.WellFormed.{weight}
use Rattle.mcf_text.specs.Row.{with_earlier}
use Rattle.mcf_text.specs.Whole.{is_within}

-- ---- the networks

-- the arc of plain numbers
abbrev pub arc_of_numbers : RawArc → Arc
arc_of_numbers a = record { src = a.src; dst = a.dst; low = a.low; cap = a.cap; cost = a.cost }

-- the flow problem of these supplies and arcs
abbrev pub flow_problem : List ℤ → List RawArc → Network
flow_problem supplies arcs = record { problem = Min; arcs = map arc_of_numbers arcs; supplies = supplies }

-- the arc of a pair: the columns are the nodes after the rows
abbrev pub arc_of_pair : ℕ → RawPair → Arc
arc_of_pair rows p = record { src = p.row; dst = rows + p.column; low = pos 0; cap = pos 1; cost = p.cost }

-- the assignment problem of this many rows and columns, and of these pairs
abbrev pub assignment_problem : ℕ → ℕ → List RawPair → Network
assignment_problem rows columns pairs =
    record { problem = Asn; arcs = map (arc_of_pair rows) pairs; supplies = replicate rows (pos 1) ++ replicate columns (neg_ℤ (pos 1)) }

-- ---- the faults

-- the first thing that a test of each entry, with those before it, finds
abbrev pub first_found : {X Y : Type 0} → (List X → X → Option Y) → List X → Option Y
first_found test entries = slice_get (filter_map (λ entry. test entry.0 entry.1) (with_earlier entries)) 0

-- there may be this many nodes and arcs
abbrev pub sizes_fit : Network → Bool
sizes_fit g = nat_le (node_count g) node_limit && nat_le (length g.arcs) arc_limit

-- what is wrong with a supply, after these
abbrev pub supply_fault : Limits → List ℤ → ℤ → Option ArrayFault
supply_fault allowed earlier supply = if is_up_to allowed.supply supply then None else Some (FaultySupply (length earlier + 1))

-- v is the number of a node
abbrev pub names_node : Network → ℕ → Bool
names_node g v = is_within (pos 1) (pos (node_count g)) (pos v)

-- the arc goes from a row to a column
abbrev pub is_row_to_column : Network → Arc → Bool
is_row_to_column g a = int_eq (at_node g.supplies a.src) (pos 1) && int_eq (at_node g.supplies a.dst) (neg_ℤ (pos 1))

-- whether a fault applies to an arc of a network, after these: an end that is no node, a bound out
-- of range, bounds in the wrong order, a cost out of range, an arc of an assignment on a wrong
-- side, a total above its limit
abbrev pub applies_to_arc : Limits → Network → List Arc → Arc → Code → Bool
applies_to_arc allowed g earlier a Node = not (names_node g a.src && names_node g a.dst)
applies_to_arc allowed g earlier a Bound = not (is_up_to allowed.bound a.low && is_up_to allowed.bound a.cap)
applies_to_arc allowed g earlier a Order = int_lt a.cap a.low
applies_to_arc allowed g earlier a Cost = not (is_up_to allowed.cost a.cost)
applies_to_arc allowed g earlier a Side = not (is_min g.problem) && not (is_row_to_column g a)
applies_to_arc allowed g earlier a Total = is_min g.problem && passes allowed.total (sum (map weight (earlier ++ a ∷ [])))
applies_to_arc allowed g earlier a other = false

-- the faults of an arc, in the order in which they are looked for
abbrev pub arc_faults : List Code
arc_faults = Node ∷ Bound ∷ Order ∷ Cost ∷ Side ∷ Total ∷ []

-- the first fault of an arc, after these
abbrev pub code_of_arc : Limits → Network → List Arc → Arc → Option Code
code_of_arc allowed g earlier a = find (applies_to_arc allowed g earlier a) arc_faults

-- what is wrong with an arc, after these
abbrev pub arc_fault : Limits → Network → List Arc → Arc → Option ArrayFault
arc_fault allowed g earlier a = option_map (FaultyArc (length earlier + 1)) (code_of_arc allowed g earlier a)

-- the first fault: of the sizes, of a supply, of an arc
unfoldable pub array_fault : Limits → Network → Option ArrayFault
array_fault allowed g =
    if not (sizes_fit g) then Some Size
    else option_or (first_found (supply_fault allowed) g.supplies) (first_found (arc_fault allowed g) g.arcs)

-- the first fault, or the network if there is none
abbrev pub made_unless : Option ArrayFault → Network → Result Network ArrayFault
made_unless (Some fault) g = Err fault
made_unless None g = Ok g

-- what is made of arrays that stand for a network: that, or the first fault
abbrev pub made_of_arrays : Limits → Network → Result Network ArrayFault
made_of_arrays allowed g = made_unless (array_fault allowed g) g
