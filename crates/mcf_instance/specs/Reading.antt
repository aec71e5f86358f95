-- What an instance text stands for.
-- Source: DIMACS
use Rattle.std.specs.Prelude.{ℕ, ◌==◌, if◌then◌else◌, List, map, filter, find, ℤ, pos, neg_ℤ, Option, Some, None, Result, Ok, Err}
use Rattle.std.specs.List.{range_with_len}
use Rattle.std.specs.Option.{option_map_or}
use Rattle.mcf_flows.specs.declared.arc.Arc.{Arc}
use Rattle.mcf_flows.specs.declared.problem.Problem.{Problem}
use Rattle.mcf_flows.specs.declared.problem.Problem.TheVariants.{Min, Asn}
use Rattle.mcf_instance.specs.Fault.{arc_lines, first_fault, header, is_listed, is_n}
use Rattle.mcf_flows.specs.Codes.{Fault}
use Rattle.mcf_flows.specs.Limits.{Limits}
use Rattle.mcf_flows.specs.Network.{Network}
use Rattle.mcf_text.specs.Row.{Row, rows, number, node}

-- the arc of an arc line; one of an assignment carries 0 or 1
abbrev pub arc_of : Problem → Row → Arc
arc_of Min row = record { src = node row 1; dst = node row 2; low = number row 3; cap = number row 4; cost = number row 5 }
arc_of Asn row = record { src = node row 1; dst = node row 2; low = pos 0; cap = pos 1; cost = number row 3 }

-- the supply of a node: that of its node line, or 0; of an assignment 1 with a node line, or -1
abbrev pub supply_of : Problem → List Row → ℕ → ℤ
supply_of Min lines v = option_map_or (λ row. number row 2) (find (λ row. node row 1 == v) (filter is_n lines)) (pos 0)
supply_of Asn lines v = if is_listed lines v then pos 1 else neg_ℤ (pos 1)

-- the instance of some kept lines: sizes from the problem line, arcs from the arc lines in order,
-- and supplies from the node lines
unfoldable pub instance_of_lines : List Row → Network
instance_of_lines lines =
    let h = header lines in
    record {
      problem = h.problem;
      arcs = map (arc_of h.problem) (arc_lines lines);
      supplies = map (supply_of h.problem lines) (range_with_len 1 h.nodes);
    }

-- the first fault, or the instance where there is none
-- Source: own
abbrev pub reading_of : Option Fault → Network → Result Network Fault
reading_of (Some fault) g = Err fault
reading_of None g = Ok g

-- what a text stands for: an instance, or its first fault
-- Source: own
unfoldable pub reading : Limits → List ℕ → Result Network Fault
reading allowed text = reading_of (first_fault allowed text) (instance_of_lines (rows text))
