-- The reader's state, and how a line changes it.
use Rattle.std.specs.Prelude.{ℕ, ◌+◌, ◌-◌, Bool, true, false, if◌then◌else◌, List, [], ◌∷◌, ◌++◌, map, length, bytes_eq, codes, nat_lt, option_map, slice_set}
use Rattle.std.specs.Prelude.{slice_index_or, replicate, ℤ, pos, neg_ℤ, Option, Some, None, is_some, Result, Ok, Err}
use Rattle.std.specs.Option.{option_or}
use Rattle.mcf_flows.specs.declared.code.Code.{Code}
use Rattle.mcf_flows.specs.declared.code.Code.TheVariants.{Kind, NoP, Missing}
use Rattle.mcf_flows.specs.declared.problem.Problem.{Problem as Format}
use Rattle.mcf_flows.specs.declared.problem.Problem.TheVariants.{Min, Asn}
use Rattle.mcf_instance.specs.declared.reader.line.Header.{Header}
use Rattle.mcf_instance.specs.declared.reader.line.Item.{Item}
use Rattle.mcf_instance.specs.declared.reader.line.Item.TheVariants.{Problem, Supply, Link}
use Rattle.mcf_flows.specs.Codes.{Fault}
use Rattle.mcf_flows.specs.Limits.{Limits}
use Rattle.mcf_instance.specs.Private.LineReader.{◌>>=◌, problem_line, node_line, arc_line}
use Rattle.mcf_flows.specs.Network.{Network}
use Rattle.mcf_flows.specs.Packed.{unpacked}
use Rattle.mcf_instance.specs.ReadOn.{StateData}
use Rattle.mcf_instance.specs.Reading.{reading_of}
use Rattle.mcf_flows.specs.WellFormed.{weight}
use Rattle.mcf_text.specs.Row.{Row}

-- the state before the first line
abbrev pub empty : StateData
empty = record { header = None; listed = []; supplies = []; arcs = []; total = 0; refusal = None }

-- how many fields of a line are looked at
abbrev pub field_limit : ℕ
field_limit = 7

-- what a line says, or its fault
unfoldable pub item_of : Limits → StateData → List (List ℕ) → Result Item Code
item_of allowed s fields =
    if bytes_eq (slice_index_or fields 0 []) (codes "p") then (problem_line (is_some s.header) fields >>= λ h. Ok (Problem h))
    else (if bytes_eq (slice_index_or fields 0 []) (codes "n") then (node_line allowed s.header (length s.arcs) s.listed fields >>= λ n. Ok (Supply n.0 n.1))
    else (if bytes_eq (slice_index_or fields 0 []) (codes "a") then (arc_line allowed s.header (length s.arcs) s.total s.listed fields >>= λ a. Ok (Link a))
    else Err Kind))

-- the supply of a node without a node line
abbrev pub default_supply : Format → ℤ
default_supply Min = pos 0
default_supply Asn = neg_ℤ (pos 1)

-- a problem line that names nodes and an arc line make the state grow
abbrev pub item_grows : Item → Bool
item_grows (Problem h) = nat_lt 0 h.nodes
item_grows (Supply v z) = false
item_grows (Link a) = true

-- what a line says, or its fault, makes the state grow
abbrev pub outcome_grows : Result Item Code → Bool
outcome_grows (Ok item) = item_grows item
outcome_grows (Err fault) = false

-- the state with what a line says
abbrev pub with_item : StateData → Item → StateData
with_item s (Problem h) = record {
  header = Some h;
  listed = replicate h.nodes false;
  supplies = replicate h.nodes (default_supply h.problem);
  arcs = s.arcs;
  total = s.total;
  refusal = s.refusal;
}
with_item s (Supply v z) = record {
  header = s.header;
  listed = slice_set s.listed (v - 1) true;
  supplies = slice_set s.supplies (v - 1) z;
  arcs = s.arcs;
  total = s.total;
  refusal = s.refusal;
}
with_item s (Link a) = record {
  header = s.header;
  listed = s.listed;
  supplies = s.supplies;
  arcs = s.arcs ++ a ∷ [];
  total = s.total + weight (unpacked a);
  refusal = s.refusal;
}

-- the state with what a line says, or with its fault
abbrev pub with_outcome : StateData → ℕ → Result Item Code → StateData
with_outcome s number (Ok item) = with_item s item
with_outcome s number (Err code) = record {
  header = s.header;
  listed = s.listed;
  supplies = s.supplies;
  arcs = s.arcs;
  total = s.total;
  refusal = Some (record { line = number; code = code });
}

-- after a kept line: a refusal stays
unfoldable pub after_row : Limits → StateData → Row → StateData
after_row allowed s row = if is_some s.refusal then s else with_outcome s row.number (item_of allowed s row.fields)

-- ---- the end

-- the fault at the end
abbrev pub end_fault : Option Header → ℕ → Option Code
end_fault None arcs = Some NoP
end_fault (Some h) arcs = if nat_lt arcs h.arcs then Some Missing else None

-- the refusal after the last line, whose number is one less
abbrev pub refusal_after : StateData → ℕ → Option Fault
refusal_after s line = option_or s.refusal (option_map (λ code. record { line = line; code = code }) (end_fault s.header (length s.arcs)))

-- the problem of a header, `min` without one
abbrev pub problem_or_min : Option Header → Format
problem_or_min None = Min
problem_or_min (Some h) = h.problem

-- the network of a state
abbrev pub network_of : StateData → Network
network_of s = record { problem = problem_or_min s.header; arcs = map unpacked s.arcs; supplies = s.supplies }

-- what the state gives at the end
abbrev pub finished : StateData → ℕ → Result Network Fault
finished s line = reading_of (refusal_after s line) (network_of s)
