-- What every state of the reader keeps, and what a line must say for it to stay so.
use Rattle.std.specs.Prelude.{◌≡◌, ℕ, ◌+◌, ◌<◌, ◌≤◌, Bool, true, false, if◌then◌else◌, List, [], map, length, sum, ℤ, pos, neg_ℤ, Option, Some, None}
use Rattle.std.specs.List.{All}
use Rattle.mcf_flows.specs.declared.arc.PackedArc.{PackedArc}
use Rattle.mcf_flows.specs.declared.problem.Problem.{Problem as Format}
use Rattle.mcf_flows.specs.declared.problem.Problem.TheVariants.{Min, Asn}
use Rattle.mcf_instance.specs.declared.reader.line.Header.{Header}
use Rattle.mcf_instance.specs.declared.reader.line.Item.{Item}
use Rattle.mcf_instance.specs.declared.reader.line.Item.TheVariants.{Problem, Supply, Link}
use Rattle.mcf_flows.specs.Assignment.{OnAssignment, IsPairing}
use Rattle.mcf_flows.specs.Blocking.{in_table}
use Rattle.mcf_flows.specs.Limits.{Limits, node_limit, arc_limit, total_limit}
use Rattle.mcf_flows.specs.Packed.{unpacked}
use Rattle.mcf_instance.specs.ReadOn.{StateData}
use Rattle.mcf_instance.specs.Private.ReaderState.{problem_or_min}
use Rattle.mcf_flows.specs.WellFormed.{HasEnds, IsArcWithinLimits, IsUpTo, weight}

-- the number of nodes of a header, 0 without one
abbrev pub header_nodes : Option Header → ℕ
header_nodes None = 0
header_nodes (Some h) = h.nodes

-- the number of arcs of a header, 0 without one
abbrev pub header_arcs : Option Header → ℕ
header_arcs None = 0
header_arcs (Some h) = h.arcs

-- the supply of a node of an assignment, by whether it has a node line
abbrev pub side_supply : Bool → ℤ
side_supply b = if b then pos 1 else neg_ℤ (pos 1)

-- what a state keeps of an assignment
pub record IsSoundAssignment (listed : List Bool) (supplies : List ℤ) (arcs : List PackedArc) : Type 0 where
  pub supplies_are : supplies ≡ map side_supply listed
  pub pairings : All (IsPairing supplies) (map unpacked arcs)

-- what every state keeps
pub record IsSound (allowed : Limits) (header : Option Header) (listed : List Bool) (supplies : List ℤ) (arcs : List PackedArc) (total : ℕ) : Type 0 where
  pub nodes_small : header_nodes header ≤ node_limit
  pub arcs_small : header_arcs header ≤ arc_limit
  pub one_flag_a_node : length listed ≡ header_nodes header
  pub one_supply_a_node : length supplies ≡ header_nodes header
  pub arc_room : length arcs ≤ header_arcs header
  pub ends : All (HasEnds (header_nodes header)) (map unpacked arcs)
  pub arcs_within : All (IsArcWithinLimits allowed) (map unpacked arcs)
  pub supplies_within : All (IsUpTo allowed.supply) supplies
  pub total_is : total ≡ sum (map weight (map unpacked arcs))
  pub total_small : total ≤ total_limit
  pub assignment : OnAssignment (problem_or_min header) (IsSoundAssignment listed supplies arcs)

-- ---- what a line may say

-- a header that keeps a state sound
pub record HeaderFits (header : Option Header) (h : Header) : Type 0 where
  pub first : header ≡ None
  pub nodes_small : h.nodes ≤ node_limit
  pub arcs_small : h.arcs ≤ arc_limit

-- a supply that keeps a state sound
pub record SupplyFits (allowed : Limits) (header : Option Header) (arcs : List PackedArc) (v : ℕ) (z : ℤ) : Type 0 where
  pub low : 1 ≤ v
  pub high : v ≤ header_nodes header
  pub before_arcs : arcs ≡ []
  pub small : IsUpTo allowed.supply z
  pub assignment : OnAssignment (problem_or_min header) (z ≡ pos 1)

-- an arc of an assignment from a node with a node line to one without
pub record IsFlaggedPair (listed : List Bool) (a : PackedArc) : Type 0 where
  pub from_flagged : in_table listed a.src ≡ true
  pub to_unflagged : in_table listed a.dst ≡ false
  pub low_is : a.low ≡ pos 0
  pub cap_is : a.cap ≡ pos 1

-- a fact that holds if the problem is the flow problem
abbrev pub OnMin : Format → Type 0 → Type 0
OnMin Min P = P
OnMin Asn P = Unit {0}

-- an arc that keeps a state sound
pub record LinkFits (allowed : Limits) (header : Option Header) (listed : List Bool) (arcs : List PackedArc) (total : ℕ) (a : PackedArc) : Type 0 where
  pub room : length arcs < header_arcs header
  pub ends : HasEnds (header_nodes header) (unpacked a)
  pub is_within : IsArcWithinLimits allowed (unpacked a)
  pub total_small : OnMin (problem_or_min header) (total + weight (unpacked a) ≤ total_limit)
  pub assignment : OnAssignment (problem_or_min header) (IsFlaggedPair listed a)

-- what a line says keeps the state sound
abbrev pub ItemFits : Limits → StateData → Item → Type 0
ItemFits allowed s (Problem h) = HeaderFits s.header h
ItemFits allowed s (Supply v z) = SupplyFits allowed s.header s.arcs v z
ItemFits allowed s (Link a) = LinkFits allowed s.header s.listed s.arcs s.total a
