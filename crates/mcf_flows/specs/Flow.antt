-- Flows, their costs, and prices (Ahuja, Magnanti and Orlin, Network Flows, chapters 1 and 9).
-- Source: AMO 1.2
use Rattle.std.specs.Prelude.{◌≡◌, ℕ, ◌==◌, List, length, ℤ, pos, ◌-ℤ◌, ◌+ℤ◌, ◌*ℤ◌, ◌≤ℤ◌, ◌<ℤ◌}
use Rattle.std.specs.List.{AllZip, All}
use Rattle.mcf_flows.specs.declared.arc.Arc.{Arc}
use Rattle.mcf_flows.specs.Network.{Network, IsNode, at_node, flow_sum, node_count, when}

-- ---- flows: a list of whole numbers, one for each arc

-- what leaves a node
abbrev pub outflow : List Arc → List ℤ → ℕ → ℤ
outflow arcs flow v = flow_sum (λ a f. when (a.src == v) f) arcs flow

-- what enters a node
abbrev pub inflow : List Arc → List ℤ → ℕ → ℤ
inflow arcs flow v = flow_sum (λ a f. when (a.dst == v) f) arcs flow

-- what leaves node v less what enters it
abbrev pub net : List Arc → List ℤ → ℕ → ℤ
net arcs flow v = outflow arcs flow v -ℤ inflow arcs flow v

-- a list of the nets of so many nodes, in their order
-- Source: own
pub record AreNets (nodes : ℕ) (arcs : List Arc) (flow nets : List ℤ) : Type 0 where
  pub one_per_node : length nets ≡ nodes
  pub each : (v : ℕ) → IsNode nodes v → at_node nets v ≡ net arcs flow v

-- the sum of cost times flow
abbrev pub cost : List Arc → List ℤ → ℤ
cost arcs flow = flow_sum (λ a f. a.cost *ℤ f) arcs flow

-- the arc may carry this much
abbrev pub CanCarry : Arc → ℤ → Type 0
CanCarry a f = (a.low ≤ℤ f) × (f ≤ℤ a.cap)

-- one flow for each arc, within its bounds
abbrev pub IsWithinBounds : List Arc → List ℤ → Type 0
IsWithinBounds arcs flow = AllZip CanCarry arcs flow

-- each arc carries what it may, and each node sends its supply
pub record IsFeasible (g : Network) (flow : List ℤ) : Type 0 where
  pub within_bounds : IsWithinBounds g.arcs flow
  pub meets_supplies : (v : ℕ) → IsNode (node_count g) v → net g.arcs flow v ≡ at_node g.supplies v

-- no feasible flow costs less
pub record IsLeast (g : Network) (flow : List ℤ) : Type 0 where
  pub feasible : IsFeasible g flow
  pub least : (other : List ℤ) → IsFeasible g other → cost g.arcs flow ≤ℤ cost g.arcs other

-- ---- prices: a list of whole numbers, one for each node

-- the cost of an arc less the price of its first end plus that of its second
-- Source: AMO 2.4
abbrev pub reduced_cost : List ℤ → Arc → ℤ
reduced_cost prices a = a.cost -ℤ at_node prices a.src +ℤ at_node prices a.dst

-- an arc of positive reduced cost carries its low, one of negative reduced cost its cap
-- Source: AMO 9.3
abbrev pub IsComplementary : List ℤ → Arc → ℤ → Type 0
IsComplementary prices a f = (pos 0 <ℤ reduced_cost prices a → f ≡ a.low) × (reduced_cost prices a <ℤ pos 0 → f ≡ a.cap)

-- complementary slackness: the prices show the flow
-- Source: AMO 9.3
abbrev pub Shows : List Arc → List ℤ → List ℤ → Type 0
Shows arcs prices flow = AllZip (IsComplementary prices) arcs flow

-- no price is above 0
-- Source: own
abbrev pub AreNotAboveZero : List ℤ → Type 0
AreNotAboveZero prices = All (λ y. y ≤ℤ pos 0) prices

-- prices not above 0 that show the flow, one for each node
-- Source: own
pub record AreLowPrices (g : Network) (prices flow : List ℤ) : Type 0 where
  pub one_per_node : length prices ≡ node_count g
  pub not_above_zero : AreNotAboveZero prices
  pub show_flow : Shows g.arcs prices flow

-- prices not above 0 that show the flow; no others are greater at any node
-- Source: own
pub record AreGreatestPrices (g : Network) (prices flow : List ℤ) : Type 0 where
  pub low : AreLowPrices g prices flow
  pub greatest : (other : List ℤ) → AreLowPrices g other flow → (v : ℕ) → IsNode (node_count g) v → at_node other v ≤ℤ at_node prices v
