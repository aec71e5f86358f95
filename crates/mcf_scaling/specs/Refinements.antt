-- What a refinement holds, and what it keeps (Goldberg and Tarjan; Ahuja, Magnanti and Orlin,
-- Network Flows, section 10.3).
-- Source: AMO 10.3
use Rattle.std.specs.Prelude.{◌≡◌, ℕ, ◌*◌, ◌^◌, ◌≤◌, List, length, ℤ, pos, ◌+ℤ◌, ◌-ℤ◌, ◌≤ℤ◌, ◌<ℤ◌}
use Rattle.mcf_flows.specs.Network.{IsNode, at_node, node_count}
use Rattle.mcf_network.specs.declared.rid.Rid.{Rid}
use Rattle.mcf_network.specs.States.{Pseudoflow, IsPseudoflow, HasNoSurplus, surplus_at}
use Rattle.mcf_scaling.specs.Optimality.{IsOptimalWithin, ceiling, scaled_reduced}

-- how many phases were begun, and how many pushes and relabels were made
pub record StepCounts : Type 0 where
  pub phases : ℕ
  pub pushes : ℕ
  pub relabels : ℕ

-- before the first step
abbrev pub no_steps : StepCounts
no_steps = record { phases = 0; pushes = 0; relabels = 0 }

-- a state, the prices of its nodes, those prices at the beginning of the phase, the scale: e is 2
-- to this power, and the steps since the start
pub record Refinement : Type 0 where
  pub flow : Pseudoflow
  pub prices : List ℤ
  pub before : List ℤ
  pub scale : ℕ
  pub steps : StepCounts

-- e, as a number
abbrev pub within : Refinement → ℕ
within a = 2 ^ a.scale

-- the reduced cost of a residual arc
abbrev pub reduced : Refinement → Rid → ℤ
reduced a r = scaled_reduced a.flow.net a.prices r

-- the number of a node
abbrev pub IsNodeOf : Refinement → ℕ → Type 0
IsNodeOf a v = IsNode (node_count a.flow.net) v

-- a node with a surplus
pub record IsActive (a : Refinement) (v : ℕ) : Type 0 where
  pub node : IsNodeOf a v
  pub surplus : pos 0 <ℤ surplus_at a.flow v

-- the greatest scale
-- Source: own
abbrev pub scale_limit : ℕ
scale_limit = 70

-- the phase began at a state without surplus that was 2e-optimal
pub record IsOrigin (a : Refinement) (first : List ℤ) : Type 0 where
  pub flow : IsPseudoflow (record { net = a.flow.net; amounts = first })
  pub no_surplus : HasNoSurplus (record { net = a.flow.net; amounts = first })
  pub optimal : IsOptimalWithin (2 * within a) (record { net = a.flow.net; amounts = first }) a.before

-- the price of a node has risen in the phase by at most 3ne, and not at all where the node takes
-- Source: AMO 10.3, own
pub record IsRisen (a : Refinement) (u : ℕ) : Type 0 where
  pub floor : pos 0 ≤ℤ at_node a.before u
  pub low : at_node a.before u ≤ℤ at_node a.prices u
  pub high : (at_node a.prices u -ℤ at_node a.before u) ≤ℤ pos (3 * within a * node_count a.flow.net)
  pub top : (at_node a.before u +ℤ pos (6 * within a * node_count a.flow.net)) ≤ℤ pos ceiling
  pub taker : surplus_at a.flow u <ℤ pos 0 → at_node a.prices u ≡ at_node a.before u

-- what every refinement keeps
pub record IsRefinement (a : Refinement) : Type 0 where
  pub flow : IsPseudoflow a.flow
  pub count : length a.prices ≡ node_count a.flow.net
  pub before_count : length a.before ≡ node_count a.flow.net
  pub small : a.scale ≤ scale_limit
  pub optimal : IsOptimalWithin (within a) a.flow a.prices
  pub origin : (first : List ℤ) × IsOrigin a first
  pub risen : (u : ℕ) → IsNodeOf a u → IsRisen a u
