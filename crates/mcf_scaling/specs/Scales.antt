-- The scale of the first phase.
-- Source: AMO 10.3, constant own
use Rattle.std.specs.Prelude.{◌≡◌, ℕ, ◌+◌, ◌*◌, ◌^◌, ◌≤◌, pos, replicate}
use Rattle.mcf_flows.specs.Network.{Network, node_count}
use Rattle.mcf_network.specs.Nets.{greatest_cost}
use Rattle.mcf_network.specs.States.{Pseudoflow}
use Rattle.mcf_scaling.specs.Refinements.{Refinement, no_steps}

-- the least number whose power of 2 is at least so much
pub record IsLeastScale (need scale : ℕ) : Type 0 where
  pub enough : need ≤ 2 ^ scale
  pub least : (k : ℕ) → need ≤ 2 ^ k → scale ≤ k

-- how many phases a net takes
abbrev pub ArePhases : Network → ℕ → Type 0
ArePhases g k = IsLeastScale ((node_count g + 1) * greatest_cost g.arcs) k

-- prices 0, the greatest e of a net, and no step yet
-- Source: AMO 10.3
pub record IsStart (s : Pseudoflow) (a : Refinement) : Type 0 where
  pub flow : a.flow ≡ s
  pub prices : a.prices ≡ replicate (node_count s.net) (pos 0)
  pub before : a.before ≡ replicate (node_count s.net) (pos 0)
  pub scale : ArePhases s.net a.scale
  pub steps : a.steps ≡ no_steps
