-- What pushes of surplus from node to node keep.
use Rattle.std.specs.Prelude.{◌≡◌, ℕ, ◌≤◌, ℤ, pos, negsuc}
use Rattle.mcf_flows.specs.Network.{node_count, node_sum}
use Rattle.mcf_network.specs.States.{Pseudoflow, IsPseudoflow, surplus_at}

-- x where it is above 0, and else 0
abbrev pub above_zero : ℤ → ℕ
above_zero (pos n) = n
above_zero (negsuc n) = 0

-- what all nodes with a surplus have left to send
unfoldable pub excess : Pseudoflow → ℕ
excess s = above_zero (node_sum (λ v. pos (above_zero (surplus_at s v))) (node_count s.net))

-- a state of the same net, in which no more is left to send
pub record IsPushedOn (s s' : Pseudoflow) : Type 0 where
  pub net : s'.net ≡ s.net
  pub flow : IsPseudoflow s'
  pub no_more : excess s' ≤ excess s
