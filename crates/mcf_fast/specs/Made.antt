-- How the engine answered with a state: a run of the network simplex to its end made it; or the
-- search found it, after such a run was left. A judge checks by prices what the search finds, and
-- nothing is said of how the search found it.
-- Source: own
use Rattle.std.specs.Prelude.{◌≡◌, ℕ, ◌≤◌, ◌⊎◌, Bool, true, false}
use Rattle.mcf_basis.specs.Starts.{IsStart}
use Rattle.mcf_basis.specs.Structures.{TreeStructure}
use Rattle.mcf_flows.specs.Network.{Network, node_count}
use Rattle.mcf_network.specs.States.{Pseudoflow}
use Rattle.mcf_simplex.specs.Following.{FollowingRule, IsFollowingPick, first_following}
use Rattle.mcf_simplex.specs.Runs.{IsRun, Reached}

-- the engine: how often its search may read the net; of its last solve, how many pivots its last
-- run made, and whether the search answered
pub record FastState : Type 0 where
  pub readings : ℕ
  pub pivots : ℕ
  pub is_found : Bool

-- this many pivots, with arcs picked by the rule Following from its first state on, lead from the
-- initial basis of the net to some basis
pub record IsRunUnderWay (g : Network) (pivots : ℕ) : Type 0 where
  pub first : TreeStructure
  pub starts : IsStart g first
  pub rule : FollowingRule
  pub last : TreeStructure
  pub reached : Reached IsFollowingPick first_following first rule last pivots

-- false: a run of this many pivots made the state of the net. true: the search found the state,
-- after a run of this many pivots, at least one, was left; or the net has no nodes, and no run
-- began
abbrev pub IsMadeOrFound : Bool → Network → Pseudoflow → ℕ → Type 0
IsMadeOrFound false g s pivots = (rule : FollowingRule) × IsRun IsFollowingPick first_following g s rule pivots
IsMadeOrFound true g s pivots = ((1 ≤ pivots) × IsRunUnderWay g pivots) ⊎ (node_count g ≡ 0)

-- the engine answered with a state, and its model tells how
abbrev pub IsMadeByFast : FastState → Network → Pseudoflow → FastState → Type 0
IsMadeByFast old g s new = IsMadeOrFound new.is_found g s new.pivots
