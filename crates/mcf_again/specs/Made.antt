-- How the engine answered with a state: it mended the hint, of which nothing is said, since a judge
-- checks the result; or `Fast` answered.
-- Source: own
use Rattle.std.specs.Prelude.{◌≡◌, ◌≤◌, Bool, true, false}
use Rattle.mcf_fast.specs.Made.{FastState, IsMadeByFast}
use Rattle.mcf_flows.specs.Network.{Network, node_count}
use Rattle.mcf_network.specs.States.{Pseudoflow}

-- the engine: whether the last state was mended, and the engine that answers otherwise
pub record AgainState : Type 0 where
  pub is_mended : Bool
  pub fast : FastState

-- true: the state was mended, which takes a net with nodes, and `Fast` wasn't called. false: `Fast`
-- made it, or found it
abbrev pub IsMendedOrMade : Bool → FastState → Network → Pseudoflow → FastState → Type 0
IsMendedOrMade true old g s new = (1 ≤ node_count g) × (new ≡ old)
IsMendedOrMade false old g s new = IsMadeByFast old g s new

-- the engine answered with a state, and its model tells how
abbrev pub IsMadeByAgain : AgainState → Network → Pseudoflow → AgainState → Type 0
IsMadeByAgain old g s new = IsMendedOrMade new.is_mended old.fast g s new.fast
