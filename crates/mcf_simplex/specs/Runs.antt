-- Runs of the network simplex: the rule is asked at each basis in turn, and the arc that it picks
-- enters.
-- Source: AMO 11.5
use Rattle.std.specs.Prelude.{◌≡◌, ℕ, ◌+◌, ℤ, Bool, true, false, Option, Some, None}
use Rattle.mcf_flows.specs.Network.{Network}
use Rattle.mcf_network.specs.States.{Pseudoflow}
use Rattle.mcf_basis.specs.Bases.{IsBasis}
use Rattle.mcf_basis.specs.Pivots.{IsPivot, PairFalls}
use Rattle.mcf_basis.specs.Ranks.{IsBounded}
use Rattle.mcf_basis.specs.Starts.{IsStart}
use Rattle.mcf_basis.specs.Structures.{TreeStructure, state_of}

-- from the rule r and the basis b so many pivots lead to another rule and another basis: each
-- lowers the pair, and leads to a basis, which is strongly feasible
pub data Reached {R : Type 0} (Picks : R → TreeStructure → Option ℕ → R → Type 0) (r : R) (b : TreeStructure) : R → TreeStructure → ℕ → Type 0 where
  start : Reached Picks r b r b 0
  next : {s t : R} {c d : TreeStructure} {pivots k : ℕ} {moved : ℤ} → Reached Picks r b s c pivots → Picks s c (Some k) t
      → IsPivot c k moved d → PairFalls c d → IsBasis d → Reached Picks r b t d (pivots + 1)

-- A state was made by a run from the rule r to the rule t, of this many pivots: they are within the
-- bound, and lead from the start basis of the net to a basis at which the rule finds no arc, and
-- whose amounts are those of the state.
pub record IsRun {R : Type 0} (Picks : R → TreeStructure → Option ℕ → R → Type 0) (r : R) (g : Network) (s : Pseudoflow) (t : R) (pivots : ℕ) : Type 0 where
  pub first : TreeStructure
  pub starts : IsStart g first
  pub last : TreeStructure
  pub rule : R
  pub reached : Reached Picks r first rule last pivots
  pub bounded : IsBounded first pivots
  pub found_none : Picks rule last None t
  pub basis : IsBasis last
  pub state : s ≡ state_of last

-- a run that is under way: its rule, and its basis
pub record RunState (R : Type 0) : Type 0 where
  pub rule : R
  pub basis : TreeStructure

-- some pivots led to a basis at which the rule found no arc
pub record IsOver {R : Type 0} (Picks : R → TreeStructure → Option ℕ → R → Type 0) (old new : RunState R) : Type 0 where
  pub rule : R
  pub pivots : ℕ
  pub reached : Reached Picks old.rule old.basis rule new.basis pivots
  pub found_none : Picks rule new.basis None new.rule

-- a run went on by so many pivots, or until the rule found no arc
abbrev pub IsAdvanced : {R : Type 0} (Picks : R → TreeStructure → Option ℕ → R → Type 0) → RunState R → ℕ → Bool → RunState R → Type 0
IsAdvanced Picks old pivots true new = IsOver Picks old new
IsAdvanced Picks old pivots false new = Reached Picks old.rule old.basis new.rule new.basis pivots

-- the engine: its rule, and how many pivots its last solve made
pub record RuleState (R : Type 0) : Type 0 where
  pub rule : R
  pub pivots : ℕ

-- the engine made a state by a run, and has counted its pivots
abbrev pub IsMadeByRun : {R : Type 0} (Picks : R → TreeStructure → Option ℕ → R → Type 0) → RuleState R → Network → Pseudoflow → RuleState R → Type 0
IsMadeByRun Picks old g s new = IsRun Picks old.rule g s new.rule new.pivots
