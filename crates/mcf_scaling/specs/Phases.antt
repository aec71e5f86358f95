-- The steps of a refinement, and runs of them.
-- Source: AMO 10.3, Goldberg and Tarjan
use Rattle.std.specs.Prelude.{◌≡◌, ℕ, suc, ◌-◌, ◌*◌, ◌==◌, ◌≤◌, ℤ, pos, ◌+ℤ◌, ◌-ℤ◌, ◌≤ℤ◌, if◌then◌else◌, slice_set}
use Rattle.std.specs.Int.{int_min}
use Rattle.mcf_flows.specs.Network.{at_node, node_count}
use Rattle.mcf_network.specs.declared.rid.Rid.{Rid}
use Rattle.mcf_network.specs.Residual.{tail}
use Rattle.mcf_network.specs.States.{HasNoSurplus, pushed, room_of, surplus_at}
use Rattle.mcf_network.specs.Walks.{HasRoom}
use Rattle.mcf_scaling.specs.Optimality.{IsAdmissible, IsFilled, IsOptimalWithin}
use Rattle.mcf_scaling.specs.Refinements.{Refinement, IsActive, IsNodeOf, reduced, within}

-- a phase begins: no node is active, and e is above 1
pub record IsBegun (a b : Refinement) : Type 0 where
  pub rest : (v : ℕ) → ¬ IsActive a v
  pub scale : a.scale ≡ suc b.scale
  pub filled : IsFilled a.flow b.flow a.prices
  pub prices : b.prices ≡ a.prices
  pub before : b.before ≡ a.prices
  pub steps : b.steps ≡ record a.steps { phases = suc a.steps.phases }

-- the lesser of the surplus of its tail and its room is pushed along an admissible residual arc
pub record IsPush (a b : Refinement) (r : Rid) : Type 0 where
  pub admissible : IsAdmissible a.flow a.prices r
  pub active : IsActive a (tail a.flow.net r)
  pub pushes : b ≡ record a { flow = pushed a.flow r (int_min (surplus_at a.flow (tail a.flow.net r)) (room_of a.flow r)); steps = record a.steps { pushes = suc a.steps.pushes } }

-- an active node that no admissible residual arc leaves is raised by e and the least reduced cost
-- of the residual arcs with room that leave it
pub record IsRelabel (a b : Refinement) (v : ℕ) (rise : ℤ) : Type 0 where
  pub active : IsActive a v
  pub stuck : (r : Rid) → tail a.flow.net r ≡ v → ¬ IsAdmissible a.flow a.prices r
  pub least : (r : Rid) → HasRoom a.flow r → tail a.flow.net r ≡ v → rise ≤ℤ (reduced a r +ℤ pos (within a))
  pub reached : (r : Rid) × HasRoom a.flow r × (tail a.flow.net r ≡ v) × (rise ≡ reduced a r +ℤ pos (within a))
  pub raises : b ≡ record a { prices = slice_set a.prices (v - 1) (at_node a.prices v +ℤ rise); steps = record a.steps { relabels = suc a.steps.relabels } }

-- counted steps: of so many of them a phase began
-- Source: own
pub data Run (a : Refinement) : Refinement → ℕ → Type 0 where
  start : Run a a 0
  begin : {b c : Refinement} {k : ℕ} → Run a b k → IsBegun b c → Run a c (suc k)
  push : {b c : Refinement} {k : ℕ} {r : Rid} → Run a b k → IsPush b c r → Run a c k
  relabel : {b c : Refinement} {k v : ℕ} {rise : ℤ} → Run a b k → IsRelabel b c v rise → Run a c k

-- how many times a node was relabelled in the phase that was begun last
-- Source: own
abbrev pub relabels : {a b : Refinement} {k : ℕ} → Run a b k → ℕ → ℕ
relabels start u = 0
relabels (begin run step) u = 0
relabels (push run step) u = relabels run u
relabels (relabel {v = v} run step) u = if v == u then suc (relabels run u) else relabels run u

-- e is 1 and no node is active
-- Source: AMO 10.3
pub record IsDone (a : Refinement) : Type 0 where
  pub scale : a.scale ≡ 0
  pub rest : (v : ℕ) → ¬ IsActive a v

-- a phase has ended: no node has a surplus, and the state is e-optimal
-- Source: AMO 10.3
pub record IsSettled (a : Refinement) : Type 0 where
  pub no_surplus : HasNoSurplus a.flow
  pub optimal : IsOptimalWithin (within a) a.flow a.prices

-- each phase of a run had ended so when the next began
-- Source: AMO 10.3
abbrev pub EachPhaseSettles : {a b : Refinement} {k : ℕ} → Run a b k → Type 0
EachPhaseSettles start = Unit {0}
EachPhaseSettles (begin {b = b} run step) = EachPhaseSettles run × IsSettled b
EachPhaseSettles (push run step) = EachPhaseSettles run
EachPhaseSettles (relabel run step) = EachPhaseSettles run

-- what was reached is e-optimal, and in the phase at hand no price has risen by more than 3ne and
-- no node was relabelled more than 3n times
-- Source: AMO 10.3
pub record IsBounded {a b : Refinement} {k : ℕ} (run : Run a b k) : Type 0 where
  pub optimal : IsOptimalWithin (within b) b.flow b.prices
  pub rises : (u : ℕ) → IsNodeOf b u → (at_node b.prices u -ℤ at_node b.before u) ≤ℤ pos (3 * within b * node_count b.flow.net)
  pub few : (u : ℕ) → IsNodeOf b u → relabels run u ≤ 3 * node_count b.flow.net

-- so it was after each step of a run
-- Source: AMO 10.3
abbrev pub IsBoundedThroughout : {a b : Refinement} {k : ℕ} → Run a b k → Type 0
IsBoundedThroughout {a = a} start = IsBounded {a = a} {b = a} {k = 0} start
IsBoundedThroughout (begin run step) = IsBoundedThroughout run × IsBounded (begin run step)
IsBoundedThroughout (push run step) = IsBoundedThroughout run × IsBounded (push run step)
IsBoundedThroughout (relabel run step) = IsBoundedThroughout run × IsBounded (relabel run step)
