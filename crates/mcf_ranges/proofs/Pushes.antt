-- One unit more along a closed walk of residual arcs: a least flow allows no walk that earns.
use Rattle.std.proofs.Common.{◌≡◌, ◌≢◌, ℕ, suc, ◌-◌, ◌<◌, Bool, true, false, eqb, List, [], ◌∷◌, length, set, get_or, ap, arith, ℤ, pos, ◌+ℤ◌, ◌-ℤ◌, ◌≤ℤ◌, if◌then◌else◌, inl, inr}
use Rattle.std.specs.List.{All, AllPairs}
use Rattle.std.proofs.lemmas.Int.{ints}
use Rattle.std.proofs.Math.IntN.{◌*ℤ◌}
use Rattle.mcf_flows.specs.Flow.{CanCarry, IsFeasible, IsLeast, IsWithinBounds, cost, net}
use Rattle.mcf_flows.specs.Network.{Network, IsArcNumber, when}
use Rattle.mcf_flows.proofs.AllZips.{AllZip-at, AllZip-set, length-AllZip}
use Rattle.mcf_flows.proofs.ArcSums.{flow_sum-set}
use Rattle.mcf_flows.proofs.IntLaws.{mul-add, mul-one, mul-sub}
use Rattle.mcf_network.specs.declared.rid.Rid.{Rid}
use Rattle.mcf_network.specs.Residual.{no_arc, arc_at, head, tail, unit_cost}
use Rattle.mcf_network.specs.TreeSolutions.{at_arc}
use Rattle.mcf_network.specs.Walks.{IsWalk, walk_cost}
use Rattle.mcf_network.proofs.StateLaws.{read_written, rid, when-add, when-sub}
use Rattle.mcf_ranges.specs.Private.Distances.{room_in}

-- one unit more along a residual arc
abbrev pub step : List ℤ → Rid → List ℤ
step x r = set x (r.arc - 1) (if r.back then at_arc x r.arc -ℤ pos 1 else at_arc x r.arc +ℤ pos 1)

-- one unit more along each of these
abbrev pub along : List ℤ → List Rid → List ℤ
along x [] = x
along x (r ∷ rest) = along (step x r) rest

-- a residual arc with room for a unit
pub record IsRoomy (g : Network) (x : List ℤ) (r : Rid) : Type 0 where
  pub arc : IsArcNumber g r.arc
  pub room : pos 1 ≤ℤ room_in g x r

-- each has room for a unit, and none comes twice
pub record CanGo (g : Network) (x : List ℤ) (walk : List Rid) : Type 0 where
  pub roomy : All (IsRoomy g x) walk
  pub distinct : AllPairs (λ r q. r ≢ q) walk

in_range : (g : Network) (x : List ℤ) (k : ℕ) → IsWithinBounds g.arcs x → IsArcNumber g k → k - 1 < length x
in_range g x k bounds h = omega (arith, length-AllZip CanCarry g.arcs x bounds)

-- ---- one residual arc

step_bounds : (g : Network) (x : List ℤ) (k : ℕ) (b : Bool) → IsWithinBounds g.arcs x → IsRoomy g x (rid k b) → IsWithinBounds g.arcs (step x (rid k b))
step_bounds g x k true bounds roomy =
    let arc = roomy.arc in
    let here = AllZip-at CanCarry g.arcs x (k - 1) no_arc (pos 0) bounds (omega arith) in
    let room = roomy.room in
    AllZip-set CanCarry g.arcs x (k - 1) no_arc _ (omega arith) bounds (omega (arith, ints, here, room), omega (arith, ints, here, room))
step_bounds g x k false bounds roomy =
    let arc = roomy.arc in
    let here = AllZip-at CanCarry g.arcs x (k - 1) no_arc (pos 0) bounds (omega arith) in
    let room = roomy.room in
    AllZip-set CanCarry g.arcs x (k - 1) no_arc _ (omega arith) bounds (omega (arith, ints, here, room), omega (arith, ints, here, room))

step_net : (g : Network) (x : List ℤ) (k : ℕ) (b : Bool) (v : ℕ) → IsWithinBounds g.arcs x → IsArcNumber g k
    → net g.arcs (step x (rid k b)) v ≡ net g.arcs x v +ℤ when (eqb (tail g (rid k b)) v) (pos 1) -ℤ when (eqb (head g (rid k b)) v) (pos 1)
step_net g x k true v bounds h =
    let there = in_range g x k bounds h in
    let out = flow_sum-set (λ a f. when (eqb a.src v) f) g.arcs x (k - 1) (at_arc x k -ℤ pos 1) no_arc (pos 0) (omega arith) there in
    let into = flow_sum-set (λ a f. when (eqb a.dst v) f) g.arcs x (k - 1) (at_arc x k -ℤ pos 1) no_arc (pos 0) (omega arith) there in
    omega (arith, ints, out, into, when-sub (eqb (arc_at g k).src v) (at_arc x k) (pos 1), when-sub (eqb (arc_at g k).dst v) (at_arc x k) (pos 1))
step_net g x k false v bounds h =
    let there = in_range g x k bounds h in
    let out = flow_sum-set (λ a f. when (eqb a.src v) f) g.arcs x (k - 1) (at_arc x k +ℤ pos 1) no_arc (pos 0) (omega arith) there in
    let into = flow_sum-set (λ a f. when (eqb a.dst v) f) g.arcs x (k - 1) (at_arc x k +ℤ pos 1) no_arc (pos 0) (omega arith) there in
    omega (arith, ints, out, into, when-add (eqb (arc_at g k).src v) (at_arc x k) (pos 1), when-add (eqb (arc_at g k).dst v) (at_arc x k) (pos 1))

step_cost : (g : Network) (x : List ℤ) (k : ℕ) (b : Bool) → IsWithinBounds g.arcs x → IsArcNumber g k
    → cost g.arcs (step x (rid k b)) ≡ cost g.arcs x +ℤ unit_cost g (rid k b)
step_cost g x k true bounds h =
    let c = (arc_at g k).cost in
    let e = flow_sum-set (λ a f. a.cost *ℤ f) g.arcs x (k - 1) (at_arc x k -ℤ pos 1) no_arc (pos 0) (omega arith) (in_range g x k bounds h) in
    omega (arith, ints, e, mul-sub c (at_arc x k) (pos 1), mul-one c)
step_cost g x k false bounds h =
    let c = (arc_at g k).cost in
    let e = flow_sum-set (λ a f. a.cost *ℤ f) g.arcs x (k - 1) (at_arc x k +ℤ pos 1) no_arc (pos 0) (omega arith) (in_range g x k bounds h) in
    omega (arith, ints, e, mul-add c (at_arc x k) (pos 1), mul-one c)

-- other residual arcs keep their room
room_kept : (g : Network) (x : List ℤ) (k j : ℕ) (b c : Bool) → IsArcNumber g k → IsArcNumber g j → k - 1 < length x → rid k b ≢ rid j c
    → room_in g x (rid j c) ≤ℤ room_in g (step x (rid k b)) (rid j c)
room_kept g x k j true true hk hj h n =
    elim (read_written x (k - 1) (j - 1) (at_arc x k -ℤ pos 1) (pos 0) h) [
      | inl (e, w) ↦ absurd (n (let same : k ≡ j = omega arith in ap (λ i. rid i true) same))
      | inr (m, w) ↦ omega (arith, ints, w)
    ]
room_kept g x k j false false hk hj h n =
    elim (read_written x (k - 1) (j - 1) (at_arc x k +ℤ pos 1) (pos 0) h) [
      | inl (e, w) ↦ absurd (n (let same : k ≡ j = omega arith in ap (λ i. rid i false) same))
      | inr (m, w) ↦ omega (arith, ints, w)
    ]
room_kept g x k j true false hk hj h n =
    elim (read_written x (k - 1) (j - 1) (at_arc x k -ℤ pos 1) (pos 0) h) [
      | inl (e, w) ↦ (let same = ap (λ i. get_or x i (pos 0)) e in omega (arith, ints, w, same))
      | inr (m, w) ↦ omega (arith, ints, w)
    ]
room_kept g x k j false true hk hj h n =
    elim (read_written x (k - 1) (j - 1) (at_arc x k +ℤ pos 1) (pos 0) h) [
      | inl (e, w) ↦ (let same = ap (λ i. get_or x i (pos 0)) e in omega (arith, ints, w, same))
      | inr (m, w) ↦ omega (arith, ints, w)
    ]

-- ---- all of them

rest_can_go : (g : Network) (x : List ℤ) (r : Rid) (rest : List Rid) → IsWithinBounds g.arcs x → CanGo g x (r ∷ rest) → CanGo g (step x r) rest
rest_can_go g x r rest bounds can =
    record {
      roomy = λ i d h. let here = can.roomy 0 r (omega arith) in let there = can.roomy (suc i) d (omega arith) in record {
        arc = there.arc;
        room = let kept = room_kept g x r.arc (get_or rest i d).arc r.back (get_or rest i d).back here.arc there.arc
            (in_range g x r.arc bounds here.arc) (can.distinct 0 (suc i) d (omega arith) (omega arith)) in let room = there.room in
            omega (arith, ints, kept, room);
      };
      distinct = λ i j d h l. can.distinct (suc i) (suc j) d (omega arith) (omega arith);
    }

along_bounds : (g : Network) (x : List ℤ) (walk : List Rid) → IsWithinBounds g.arcs x → CanGo g x walk → IsWithinBounds g.arcs (along x walk)
along_bounds g x [] bounds can = bounds
along_bounds g x (r ∷ rest) bounds can =
    let here = can.roomy 0 r (omega arith) in
    along_bounds g (step x r) rest (step_bounds g x r.arc r.back bounds here) (rest_can_go g x r rest bounds can)

along_net : (g : Network) (x : List ℤ) (walk : List Rid) (u w v : ℕ) → IsWithinBounds g.arcs x → CanGo g x walk → IsWalk g u walk w
    → net g.arcs (along x walk) v ≡ net g.arcs x v +ℤ when (eqb u v) (pos 1) -ℤ when (eqb w v) (pos 1)
along_net g x [] u w v bounds can walk = let same = ap (λ i. when (eqb i v) (pos 1)) walk in omega (arith, ints, same)
along_net g x (r ∷ rest) u w v bounds can walk =
    let here = can.roomy 0 r (omega arith) in
    let first = step_net g x r.arc r.back v bounds here.arc in
    let more = along_net g (step x r) rest (head g r) w v (step_bounds g x r.arc r.back bounds here) (rest_can_go g x r rest bounds can) walk.1 in
    let same = ap (λ i. when (eqb i v) (pos 1)) walk.0 in
    omega (arith, ints, first, more, same)

along_cost : (g : Network) (x : List ℤ) (walk : List Rid) → IsWithinBounds g.arcs x → CanGo g x walk
    → cost g.arcs (along x walk) ≡ cost g.arcs x +ℤ walk_cost g walk
along_cost g x [] bounds can = omega (arith, ints)
along_cost g x (r ∷ rest) bounds can =
    let here = can.roomy 0 r (omega arith) in
    let first = step_cost g x r.arc r.back bounds here.arc in
    let more = along_cost g (step x r) rest (step_bounds g x r.arc r.back bounds here) (rest_can_go g x r rest bounds can) in
    omega (arith, ints, first, more)

-- a closed walk with room costs 0 at least, where the flow is least
pub no_walk_earns : (g : Network) (x : List ℤ) (walk : List Rid) (u : ℕ) → IsLeast g x → CanGo g x walk → IsWalk g u walk u → pos 0 ≤ℤ walk_cost g walk
no_walk_earns g x walk u least can closed =
    let bounds = least.feasible.within_bounds in
    let other : IsFeasible g (along x walk) = record {
      within_bounds = along_bounds g x walk bounds can;
      meets_supplies = λ v h.
          let moved = along_net g x walk u u v bounds can closed in
          let meets = least.feasible.meets_supplies v h in
          omega (arith, ints, moved, meets);
    } in
    let le = least.least (along x walk) other in
    omega (arith, ints, le, along_cost g x walk bounds can)
