-- Pushes along a walk, one residual arc after another.
use Rattle.std.proofs.Common.{◌≡◌, ◌≢◌, ℕ, suc, ◌+◌, ◌-◌, ◌≤◌, ◌<◌, Bool, true, false, eqb, List, [], ◌∷◌, length, drop, get_or, refl, sym, ap, ◌∙◌, arith, ℤ}
use Rattle.std.proofs.Common.{pos, ◌+ℤ◌, ◌-ℤ◌, ◌≤ℤ◌, ◌⊎◌, inl, inr}
use Rattle.std.proofs.Math.IntN.{◌*ℤ◌}
use Rattle.std.specs.List.{Any}
use Rattle.std.proofs.lemmas.Bool.{cases_eq}
use Rattle.std.proofs.lemmas.List.{at_drop_all, get_or_default}
use Rattle.std.specs.Int.{int_min}
use Rattle.std.proofs.lemmas.Int.{by_lt_z, clamps, ints}
use Rattle.mcf_flows.specs.Flow.{cost}
use Rattle.mcf_flows.specs.Network.{IsArcNumber, when}
use Rattle.mcf_flows.proofs.ArcSums.{flow_sum-set}
use Rattle.mcf_flows.proofs.IntLaws.{mul-add, mul-sub, neg-mul, add-mul, zero-mul}
use Rattle.mcf_network.specs.declared.rid.Rid.{Rid}
use Rattle.mcf_network.specs.Residual.{no_arc, arc_at, head, unit_cost}
use Rattle.mcf_network.specs.States.{Pseudoflow, IsPseudoflow, amount_at, pushed, room_of, surplus_at}
use Rattle.mcf_network.specs.Walks.{CanPushAlong, IsWalk, pushed_along, walk_cost}
use Rattle.mcf_network.proofs.ArcLaws.{amount_of}
use Rattle.mcf_network.proofs.StateLaws.{rid, pushed_ok, pushed_surplus, read_written}

-- a push leaves other residual arcs with at least the room that they had
room_kept : (s : Pseudoflow) (k j : ℕ) (b c : Bool) (x : ℤ) → IsArcNumber s.net k → IsArcNumber s.net j → k - 1 < length s.amounts → pos 0 ≤ℤ x
    → rid k b ≢ rid j c → room_of s (rid j c) ≤ℤ room_of (pushed s (rid k b) x) (rid j c)
room_kept s k j true true x hk hj h low n =
    elim (read_written s.amounts (k - 1) (j - 1) (amount_at s k -ℤ x) (pos 0) h) [
      | inl (e, w) ↦ absurd (n (let same : k ≡ j = omega arith in ap (λ i. rid i true) same))
      | inr (m, w) ↦ omega (arith, ints, w)
    ]
room_kept s k j false false x hk hj h low n =
    elim (read_written s.amounts (k - 1) (j - 1) (amount_at s k +ℤ x) (pos 0) h) [
      | inl (e, w) ↦ absurd (n (let same : k ≡ j = omega arith in ap (λ i. rid i false) same))
      | inr (m, w) ↦ omega (arith, ints, w)
    ]
room_kept s k j true false x hk hj h low n =
    elim (read_written s.amounts (k - 1) (j - 1) (amount_at s k -ℤ x) (pos 0) h) [
      | inl (e, w) ↦ (let same = ap (λ i. get_or s.amounts i (pos 0)) e in omega (arith, ints, w, same, low))
      | inr (m, w) ↦ omega (arith, ints, w)
    ]
room_kept s k j false true x hk hj h low n =
    elim (read_written s.amounts (k - 1) (j - 1) (amount_at s k +ℤ x) (pos 0) h) [
      | inl (e, w) ↦ (let same = ap (λ i. get_or s.amounts i (pos 0)) e in omega (arith, ints, w, same, low))
      | inr (m, w) ↦ omega (arith, ints, w)
    ]

-- after the first push the rest can still be pushed
pub rest_can_push : (s : Pseudoflow) (r : Rid) (rest : List Rid) (x : ℤ) → IsPseudoflow s → CanPushAlong s (r ∷ rest) x → CanPushAlong (pushed s r x) rest x
rest_can_push s r rest x ok can =
    record {
      low = can.low;
      room = λ k d h. let here = can.room 0 r (omega arith) in let there = can.room (suc k) d (omega arith) in record {
        arc = there.arc;
        room = let kept = room_kept s r.arc (get_or rest k d).arc r.back (get_or rest k d).back x here.arc there.arc
            (amount_of s r.arc ok here.arc).in_range can.low (can.distinct 0 (suc k) d (omega arith) (omega arith)) in let room = there.room in
            omega (arith, ints, kept, room);
      };
      distinct = λ i j d h l. can.distinct (suc i) (suc j) d (omega arith) (omega arith);
    }

pub first_ok : (s : Pseudoflow) (r : Rid) (rest : List Rid) (x : ℤ) → IsPseudoflow s → CanPushAlong s (r ∷ rest) x → IsPseudoflow (pushed s r x)
first_ok s r rest x ok can =
    let here = can.room 0 r (omega arith) in
    pushed_ok s r.arc r.back x ok here.arc can.low here.room

pub along_ok : (s : Pseudoflow) (walk : List Rid) (x : ℤ) → IsPseudoflow s → CanPushAlong s walk x → IsPseudoflow (pushed_along s walk x)
along_ok s [] x ok can = ok
along_ok s (r ∷ rest) x ok can =
    along_ok (pushed s r x) rest x (first_ok s r rest x ok can) (rest_can_push s r rest x ok can)

-- the net stays
pub along_net : (s : Pseudoflow) (walk : List Rid) (x : ℤ) → (pushed_along s walk x).net ≡ s.net
along_net s [] x = refl
along_net s (r ∷ rest) x = along_net (pushed s r x) rest x

-- the surplus moves from the beginning of a walk to its end
pub moves_along : (s : Pseudoflow) (walk : List Rid) (x : ℤ) (u w : ℕ) → IsPseudoflow s → CanPushAlong s walk x → IsWalk s.net u walk w → (v : ℕ)
    → surplus_at (pushed_along s walk x) v ≡ surplus_at s v -ℤ when (eqb u v) x +ℤ when (eqb w v) x
moves_along s [] x u w ok can walk v =
    let same = ap (λ i. when (eqb i v) x) walk in
    omega (arith, ints, same)
moves_along s (r ∷ rest) x u w ok can walk v =
    let here = can.room 0 r (omega arith) in
    let first = pushed_surplus s r.arc r.back x ok here.arc v in
    let more = moves_along (pushed s r x) rest x (head s.net r) w (first_ok s r rest x ok can) (rest_can_push s r rest x ok can) walk.1 v in
    let same = ap (λ i. when (eqb i v) x) walk.0 in
    omega (arith, ints, first, more, same)

-- a push changes the cost by that of a unit, for each unit
pushed_cost : (s : Pseudoflow) (k : ℕ) (b : Bool) (x : ℤ) → IsPseudoflow s → IsArcNumber s.net k
    → cost s.net.arcs (pushed s (rid k b) x).amounts ≡ cost s.net.arcs s.amounts +ℤ unit_cost s.net (rid k b) *ℤ x
pushed_cost s k true x ok h =
    let c = (arc_at s.net k).cost in
    let e = flow_sum-set (λ a f. a.cost *ℤ f) s.net.arcs s.amounts (k - 1) (amount_at s k -ℤ x) no_arc (pos 0) (omega arith) (amount_of s k ok h).in_range in
    omega (arith, ints, e, mul-sub c (amount_at s k) x, neg-mul c x)
pushed_cost s k false x ok h =
    let c = (arc_at s.net k).cost in
    let e = flow_sum-set (λ a f. a.cost *ℤ f) s.net.arcs s.amounts (k - 1) (amount_at s k +ℤ x) no_arc (pos 0) (omega arith) (amount_of s k ok h).in_range in
    omega (arith, ints, e, mul-add c (amount_at s k) x)

-- pushes along a walk change the cost by that of a unit along the walk, for each unit
pub cost_along : (s : Pseudoflow) (walk : List Rid) (x : ℤ) → IsPseudoflow s → CanPushAlong s walk x
    → cost s.net.arcs (pushed_along s walk x).amounts ≡ cost s.net.arcs s.amounts +ℤ walk_cost s.net walk *ℤ x
cost_along s [] x ok can = omega (arith, ints, zero-mul x)
cost_along s (r ∷ rest) x ok can =
    let here = can.room 0 r (omega arith) in
    let first = pushed_cost s r.arc r.back x ok here.arc in
    let more = cost_along (pushed s r x) rest x (first_ok s r rest x ok can) (rest_can_push s r rest x ok can) in
    omega (arith, ints, first, more, add-mul (unit_cost s.net r) (walk_cost s.net rest) x)

-- the state once the list is through
pub along_done : (s t : Pseudoflow) (walk : List Rid) (i : ℕ) (x y : ℤ) → y ≡ x → length walk ≤ i → pushed_along s (drop i walk) y ≡ pushed_along t walk y
    → s ≡ pushed_along t walk x
along_done s t walk i x y same all rest =
    sym (at_drop_all (λ (list : List Rid). pushed_along s list y) walk i all) ∙ rest ∙ ap (pushed_along t walk) same

-- ---- the least room

-- no room among the first i is below the least, which is the room of one
pub record IsLeastRoom (s : Pseudoflow) (walk : List Rid) (i : ℕ) (least : ℤ) : Type 0 where
  pub each : (k : ℕ) (d : Rid) → k < i → least ≤ℤ room_of s (get_or walk k d)
  pub reached : Any (λ r. least ≡ room_of s r) walk

pub least_room_start : (s : Pseudoflow) (walk : List Rid) (r : Rid) (least : ℤ) → 0 < length walk → r ≡ get_or walk 0 r → least ≡ room_of s r
    → IsLeastRoom s walk 0 least
least_room_start s walk r least h e is =
    record { each = λ k d l. absurd (omega arith); reached = (0, r, h, sym e, is) }

pub least_room_next : (s : Pseudoflow) (walk : List Rid) (i : ℕ) (r : Rid) (least room next : ℤ) → IsLeastRoom s walk i least → i < length walk
    → r ≡ get_or walk i r → room ≡ room_of s r → next ≡ int_min least room → IsLeastRoom s walk (i + 1) next
least_room_next s walk i r least room next old h e is lesser =
    let first : next ≤ℤ least = omega (arith, ints, clamps, lesser) in
    let second : next ≤ℤ room = omega (arith, ints, clamps, lesser) in
    let either : (next ≡ least) ⊎ (next ≡ room) = by_lt_z least room (λ p. inl (omega (arith, ints, clamps, lesser, p)))
    (λ p. inr (omega (arith, ints, clamps, lesser, p))) in
    record {
      each = λ k d l. elim (cases_eq k i) [
        | inl same ↦ (let at = ap (λ j. room_of s (get_or walk j d)) same in let other = ap (room_of s) (get_or_default walk i d r h) in
            let here = ap (room_of s) e in omega (arith, ints, second, is, at, other, here))
        | inr n ↦ (let before = old.each k d (omega arith) in omega (arith, ints, before, first))
      ];
      reached = elim either [
        | inl f ↦ (let (j, q, l, at, is_q) = old.reached in (j, q, l, at, f ∙ is_q))
        | inr f ↦ (i, r, h, sym e, f ∙ is)
      ];
    }
