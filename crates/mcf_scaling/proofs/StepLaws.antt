-- What a step keeps.
use Rattle.std.proofs.Common.{◌≡◌, ◌≢◌, ℕ, ◌+◌, ◌-◌, eqb, Bool, true, false, not, List, length, set, get_or, sym, ap, ◌∙◌, arith, subst, ℤ, pos, neg_ℤ, ◌+ℤ◌}
use Rattle.std.proofs.Common.{◌-ℤ◌, ◌≤ℤ◌, ◌⊎◌, inl, inr}
use Rattle.std.specs.Prelude.{◌<ℤ◌}
use Rattle.std.proofs.lemmas.Int.{by_lt_z, ints}
use Rattle.std.proofs.lemmas.Bool.{cases_eq, eq-eqb, ne_eqb}
use Rattle.mcf_flows.specs.Flow.{net}
use Rattle.mcf_flows.specs.Network.{Network, IsArcNumber, IsNode, at_node, node_count, node_sum, when}
use Rattle.mcf_flows.proofs.IntLaws.{neg-mul}
use Rattle.mcf_flows.proofs.NodeSums.{nets_cancel, node_sum-same, node_sum-sub, node_sum_above_zero, node_sum-zero}
use Rattle.mcf_network.specs.declared.rid.Rid.{Rid}
use Rattle.mcf_network.specs.Residual.{arc_at, head, tail}
use Rattle.mcf_network.specs.States.{Pseudoflow, IsPseudoflow, HasNoSurplus, amount_at, pushed, room_of, surplus_at}
use Rattle.mcf_network.specs.Walks.{HasRoom}
use Rattle.mcf_network.proofs.ArcLaws.{amount_of, head_is_node, tail_is_node}
use Rattle.mcf_network.proofs.StateLaws.{pushed_surplus, read_written, rid}
use Rattle.mcf_engine.proofs.Showing.{no_loop}
use Rattle.mcf_scaling.specs.Optimality.{IsFilled, IsOptimalWithin, scaled_reduced}

-- ---- a push

-- the other direction of a residual arc has the opposite reduced cost
pub opposite_reduced : (g : Network) (prices : List ℤ) (k : ℕ) (b : Bool) → scaled_reduced g prices (rid k (not b)) ≡ neg_ℤ (scaled_reduced g prices (rid k b))
opposite_reduced g prices k true =
    let c = neg-mul (arc_at g k).cost (pos (node_count g + 1)) in omega (arith, ints, c)
opposite_reduced g prices k false =
    let c = neg-mul (arc_at g k).cost (pos (node_count g + 1)) in omega (arith, ints, c)

-- a residual arc that has room after a push had some before, or is the other direction
pub room_before : (s : Pseudoflow) (k j : ℕ) (b c : Bool) (x : ℤ) → IsPseudoflow s → IsArcNumber s.net k → IsArcNumber s.net j → pos 0 ≤ℤ x
    → pos 0 <ℤ room_of (pushed s (rid k b) x) (rid j c) → (pos 0 <ℤ room_of s (rid j c)) ⊎ (rid j c ≡ rid k (not b))
room_before s k j true true x ok hk hj low room =
    elim (read_written s.amounts (k - 1) (j - 1) (amount_at s k -ℤ x) (pos 0) (amount_of s k ok hk).in_range) [
      | inl (e, w) ↦ (let same = ap (λ i. get_or s.amounts i (pos 0)) e in inl (omega (arith, ints, w, room, low, same)))
      | inr (m, w) ↦ inl (omega (arith, ints, w, room))
    ]
room_before s k j false false x ok hk hj low room =
    elim (read_written s.amounts (k - 1) (j - 1) (amount_at s k +ℤ x) (pos 0) (amount_of s k ok hk).in_range) [
      | inl (e, w) ↦ (let here : j ≡ k = omega arith in let same = ap (λ i. get_or s.amounts i (pos 0)) e in
          let arc = ap (λ i. (arc_at s.net i).cap) here in inl (omega (arith, ints, w, room, low, same, arc)))
      | inr (m, w) ↦ inl (omega (arith, ints, w, room))
    ]
room_before s k j true false x ok hk hj low room =
    elim (read_written s.amounts (k - 1) (j - 1) (amount_at s k -ℤ x) (pos 0) (amount_of s k ok hk).in_range) [
      | inl (e, w) ↦ (let here : j ≡ k = omega arith in inr (ap (λ i. rid i false) here))
      | inr (m, w) ↦ inl (omega (arith, ints, w, room))
    ]
room_before s k j false true x ok hk hj low room =
    elim (read_written s.amounts (k - 1) (j - 1) (amount_at s k +ℤ x) (pos 0) (amount_of s k ok hk).in_range) [
      | inl (e, w) ↦ (let here : j ≡ k = omega arith in inr (ap (λ i. rid i true) here))
      | inr (m, w) ↦ inl (omega (arith, ints, w, room))
    ]

pub pushed_optimal : (s : Pseudoflow) (prices : List ℤ) (e k : ℕ) (b : Bool) (x : ℤ) → IsPseudoflow s → IsArcNumber s.net k → pos 0 ≤ℤ x
    → scaled_reduced s.net prices (rid k b) <ℤ pos 0 → IsOptimalWithin e s prices → IsOptimalWithin e (pushed s (rid k b) x) prices
pushed_optimal s prices e k b x ok h low negative tight q room =
    elim (room_before s k q.arc b q.back x ok h room.arc low room.room) [
      | inl some ↦ tight q (record { arc = room.arc; room = some })
      | inr same ↦ (let cost = ap (scaled_reduced s.net prices) same ∙ opposite_reduced s.net prices k b in omega (arith, ints, cost, negative))
    ]

-- a push of at most the surplus makes no node take
pub pushed_taker : (s : Pseudoflow) (k : ℕ) (b : Bool) (x : ℤ) (u : ℕ) → IsPseudoflow s → IsArcNumber s.net k → pos 0 ≤ℤ x
    → x ≤ℤ surplus_at s (tail s.net (rid k b)) → surplus_at (pushed s (rid k b) x) u <ℤ pos 0 → surplus_at s u <ℤ pos 0
pushed_taker s k b x u ok h low high less =
    let moved = pushed_surplus s k b x ok h u in
    elim (cases_eq (tail s.net (rid k b)) u) [
      | inl e ↦ (let here = ap (λ t. when t x) (eq-eqb (tail s.net (rid k b)) u e) in let there = gain (eqb (head s.net (rid k b)) u) in
          let same = ap (surplus_at s) e in absurd (omega (arith, ints, moved, here, there, less, high, same)))
      | inr n ↦ (let here = ap (λ t. when t x) (ne_eqb (tail s.net (rid k b)) u n) in let there = gain (eqb (head s.net (rid k b)) u) in omega
          (arith, ints, moved, here, there, less))
    ]
  where
    gain : (t : Bool) → pos 0 ≤ℤ when t x
    gain true = low
    gain false = omega (arith, ints)

-- ---- a relabel

-- the price of a node after that of v was raised
pub raised_at : (prices : List ℤ) (v u : ℕ) (rise : ℤ) → IsNode (length prices) v → IsNode (length prices) u
    → ((u ≡ v) × (at_node (set prices (v - 1) (at_node prices v +ℤ rise)) u ≡ at_node prices v +ℤ rise)) ⊎
    ((u ≢ v) × (at_node (set prices (v - 1) (at_node prices v +ℤ rise)) u ≡ at_node prices u))
raised_at prices v u rise h q =
    elim (read_written prices (v - 1) (u - 1) (at_node prices v +ℤ rise) (pos 0) (omega arith)) [
      | inl (e, w) ↦ inl (omega arith, w)
      | inr (n, w) ↦ inr ((λ e. n (ap (λ i. i - 1) e)), w)
    ]

pub raised_optimal : (s : Pseudoflow) (prices : List ℤ) (e v : ℕ) (rise : ℤ) → IsPseudoflow s → length prices ≡ node_count s.net
    → IsNode (node_count s.net) v → pos 0 ≤ℤ rise → ((r : Rid) → HasRoom s r → tail s.net r ≡ v → rise ≤ℤ (scaled_reduced s.net prices r +ℤ pos e))
    → IsOptimalWithin e s prices → IsOptimalWithin e s (set prices (v - 1) (at_node prices v +ℤ rise))
raised_optimal s prices e v rise ok count h low least tight q room =
    let inside : IsNode (length prices) v = (h.0, omega (arith, h, count)) in
    let t = tail_is_node s.net q.arc q.back ok.of_net room.arc in
    let d = head_is_node s.net q.arc q.back ok.of_net room.arc in
    let from : IsNode (length prices) (tail s.net q) = (t.0, omega (arith, t, count)) in
    let to : IsNode (length prices) (head s.net q) = (d.0, omega (arith, d, count)) in
    let before = tight q room in
    elim (raised_at prices v (tail s.net q) rise inside from) [
      | inl (e1, w1) ↦ elim (raised_at prices v (head s.net q) rise inside to) [
        | inl (e2, w2) ↦ absurd (no_loop s q.arc q.back ok room (e1 ∙ sym e2))
        | inr (n2, w2) ↦ (let most = least q room e1 in let same = ap (at_node prices) e1 in omega (arith, ints, w1, w2, most, same))
      ]
      | inr (n1, w1) ↦ elim (raised_at prices v (head s.net q) rise inside to) [
        | inl (e2, w2) ↦ (let same = ap (at_node prices) e2 in omega (arith, ints, w1, w2, before, same, low))
        | inr (n2, w2) ↦ omega (arith, ints, w1, w2, before)
      ]
    ]

-- ---- a phase's beginning

pub filled_optimal : (s s' : Pseudoflow) (prices : List ℤ) (e : ℕ) → IsFilled s s' prices → IsOptimalWithin e s' prices
filled_optimal s s' prices e filled r room =
    let same = ap (λ (g : Network). scaled_reduced g prices r) filled.net in
    let arc : IsArcNumber s.net r.arc = subst (λ (g : Network). IsArcNumber g r.arc) filled.net room.arc in
    by_lt_z (scaled_reduced s.net prices r) (pos 0)
    (λ less. absurd (let none = filled.full r arc less in let some = room.room in omega (arith, ints, none, some)))
    (λ p. omega (arith, ints, p, same))

-- the surpluses of all nodes sum to the supplies
surplus_total : (s : Pseudoflow) → IsPseudoflow s → node_sum (surplus_at s) (node_count s.net) ≡ node_sum (at_node s.net.supplies) (node_count s.net)
surplus_total s ok =
    let apart = node_sum-sub (at_node s.net.supplies) (net s.net.arcs s.amounts) (node_count s.net) in
    let cancel = nets_cancel (node_count s.net) s.net.arcs s.amounts ok.of_net.ends in
    omega (arith, ints, apart, cancel)

-- where some amounts leave no surplus, none is left by amounts that leave no node one above 0
pub rest_has_none : (s : Pseudoflow) (first : List ℤ) → IsPseudoflow s → IsPseudoflow (record s { amounts = first })
    → HasNoSurplus (record s { amounts = first }) → ((v : ℕ) → IsNode (node_count s.net) v → surplus_at s v ≤ℤ pos 0) → HasNoSurplus s
rest_has_none s first ok was none rest v h =
    let n = node_count s.net in
    let now = surplus_total s ok in
    let then = surplus_total (record s { amounts = first }) was in
    let zero = node_sum-same (surplus_at (record s { amounts = first })) (λ u. pos 0) n none ∙ node_sum-zero n in
    by_lt_z (surplus_at s v) (pos 0)
    (λ less. absurd (let turned = node_sum-sub (λ u. pos 0) (surplus_at s) n in
    let some = node_sum_above_zero (λ u. pos 0 -ℤ surplus_at s u) n v h (omega (arith, ints, less))
    (λ u q. let low = rest u q in omega (arith, ints, low)) in omega (arith, ints, now, then, zero, turned, some, node_sum-zero n)))
    (λ p. let low = rest v h in omega (arith, ints, p, low))
