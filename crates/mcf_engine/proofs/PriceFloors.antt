-- The greatest prices of a state are small: where no price lies between two marks that are a cost
-- apart, all below could be raised.
use Rattle.std.proofs.Common.{◌≡◌, ℕ, zero, suc, ◌≤◌, ◌+◌, ◌-◌, ◌*◌, ◌^◌, List, [], ◌∷◌, length, get_or, map, cond, true, false, ℤ, pos, neg_ℤ, ◌+ℤ◌, ◌≤ℤ◌}
use Rattle.std.proofs.Common.{◌<ℤ◌, refl, subst, ◌∙◌, arith, ◌⊎◌, inl, inr, Bool}
use Rattle.std.specs.Prelude.{int_lt}
use Rattle.std.specs.List.{All}
use Rattle.std.proofs.lemmas.Bool.{cases_lt}
use Rattle.std.proofs.lemmas.Int.{ints, by_lt_z}
use Rattle.std.proofs.lemmas.List.{get_or-map, get_or_default, length-map}
use Rattle.std.proofs.lemmas.List.Elements.{All-map}
use Rattle.mcf_flows.specs.Flow.{AreGreatestPrices, AreLowPrices}
use Rattle.mcf_flows.specs.Network.{Network, IsArcNumber, IsNode, at_node, node_count}
use Rattle.mcf_flows.specs.WellFormed.{IsUpTo}
use Rattle.mcf_network.specs.declared.rid.Rid.{Rid}
use Rattle.mcf_network.specs.Nets.{IsNet}
use Rattle.mcf_network.specs.Residual.{no_arc, head, tail, unit_cost}
use Rattle.mcf_network.specs.States.{Pseudoflow, IsPseudoflow}
use Rattle.mcf_network.specs.Walks.{HasRoom}
use Rattle.mcf_network.proofs.ArcLaws.{head_is_node, tail_is_node}
use Rattle.mcf_network.proofs.StateLaws.{rid}
use Rattle.mcf_engine.specs.Respecting.{AreAtLeast, Respects}
use Rattle.mcf_engine.specs.SmallPrices.{AreCostsUpTo, AreSmallPrices, price_limit}
use Rattle.mcf_engine.proofs.Showing.{respects_from_shows, shows_from_respects}

-- ---- how many prices are not below a mark

below : (y m : ℤ) → ((y <ℤ m) × (int_lt y m ≡ true)) ⊎ ((m ≤ℤ y) × (int_lt y m ≡ false))
below y m = by_lt_z y m (λ h. let e : int_lt y m ≡ true = grind (arith, ints) in inl (h, e))
    (λ h. let e : int_lt y m ≡ false = grind (arith, ints) in inr (h, e))

-- 1 where the price is not below the mark
abbrev one_above : ℤ → ℤ → ℕ
one_above m y = cond (int_lt y m) 0 1

abbrev above : ℤ → List ℤ → ℕ
above m [] = 0
above m (y ∷ ys) = one_above m y + above m ys

one_less : (y m n : ℤ) → n ≤ℤ m → one_above m y ≤ one_above n y
one_less y m n h =
    elim (below y m) [
      | inl p ↦ rw p.1 (omega arith)
      | inr p ↦ elim (below y n) [
        | inl q ↦ absurd (let a = p.0 in let b = q.0 in omega (arith, ints, a, b, h))
        | inr q ↦ rw (p.1, q.1) (omega arith)
      ]
    ]

above_less : (m n : ℤ) (ys : List ℤ) → n ≤ℤ m → above m ys ≤ above n ys
above_less m n [] h = omega arith
above_less m n (y ∷ ys) h = omega (arith, one_less y m n h, above_less m n ys h)

one_most : (m y : ℤ) → one_above m y ≤ 1
one_most m y =
    elim (below y m) [
      | inl p ↦ rw p.1 (omega arith)
      | inr p ↦ rw p.1 (omega arith)
    ]

above_most : (m : ℤ) (ys : List ℤ) → above m ys ≤ length ys
above_most m [] = omega arith
above_most m (y ∷ ys) = omega (arith, one_most m y, above_most m ys)

none_one : (m y : ℤ) → one_above m y ≡ 0 → y <ℤ m
none_one m y e =
    elim (below y m) [
      | inl p ↦ p.0
      | inr p ↦ absurd (let q : one_above m y ≡ 1 = rw p.1 refl in omega (arith, q, e))
    ]

all_one : (m y : ℤ) → one_above m y ≡ 1 → m ≤ℤ y
all_one m y e =
    elim (below y m) [
      | inl p ↦ absurd (let q : one_above m y ≡ 0 = rw p.1 refl in omega (arith, q, e))
      | inr p ↦ p.0
    ]

above_none : (m : ℤ) (ys : List ℤ) → above m ys ≡ 0 → All (λ y. y <ℤ m) ys
above_none m [] e k d h = absurd (omega arith)
above_none m (y ∷ ys) e zero d h = none_one m y (omega (arith, e))
above_none m (y ∷ ys) e (suc k) d h = above_none m ys (omega (arith, e)) k d (omega arith)

above_all : (m : ℤ) (ys : List ℤ) → length ys ≤ above m ys → All (λ y. m ≤ℤ y) ys
above_all m [] e k d h = absurd (omega arith)
above_all m (y ∷ ys) e zero d h = all_one m y (omega (arith, e, one_most m y, above_most m ys))
above_all m (y ∷ ys) e (suc k) d h = above_all m ys (omega (arith, e, one_most m y)) k d (omega arith)

-- where no more are counted for a lower mark, no price lies between the two
same_one : (m n y : ℤ) → one_above n y ≤ one_above m y → y <ℤ m → y <ℤ n
same_one m n y e low =
    elim (below y n) [
      | inl p ↦ p.0
      | inr p ↦ elim (below y m) [
        | inl q ↦ absurd (let a : one_above n y ≡ 1 = rw p.1 refl in let b : one_above m y ≡ 0 = rw q.1 refl in omega (arith, a, b, e))
        | inr q ↦ absurd (let a = q.0 in omega (arith, ints, a, low))
      ]
    ]

above_same : (m n : ℤ) (ys : List ℤ) → n ≤ℤ m → above n ys ≤ above m ys → All (λ y. y <ℤ m → y <ℤ n) ys
above_same m n [] h e k d i = absurd (omega arith)
above_same m n (y ∷ ys) h e zero d i = same_one m n y (omega (arith, e, above_less m n ys h))
above_same m n (y ∷ ys) h e (suc k) d i = above_same m n ys h (omega (arith, e, one_less y m n h)) k d (omega arith)

-- ---- raised prices

-- a price below the mark, raised by 1
abbrev raise : ℤ → ℤ → ℤ
raise m y = cond (int_lt y m) (y +ℤ pos 1) y

raised : (m y : ℤ) → ((y <ℤ m) × (raise m y ≡ y +ℤ pos 1)) ⊎ ((m ≤ℤ y) × (raise m y ≡ y))
raised m y =
    elim (below y m) [
      | inl p ↦ inl (p.0, rw p.1 refl)
      | inr p ↦ inr (p.0, rw p.1 refl)
    ]

raised_at : (m : ℤ) (ys : List ℤ) (v : ℕ) → IsNode (length ys) v → at_node (map (raise m) ys) v ≡ raise m (at_node ys v)
raised_at m ys v h = get_or-map (raise m) ys (v - 1) (pos 0) (pos 0) (omega arith)

raise_low : (m y : ℤ) → m ≤ℤ pos 0 → y ≤ℤ pos 0 → raise m y ≤ℤ pos 0
raise_low m y mark h =
    elim (raised m y) [
      | inl p ↦ rw p.1 (let a = p.0 in omega (arith, ints, a, mark))
      | inr p ↦ rw p.1 h
    ]

-- an arc from x to y of cost c that lowers nothing lowers nothing if it has slack across the mark
raise_respects : (m x y c : ℤ) → x ≤ℤ (c +ℤ y) → (x <ℤ m → m ≤ℤ y → x <ℤ (c +ℤ y)) → raise m x ≤ℤ (c +ℤ raise m y)
raise_respects m x y c h slack =
    elim (raised m x) [
      | inl p ↦ elim (raised m y) [
        | inl q ↦ rw (p.1, q.1) (omega (arith, ints, h))
        | inr q ↦ (let less = slack p.0 q.0 in rw (p.1, q.1) (omega (arith, ints, less)))
      ]
      | inr p ↦ elim (raised m y) [
        | inl q ↦ rw (p.1, q.1) (omega (arith, ints, h))
        | inr q ↦ rw (p.1, q.1) h
      ]
    ]

not_raised : (m y : ℤ) → raise m y ≤ℤ y → m ≤ℤ y
not_raised m y h =
    elim (raised m y) [
      | inl p ↦ absurd (let low = rw p.1 at h in omega (arith, ints, low))
      | inr p ↦ p.0
    ]

module _ (s : Pseudoflow) (ys : List ℤ) (ok : IsPseudoflow s) (great : AreGreatestPrices s.net ys s.amounts) where
  node_in : (v : ℕ) → IsNode (node_count s.net) v → IsNode (length ys) v
  node_in v h = (h.0, omega (arith, h, great.low.one_per_node))

  raised_respects : (m : ℤ) → ((r : Rid) → HasRoom s r → at_node ys (tail s.net r) <ℤ m → m ≤ℤ at_node ys (head s.net r)
      → at_node ys (tail s.net r) <ℤ (unit_cost s.net r +ℤ at_node ys (head s.net r))) → (r : Rid) → Respects s (map (raise m) ys) r
  raised_respects m slack r room =
      let from = raised_at m ys (tail s.net r) (node_in (tail s.net r) (tail_is_node s.net r.arc r.back ok.of_net room.arc)) in
      let to = raised_at m ys (head s.net r) (node_in (head s.net r) (head_is_node s.net r.arc r.back ok.of_net room.arc)) in
      rw (from, to) (raise_respects m (at_node ys (tail s.net r)) (at_node ys (head s.net r)) (unit_cost s.net r)
      (respects_from_shows s ys r.arc r.back ok great.low.show_flow room) (slack r room))

  -- where all residual arcs with room have slack across a mark, no price is below it
  none_below : (m : ℤ) → m ≤ℤ pos 0 → ((r : Rid) → HasRoom s r → at_node ys (tail s.net r) <ℤ m → m ≤ℤ at_node ys (head s.net r)
      → at_node ys (tail s.net r) <ℤ (unit_cost s.net r +ℤ at_node ys (head s.net r))) → (v : ℕ) → IsNode (node_count s.net) v → m ≤ℤ at_node ys v
  none_below m mark slack v h =
      let others : AreLowPrices s.net (map (raise m) ys) s.amounts = record {
        one_per_node = length-map ys (raise m) ∙ great.low.one_per_node;
        not_above_zero = All-map (λ y. y ≤ℤ pos 0) (raise m) ys (λ k d i. raise_low m (get_or ys k d) mark (great.low.not_above_zero k d i));
        show_flow = shows_from_respects s (map (raise m) ys) ok (raised_respects m slack);
      } in
      let most = great.greatest (map (raise m) ys) others v h in
      not_raised m (at_node ys v) (rw (raised_at m ys v (node_in v h)) at most)

  -- the floor is no deeper than so far, or so many prices and one more are above it
  abbrev HasFloor : ℕ → ℕ → Type 0
  HasFloor k f = AreAtLeast f ys ⊎ (k + 1 ≤ above (neg_ℤ (pos f)) ys)

  floor_from : (f : ℕ) → ((v : ℕ) → IsNode (node_count s.net) v → neg_ℤ (pos f) ≤ℤ at_node ys v) → AreAtLeast f ys
  floor_from f each v h = each v (h.0, omega (arith, h, great.low.one_per_node))

  price_at : (P : ℤ → Type 0) (v : ℕ) → All P ys → IsNode (node_count s.net) v → P (at_node ys v)
  price_at P v all h = all (v - 1) (pos 0) (omega (arith, h, great.low.one_per_node))

  first_floor : (f : ℕ) → f ≡ 0 → HasFloor 0 f
  first_floor f zero_is =
      elim (cases_lt 0 (above (neg_ℤ (pos f)) ys)) [
        | inl some ↦ inr (omega arith)
        | inr few ↦ (
            let none : above (neg_ℤ (pos f)) ys ≡ 0 = omega arith in
            let all = above_none (neg_ℤ (pos f)) ys none in
            let mark : neg_ℤ (pos f) ≤ℤ pos 0 = omega (arith, ints) in
            inl (floor_from f (none_below (neg_ℤ (pos f)) mark (λ r room low high.
            let here = price_at (λ y. y <ℤ neg_ℤ (pos f)) (head s.net r) all (head_is_node s.net r.arc r.back ok.of_net room.arc) in
            absurd (omega (arith, ints, here, high)))))
            )
      ]

  cost_within : (size k : ℕ) (b : Bool) → AreCostsUpTo size s.net → IsArcNumber s.net k → IsUpTo size (unit_cost s.net (rid k b))
  cost_within size k true costs h =
      let small = costs (k - 1) no_arc (omega arith) in
      let low = small.0 in
      let high = small.1 in
      (omega (arith, ints, low, high), omega (arith, ints, low, high))
  cost_within size k false costs h = costs (k - 1) no_arc (omega arith)

  -- no price lies between two marks that are a cost apart
  gap_floor : (size f : ℕ) → AreCostsUpTo size s.net → above (neg_ℤ (pos (f + size))) ys ≤ above (neg_ℤ (pos f)) ys → AreAtLeast f ys
  gap_floor size f costs e =
      let apart : neg_ℤ (pos (f + size)) ≤ℤ neg_ℤ (pos f) = omega (arith, ints) in
      let gap = above_same (neg_ℤ (pos f)) (neg_ℤ (pos (f + size))) ys apart e in
      let mark : neg_ℤ (pos f) ≤ℤ pos 0 = omega (arith, ints) in
      floor_from f (none_below (neg_ℤ (pos f)) mark (λ r room low high.
      let far = price_at (λ y. y <ℤ neg_ℤ (pos f) → y <ℤ neg_ℤ (pos (f + size))) (tail s.net r) gap (tail_is_node s.net r.arc r.back ok.of_net room.arc) low in
      let small = (cost_within size r.arc r.back costs room.arc).0 in
      omega (arith, ints, far, small, high)))

  next_floor : (size k f : ℕ) → AreCostsUpTo size s.net → HasFloor k f → HasFloor (k + 1) (f + size)
  next_floor size k f costs (inl low) = inl (λ v h. let here = low v h in omega (arith, ints, here))
  next_floor size k f costs (inr count) =
      elim (cases_lt (k + 1) (above (neg_ℤ (pos (f + size))) ys)) [
        | inl more ↦ inr (omega arith)
        | inr few ↦ (
            let low = gap_floor size f costs (omega (arith, few, count)) in
            inl (λ v h. let here = low v h in omega (arith, ints, here))
            )
      ]

  floors : (size k f : ℕ) → AreCostsUpTo size s.net → f ≡ k * size → HasFloor k f
  floors size zero f costs e = first_floor f (omega (arith, e))
  floors size (suc k) f costs e =
      let before = floors size k (k * size) costs refl in
      let next = next_floor size k (k * size) costs before in
      let same : k * size + size ≡ f = omega (arith, e) in
      let more : k + 1 ≡ suc k = omega arith in
      subst (λ j. HasFloor j f) more (subst (λ g. HasFloor (k + 1) g) same next)

  last_floor : (f : ℕ) → HasFloor (node_count s.net - 1) f → AreAtLeast f ys
  last_floor f (inl low) v h = low v h
  last_floor f (inr count) v h =
      price_at (λ y. neg_ℤ (pos f) ≤ℤ y) v (above_all (neg_ℤ (pos f)) ys (omega (arith, h, count, great.low.one_per_node)))
      (h.0, omega (arith, h, great.low.one_per_node))

  pub greatest_are_small : AreSmallPrices s.net ys
  greatest_are_small size costs k d h =
      let f = (node_count s.net - 1) * size in
      let floor = last_floor f (floors size (node_count s.net - 1) f costs refl) in
      let back : k + 1 - 1 ≡ k = omega arith in
      let low = rw back at (floor (k + 1) (omega arith, omega (arith, h))) in
      let same = get_or_default ys k (pos 0) d h in
      let high = great.low.not_above_zero k d h in
      (omega (arith, ints, low, same), omega (arith, ints, high))

-- ---- small prices of a net

product_small : (n : ℕ) → n ≤ 1_000_000 → (n - 1) * 10 ^ 15 ≤ price_limit
product_small n h = omega arith

pub small_within : (g : Network) (ys : List ℤ) → IsNet g → AreSmallPrices g ys → All (IsUpTo price_limit) ys
small_within g ys ok small k d h =
    let here = small (10 ^ 15) (λ i a j. (ok.each_arc i a j).cost_small) k d h in
    let few = product_small (node_count g) ok.nodes in
    (let low = here.0 in omega (arith, ints, low, few), let high = here.1 in omega (arith, ints, high, few))
