-- Places in periods, and their numbers in one list.
use Rattle.std.proofs.Common.{◌≡◌, ◌≢◌, ℕ, zero, suc, ◌+◌, ◌-◌, ◌*◌, ◌<◌, ◌≤◌, eqb, Bool, true, false, ◌&&◌, List, [], ◌∷◌, length, get_or, refl, ap, sym, ◌∙◌, subst, arith, ℤ, pos, ◌+ℤ◌, inl, inr}
use Rattle.std.specs.Prelude.{◌^◌, nat_le, nat_lt, if◌then◌else◌}
use Rattle.std.proofs.Math.Nat.{mul-suc, mul-zero, mul-le-mul_left}
use Rattle.std.proofs.lemmas.Int.{ints}
use Rattle.std.proofs.lemmas.Bool.{cases_lt, cases_order, le-leb}
use Rattle.std.proofs.lemmas.Bool.Decides.{eqb_tells}
use Rattle.mcf_flows.specs.Network.{IsNode, node_sum}
use Rattle.mcf_flows.proofs.NodeSums.{node_sum-same}
use Rattle.mcf_places.specs.declared.faults.TheConstants.{PLACE_LIMIT}
use Rattle.mcf_places.specs.declared.places.Place.{Place}
use Rattle.mcf_places.specs.Models.{place_at}
use Rattle.mcf_places.specs.Planners.{EachPlace, place_sum}
use Rattle.mcf_periods.specs.Flat.{number_in}
use Rattle.mcf_periods.specs.Periods.{number}

-- ---- numbers

back_one : (t : ℕ) → 1 ≤ t → suc (t - 1) ≡ t
back_one t h = omega arith

-- all places in the periods up to t
up_to : (n t : ℕ) → 1 ≤ t → n * (t - 1) + n ≡ n * t
up_to n t h = sym (mul-suc n (t - 1)) ∙ ap (λ k. n * k) (back_one t h)

pub number_low : (n v t : ℕ) → IsNode n v → 1 ≤ number n v t
number_low n v t h = omega (arith, h)

pub number_high : (n last v t : ℕ) → IsNode n v → IsNode last t → number n v t ≤ n * last
number_high n last v t h k = omega (arith, h, up_to n t k.0, mul-le-mul_left n k.1)

-- the periods of equal numbers are equal
no_earlier : (n a b p t : ℕ) → IsNode n a → IsNode n b → 1 ≤ p → p < t → number n a p ≡ number n b t → ⊥
no_earlier n a b p t h k one less same =
    let more : n * p ≤ n * (t - 1) = mul-le-mul_left n (omega arith) in
    omega (arith, h, k, up_to n p one, more, same)

pub same_period : (n a b p t : ℕ) → IsNode n a → IsNode n b → 1 ≤ p → 1 ≤ t → number n a p ≡ number n b t → p ≡ t
same_period n a b p t h k one first same =
    elim (cases_order p t) [
      | inl is ↦ is
      | inr other ↦ elim other [
        | inl less ↦ absurd (no_earlier n a b p t h k one less same)
        | inr more ↦ absurd (no_earlier n b a t p k h first more (sym same))
      ]
    ]

pub same_place : (n a b p t : ℕ) → p ≡ t → number n a p ≡ number n b t → a ≡ b
same_place n a b p t e same = omega (arith, ap (λ k. n * (k - 1)) e, same)

and_tells : (x y a b p t : ℕ) → (x ≡ y → (a ≡ b) × (p ≡ t)) → (a ≡ b → p ≡ t → x ≡ y) → eqb x y ≡ (eqb a b && eqb p t)
and_tells x y a b p t f g =
    elim (eqb_tells x y) [
      | inl is ↦ elim (eqb_tells a b) [
        | inl here ↦ elim (eqb_tells p t) [
          | inl now ↦ is.0 ∙ sym (ap (λ c. eqb a b && c) now.0 ∙ ap (λ c. c && true) here.0)
          | inr later ↦ absurd (later.1 (f is.1).1)
        ]
        | inr there ↦ absurd (there.1 (f is.1).0)
      ]
      | inr not_so ↦ elim (eqb_tells a b) [
        | inl here ↦ elim (eqb_tells p t) [
          | inl now ↦ absurd (not_so.1 (g here.1 now.1))
          | inr later ↦ not_so.0 ∙ sym (ap (λ c. eqb a b && c) later.0 ∙ ap (λ c. c && false) here.0)
        ]
        | inr there ↦ not_so.0 ∙ sym (ap (λ c. c && eqb p t) there.0)
      ]
    ]

all_true : (a b c : Bool) → a ≡ true → b ≡ true → c ≡ true → ((a && b) && c) ≡ true
all_true a b c e f g = ap (λ x. (x && b) && c) e ∙ ap (λ x. x && c) f ∙ g

-- the number in 32 bits
pub number_fits : (n last v t : ℕ) → n * last ≤ PLACE_LIMIT → IsNode n v → IsNode last t → number_in n v t ≡ number n v t
number_fits n last v t few h k =
    let high = number_high n last v t h k in
    let small : suc (number n v t) ≤ 2 ^ 32 = omega (arith, few, high) in
    ap (λ b. if b then number n v t else 0)
    (all_true (nat_le 1 v) (nat_le v n) (nat_lt (number n v t) (2 ^ 32)) (le-leb 1 v h.0) (le-leb v n h.1) (le-leb (suc (number n v t)) (2 ^ 32) small))

-- whether it is the number of a place in a period
pub test_number : (n last a p v t : ℕ) → n * last ≤ PLACE_LIMIT → IsNode n a → IsNode last p → IsNode n v → IsNode last t
    → eqb (number_in n a p) (number n v t) ≡ (eqb a v && eqb p t)
test_number n last a p v t few h i j k =
    ap (λ w. eqb w (number n v t)) (number_fits n last a p few h i)
    ∙ and_tells (number n a p) (number n v t) a v p t
    (λ same. let period = same_period n a v p t h j i.0 k.0 same in (same_place n a v p t period same, period))
    (λ here now. ap (λ w. w + n * (p - 1)) here ∙ ap (λ w. v + n * (w - 1)) now)

-- ---- each place in each period

-- a place in a period that has a number
pub record Spot (n last w : ℕ) : Type 0 where
  pub v : ℕ
  pub t : ℕ
  pub is_place : IsNode n v
  pub is_period : IsNode last t
  pub same : number n v t ≡ w

pub spot_of : (n last w : ℕ) → IsNode (n * last) w → Spot n last w
spot_of n zero w h = absurd (omega (arith, h, mul-zero n))
spot_of n (suc last) w h =
    elim (cases_lt (n * last) w) [
      | inl later ↦
          let e : suc last - 1 ≡ last = omega arith in
          record {
            v = w - n * last;
            t = suc last;
            is_place = omega (arith, h, later, mul-suc n last);
            is_period = omega arith;
            same = ap (λ k. w - n * last + n * k) e ∙ omega (arith, later);
          }
      | inr before ↦
          let s = spot_of n last w (h.0, before) in
          record { v = s.v; t = s.t; is_place = s.is_place; is_period = (s.is_period.0, omega (arith, s.is_period)); same = s.same }
    ]

module _ (R : ℕ → Place → Type 0) where
  each_of : (k : ℕ) (ps : List Place) (d : Place) → ((j : ℕ) → j < length ps → R (k + j) (get_or ps j d)) → EachPlace R k ps
  each_of k [] d h = tt
  each_of k (p ∷ ps) d h = (
    let e : k + 0 ≡ k = omega arith in subst (λ m. R m p) e (h 0 (omega arith)),
    each_of (suc k) ps d (λ j b. let e : k + suc j ≡ suc k + j = omega arith in subst (λ m. R m (get_or ps j d)) e (h (suc j) (omega arith))),
  )

  each_in : (k : ℕ) (ps : List Place) (d : Place) → EachPlace R k ps → (j : ℕ) → j < length ps → R (k + j) (get_or ps j d)
  each_in k [] d h j b = absurd (omega arith)
  each_in k (p ∷ ps) d h zero b = let e : k ≡ k + 0 = omega arith in subst (λ m. R m p) e h.0
  each_in k (p ∷ ps) d h (suc j) b =
      let e : suc k + j ≡ k + suc j = omega arith in subst (λ m. R m (get_or ps j d)) e (each_in (suc k) ps d h.1 j (omega arith))

  abbrev none : Place
  none = place_at [] 0

  pub each_spot : (n last : ℕ) (ps : List Place) → length ps ≡ n * last → EachPlace R 1 ps
      → (v t : ℕ) → IsNode n v → IsNode last t → R (number n v t) (place_at ps (number n v t))
  each_spot n last ps long h v t i k =
      let w = number n v t in
      let low = number_low n v t i in
      let high = number_high n last v t i k in
      let e : 1 + (w - 1) ≡ w = omega (arith, low) in
      subst (λ m. R m (place_at ps w)) e (each_in 1 ps none h (w - 1) (omega (arith, low, high, long)))

  pub each_from_spots : (n last : ℕ) (ps : List Place) → length ps ≡ n * last
      → ((v t : ℕ) → IsNode n v → IsNode last t → R (number n v t) (place_at ps (number n v t))) → EachPlace R 1 ps
  each_from_spots n last ps long h =
      each_of 1 ps none
      (λ j b.
      let s = spot_of n last (1 + j) (omega (arith, b, long)) in
      let e : 1 + j - 1 ≡ j = omega arith in
      subst (λ m. R (1 + j) (get_or ps m none)) e (subst (λ w. R w (place_at ps w)) s.same (h s.v s.t s.is_place s.is_period)))

-- ---- sums over all places in all periods

sum_front : (g : ℕ → ℤ) (m : ℕ) → node_sum g (suc m) ≡ g 1 +ℤ node_sum (λ k. g (suc k)) m
sum_front g zero = omega (arith, ints)
sum_front g (suc m) = omega (arith, ints, sum_front g m)

sum_more : (f : ℕ → ℤ) (m n : ℕ) → node_sum f (m + n) ≡ node_sum f m +ℤ node_sum (λ v. f (m + v)) n
sum_more f m zero = let e : m + 0 ≡ m = omega arith in ap (node_sum f) e ∙ omega (arith, ints)
sum_more f m (suc n) =
    let e : m + suc n ≡ suc (m + n) = omega arith in
    ap (node_sum f) e ∙ ap (λ z. node_sum f (m + n) +ℤ f z) (sym e) ∙ omega (arith, ints, sum_more f m n)

pub grid_sum : (f : ℕ → ℤ) (n last : ℕ) → node_sum f (n * last) ≡ node_sum (λ t. node_sum (λ v. f (number n v t)) n) last
grid_sum f n zero = ap (node_sum f) (mul-zero n)
grid_sum f n (suc last) =
    let e : suc last - 1 ≡ last = omega arith in
    let rest = grid_sum f n last in
    let here : node_sum (λ v. f (n * last + v)) n ≡ node_sum (λ v. f (number n v (suc last))) n =
    node_sum-same (λ v. f (n * last + v)) (λ v. f (number n v (suc last))) n
    (λ v h. ap f (omega arith ∙ ap (λ k. v + n * k) (sym e))) in
    ap (node_sum f) (mul-suc n last) ∙ omega (arith, ints, sum_more f (n * last) n, rest, here)

place_sum_by : (f : ℕ → Place → ℤ) (k : ℕ) (ps : List Place) (d : Place)
    → place_sum f (suc k) ps ≡ node_sum (λ j. f (k + j) (get_or ps (j - 1) d)) (length ps)
place_sum_by f k [] d = refl
place_sum_by f k (p ∷ ps) d =
    let g = λ (j : ℕ). f (k + j) (get_or (p ∷ ps) (j - 1) d) in
    let one : suc k ≡ k + 1 = omega arith in
    let first : f (suc k) p ≡ g 1 = ap (λ m. f m p) one in
    let later : node_sum (λ j. f (suc k + j) (get_or ps (j - 1) d)) (length ps) ≡ node_sum (λ j. g (suc j)) (length ps) =
    node_sum-same (λ j. f (suc k + j) (get_or ps (j - 1) d)) (λ j. g (suc j)) (length ps)
    (λ j h.
    let e : suc k + j ≡ k + suc j = omega arith in
    let i : suc (j - 1) ≡ suc j - 1 = omega (arith, h) in
    ap (λ m. f m (get_or ps (j - 1) d)) e ∙ ap (λ m. f (k + suc j) (get_or (p ∷ ps) m d)) i) in
    omega (arith, ints, first, later, place_sum_by f (suc k) ps d, sum_front g (length ps))

pub place_sum_spots : (f : ℕ → Place → ℤ) (n last : ℕ) (ps : List Place) → length ps ≡ n * last
    → place_sum f 1 ps ≡ node_sum (λ t. node_sum (λ v. f (number n v t) (place_at ps (number n v t))) n) last
place_sum_spots f n last ps long =
    place_sum_by f 0 ps (place_at [] 0)
    ∙ node_sum-same (λ j. f (0 + j) (place_at ps j)) (λ j. f j (place_at ps j)) (length ps) (λ j h. let e : 0 + j ≡ j = omega arith in ap (λ m. f m (place_at ps j)) e)
    ∙ ap (node_sum (λ j. f j (place_at ps j))) long
    ∙ grid_sum (λ j. f j (place_at ps j)) n last
