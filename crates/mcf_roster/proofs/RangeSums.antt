-- Lists and sums with an entry for each number from 1 on.
use Rattle.std.proofs.Common.{◌≡◌, ℕ, zero, suc, ◌+◌, ◌-◌, ◌<◌, eqb, List, [], ◌∷◌, ◌++◌, length, map, get_or, refl, ap, sym, ◌∙◌, subst, arith, ℤ, pos, ◌+ℤ◌, inl, inr}
use Rattle.std.specs.List.{All, AllZip, range_with_len}
use Rattle.std.proofs.lemmas.Int.{ints}
use Rattle.std.proofs.lemmas.Bool.{cases_eq, eq-eqb, ne_eqb}
use Rattle.std.proofs.lemmas.List.FromFn.{get_or-map-range_with_len, length-map-range_with_len, map-range_with_len_more}
use Rattle.mcf_flows.specs.Network.{IsNode, at_node, node_sum, when}
use Rattle.mcf_flows.proofs.AllZips.{AllZip-at}
use Rattle.mcf_flows.proofs.NodeSums.{node_sum-same, node_sum-zero}
use Rattle.mcf_model.specs.Bottlenecks.{route_sum}
use Rattle.mcf_model.specs.Model.{Route, plan_sum}
use Rattle.mcf_model.proofs.Lists.{join_zip}

-- ---- a term at one number

pub when_not : (a b : ℕ) (z : ℤ) → (a ≡ b → ⊥) → when (eqb a b) z ≡ pos 0
when_not a b z h = ap (λ t. when t z) (ne_eqb a b h)

pub when_is : (a b : ℕ) (z : ℤ) → a ≡ b → when (eqb a b) z ≡ z
when_is a b z h = ap (λ t. when t z) (eq-eqb a b h)

pub none_at : (t : ℕ → ℤ) (n : ℕ) → ((v : ℕ) → IsNode n v → t v ≡ pos 0) → node_sum t n ≡ pos 0
none_at t n h = node_sum-same t (λ v. pos 0) n h ∙ node_sum-zero n

pub one_at : (t : ℕ → ℤ) (n w : ℕ) → IsNode n w → ((v : ℕ) → IsNode n v → (v ≡ w → ⊥) → t v ≡ pos 0) → node_sum t n ≡ t w
one_at t zero w h other = absurd (omega arith)
one_at t (suc n) w h other =
    elim (cases_eq w (suc n)) [
      | inl same ↦ omega (arith, ints, none_at t n (λ v q. other v (q.0, omega (arith, q)) (λ bad. absurd (omega (arith, bad, same, q)))), ap t same)
      | inr ne ↦ omega (
        arith,
        ints,
        one_at t n w (h.0, omega (arith, h, ne)) (λ v q k. other v (q.0, omega (arith, q)) k),
        other (suc n) (omega arith, omega arith) (λ bad. ne (sym bad)),
      )
    ]

-- ---- one number more

pub mapped_more : {X : Type 0} (f : ℕ → X) (n : ℕ) → map f (range_with_len 1 (suc n)) ≡ map f (range_with_len 1 n) ++ f (suc n) ∷ []
mapped_more f n =
    let e : suc n ≡ n + 1 = omega arith in
    ap (λ k. map f (range_with_len 1 k)) e ∙ map-range_with_len_more f 1 n (suc n) (omega arith)

pub mapped_same : {X : Type 0} (f g : ℕ → X) (n : ℕ) → ((v : ℕ) → IsNode n v → f v ≡ g v) → map f (range_with_len 1 n) ≡ map g (range_with_len 1 n)
mapped_same f g zero h = refl
mapped_same f g (suc n) h =
    mapped_more f n
    ∙ ap (λ xs. xs ++ f (suc n) ∷ []) (mapped_same f g n (λ v q. h v (q.0, omega (arith, q))))
    ∙ ap (λ x. map g (range_with_len 1 n) ++ x ∷ []) (h (suc n) (omega arith, omega arith))
    ∙ sym (mapped_more g n)

-- ---- sums over routes

pub route_sum-append : (t : Route → ℤ) (rs more : List Route) → route_sum t (rs ++ more) ≡ route_sum t rs +ℤ route_sum t more
route_sum-append t [] more = omega (arith, ints)
route_sum-append t (r ∷ rs) more = omega (arith, ints, route_sum-append t rs more)

pub plan_sum-append : (t : Route → ℤ → ℤ) (rs more : List Route) (xs ys : List ℤ) → length rs ≡ length xs
    → plan_sum t (rs ++ more) (xs ++ ys) ≡ plan_sum t rs xs +ℤ plan_sum t more ys
plan_sum-append t [] more [] ys e = omega (arith, ints)
plan_sum-append t [] more (x ∷ xs) ys e = absurd (omega arith)
plan_sum-append t (r ∷ rs) more [] ys e = absurd (omega arith)
plan_sum-append t (r ∷ rs) more (x ∷ xs) ys e = omega (arith, ints, plan_sum-append t rs more xs ys (omega arith))

pub route_sum-range : (t : Route → ℤ) (f : ℕ → Route) (n : ℕ) → route_sum t (map f (range_with_len 1 n)) ≡ node_sum (λ v. t (f v)) n
route_sum-range t f zero = refl
route_sum-range t f (suc n) =
    omega (
      arith,
      ints,
      ap (route_sum t) (mapped_more f n),
      route_sum-append t (map f (range_with_len 1 n)) (f (suc n) ∷ []),
      route_sum-range t f n,
    )

pub plan_sum-range : (t : Route → ℤ → ℤ) (f : ℕ → Route) (A : ℕ → ℤ) (n : ℕ)
    → plan_sum t (map f (range_with_len 1 n)) (map A (range_with_len 1 n)) ≡ node_sum (λ v. t (f v) (A v)) n
plan_sum-range t f A zero = refl
plan_sum-range t f A (suc n) =
    let fs = map f (range_with_len 1 n) in
    let As = map A (range_with_len 1 n) in
    omega (
      arith,
      ints,
      ap (λ rs. plan_sum t rs (map A (range_with_len 1 (suc n)))) (mapped_more f n),
      ap (plan_sum t (fs ++ f (suc n) ∷ [])) (mapped_more A n),
      plan_sum-append t fs (f (suc n) ∷ []) As (A (suc n) ∷ []) (length-map-range_with_len f 1 n ∙ sym (length-map-range_with_len A 1 n)),
      plan_sum-range t f A n,
    )

-- ---- facts

pub all_range : {X : Type 0} (Q : X → Type 0) (f : ℕ → X) (n : ℕ) → ((v : ℕ) → IsNode n v → Q (f v)) → All Q (map f (range_with_len 1 n))
all_range Q f n h = λ k d l.
    let few : k < n = omega (arith, l, length-map-range_with_len f 1 n) in
    subst Q (sym (get_or-map-range_with_len f 1 n k (suc k) d few (omega arith))) (h (suc k) (omega arith, omega (arith, few)))

module _ {X : Type 0} (R : X → ℤ → Type 0) (f : ℕ → X) (A : ℕ → ℤ) where
  pub zip_range : (n : ℕ) → ((v : ℕ) → IsNode n v → R (f v) (A v)) → AllZip R (map f (range_with_len 1 n)) (map A (range_with_len 1 n))
  zip_range zero h = tt
  zip_range (suc n) h =
      subst (λ xs. AllZip R xs (map A (range_with_len 1 (suc n)))) (sym (mapped_more f n))
      (subst (AllZip R (map f (range_with_len 1 n) ++ f (suc n) ∷ [])) (sym (mapped_more A n))
      (join_zip R (map f (range_with_len 1 n)) (f (suc n) ∷ []) (map A (range_with_len 1 n)) (A (suc n) ∷ [])
      (zip_range n (λ v q. h v (q.0, omega (arith, q)))) (h (suc n) (omega arith, omega arith), tt)))

-- the fact at one number
pub zipped_at : {X : Type 0} (R : X → ℤ → Type 0) (f : ℕ → X) (n : ℕ) (ys : List ℤ) (v : ℕ) → AllZip R (map f (range_with_len 1 n)) ys → IsNode n v
    → R (f v) (at_node ys v)
zipped_at R f n ys v h k =
    let few : v - 1 < n = omega (arith, k) in
    let long = length-map-range_with_len f 1 n in
    subst (λ x. R x (at_node ys v)) (get_or-map-range_with_len f 1 n (v - 1) v (f v) few (omega (arith, k)))
    (AllZip-at R (map f (range_with_len 1 n)) ys (v - 1) (f v) (pos 0) h (omega (arith, few, long)))

-- a list is the list of its entries
pub entries_again : (ys : List ℤ) (n : ℕ) → length ys ≡ n → map (at_node ys) (range_with_len 1 n) ≡ ys
entries_again ys n e =
    ap (λ k. map (at_node ys) (range_with_len 1 k)) (sym e)
    ∙ go (at_node ys) 1 ys (λ i l. let back : 1 + i - 1 ≡ i = omega arith in ap (λ k. get_or ys k (pos 0)) back)
  where
    go : (f : ℕ → ℤ) (a : ℕ) (xs : List ℤ) → ((i : ℕ) → i < length xs → f (a + i) ≡ get_or xs i (pos 0)) → map f (range_with_len a (length xs)) ≡ xs
    go f a [] h = refl
    go f a (x ∷ xs) h =
        let none : a ≡ a + 0 = omega arith in
        ap (λ y. y ∷ map f (range_with_len (a + 1) (length xs))) (ap f none ∙ h 0 (omega arith))
        ∙ ap (λ ys. x ∷ ys)
        (go f (a + 1) xs (λ i l. let next : a + 1 + i ≡ a + suc i = omega arith in ap f next ∙ h (suc i) (omega (arith, l))))
