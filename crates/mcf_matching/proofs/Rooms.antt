-- How many arcs leave the rows of a search.
use Rattle.std.proofs.Common.{◌≡◌, ◌≢◌, ◌||◌, ℕ, zero, suc, ◌+◌, ◌-◌, ◌≤◌, Bool, cond, eqb, true, false, List, [], ◌∷◌, ◌++◌, length, map, get_or, refl, sym, ◌∙◌, ap, subst, arith, inl, inr}
use Rattle.std.specs.Prelude.{Result, Ok, Err, OnErr}
use Rattle.std.specs.List.{All, AllPairs, Contains, count_by, list_any, range_with_len, remove}
use Rattle.std.proofs.lemmas.Bool.{eq-eqb, eqb-true}
use Rattle.std.proofs.lemmas.List.{length-map}
use Rattle.std.proofs.lemmas.List.Elements.{All-head, All-tail}
use Rattle.std.proofs.lemmas.List.FromFn.{get_or-map-range_with_len, length-range_with_len}
use Rattle.std.proofs.lemmas.List.Folds.{list_any-append}
use Rattle.std.proofs.lemmas.Map.Views.{Contains-from_any}
use Rattle.std.proofs.lemmas.List.Sorted.{Contains-permutation, IsPermutation-remove, sum_by-IsPermutation}
use Rattle.std.proofs.lemmas.List.Sums.{count_by-le-length, sum_by-cons}
use Rattle.mcf_flows.specs.Network.{Network, IsArcNumber}
use Rattle.mcf_network.specs.declared.rid.Rid.{Rid}
use Rattle.mcf_network.specs.Residual.{arc_at}
use Rattle.mcf_network.proofs.Lists.{Contains-cons}
use Rattle.mcf_matching.specs.declared.rows.RowArc.{RowArc}
use Rattle.mcf_matching.specs.declared.search.Tables.{Tables}
use Rattle.mcf_matching.specs.Private.Rooms.{HasRoom, KeepsSettled, all_forward, out_count}
use Rattle.mcf_matching.specs.Private.RowLists.{IsRowArc, forward_of}
use Rattle.mcf_matching.specs.Private.Searches.{Search, forward}
use Rattle.mcf_offers.specs.Offers.{Queue}

pub all_has : (g : Network) (k : ℕ) → IsArcNumber g k → Contains (all_forward g) (forward k)
all_has g k h =
    let within = h.1 in
    let from = h.0 in (
      k - 1,
      omega (arith, within, from, length-map (range_with_len 1 (length g.arcs)) forward, length-range_with_len 1 (length g.arcs)),
      get_or-map-range_with_len forward 1 (length g.arcs) (k - 1) k (forward k) (omega (arith, within, from)) (omega (arith, from)),
    )

-- ---- counts

-- items of a list that pass a test, each once, are no more than pass it in the list
once_few : {X : Type 0} (p : X → Bool) (xs ys : List X) → AllPairs (λ x y. x ≢ y) xs → All (λ x. p x ≡ true) xs → ((x : X) → Contains xs x → Contains ys x)
    → length xs ≤ count_by p ys
once_few p [] ys once each within = omega arith
once_few p (x ∷ xs) ys once each within =
    let at = within x (0, omega arith, refl) in
    let out = IsPermutation-remove ys at.0 x at.1 (sym at.2) in
    let rest = once_few p xs (remove ys at.0) (λ i j d l m. once (suc i) (suc j) d (omega (arith, l)) (omega (arith, m)))
    (All-tail (λ x. p x ≡ true) x xs each)
    (λ z has. elim (Contains-cons x (remove ys at.0) z (Contains-permutation ys (x ∷ remove ys at.0) z out (within z (let (i, h, e) = has in (suc i, omega (arith, h), e))))) [
      | inl e ↦ absurd (let (i, h, f) = has in once 0 (suc i) z (omega arith) (omega (arith, h)) (e ∙ sym f))
      | inr more ↦ more
    ]) in
    let same = sum_by-IsPermutation (λ z. cond (p z) 1 0) ys (x ∷ remove ys at.0) out in
    let cons = sum_by-cons (λ z. cond (p z) 1 0) x (remove ys at.0) in
    let one : cond {A = ℕ} (p x) 1 0 ≡ 1 = ap (λ b. cond {A = ℕ} b 1 0) (All-head (λ x. p x ≡ true) x xs each) in
    omega (arith, rest, same, cons, one)

-- what passes one of two tests that exclude each other passes a third
apart_few : {X : Type 0} (p q r : X → Bool) (xs : List X) → ((x : X) → cond (p x) 1 0 + cond (q x) 1 0 ≤ cond (r x) 1 0) → count_by p xs + count_by q xs ≤ count_by r xs
apart_few p q r [] few = omega arith
apart_few p q r (x ∷ xs) few =
    let rest = apart_few p q r xs few in
    let here = few x in
    let a = sum_by-cons (λ z. cond (p z) 1 0) x xs in
    let b = sum_by-cons (λ z. cond (q z) 1 0) x xs in
    let c = sum_by-cons (λ z. cond (r z) 1 0) x xs in
    omega (arith, rest, here, a, b, c)

-- ---- arcs that leave nodes

-- a forward arc that leaves the node
pub record IsOut (g : Network) (v : ℕ) (r : Rid) : Type 0 where
  pub arc : IsArcNumber g r.arc
  pub forth : r.back ≡ false
  pub from : (arc_at g r.arc).src ≡ v

pub rid_is : (r : Rid) → r.back ≡ false → forward r.arc ≡ r
rid_is r e = ap (λ b. rid_of b) (sym e)
  where
    rid_of : Bool → Rid
    rid_of b = record { arc = r.arc; back = b }

pub outs_few : (g : Network) (v : ℕ) (list : List Rid) → All (IsOut g v) list → AllPairs (λ r q. r ≢ q) list → length list ≤ out_count g (v ∷ [])
unfolding out_count
outs_few g v list each once =
    once_few (λ (r : Rid). list_any (λ u. eqb (arc_at g r.arc).src u) (v ∷ [])) list (all_forward g) once
    (λ i d h. let is = each i d h in ap (λ b. b || false) (eq-eqb (arc_at g (get_or list i d).arc).src v is.from))
    (λ r has. let (i, h, e) = has in
    let is = subst (λ x. IsOut g v x) e (each i r h) in
    subst (λ x. Contains (all_forward g) x) (rid_is r is.forth) (all_has g r.arc is.arc))

-- no more arcs are kept of a row than leave it
pub kept_few : (g : Network) (v u : ℕ) (kept : List RowArc) → v ≡ u → All (IsRowArc g v) kept → AllPairs (λ r q. r ≢ q) (map forward_of kept)
    → length kept ≤ out_count g (u ∷ [])
kept_few g v u kept at each once =
    let few = outs_few g v (map forward_of kept) (each_out kept each) once in
    let same = length-map kept forward_of in
    let here = ap (λ w. out_count g (w ∷ [])) at in
    omega (arith, few, same, here)
  where
    each_out : (list : List RowArc) → All (IsRowArc g v) list → All (IsOut g v) (map forward_of list)
    each_out [] each i d h = absurd (omega (arith, h))
    each_out (a ∷ list) each zero d h = (let is = All-head (IsRowArc g v) a list each in record { arc = is.arc; forth = refl; from = is.from })
    each_out (a ∷ list) each (suc i) d h = each_out list (All-tail (IsRowArc g v) a list each) i d (omega (arith, h))

-- there are no more than arcs
pub out_all : (g : Network) (nodes : List ℕ) → out_count g nodes ≤ length g.arcs
unfolding out_count
out_all g nodes =
    let few = count_by-le-length (λ (r : Rid). list_any (λ u. eqb (arc_at g r.arc).src u) nodes) (all_forward g) in
    let a = length-map (range_with_len 1 (length g.arcs)) forward in
    let b = length-range_with_len 1 (length g.arcs) in
    omega (arith, few, a, b)

or_few : (a b : Bool) → (a ≡ true → b ≡ true → ⊥) → cond a 1 0 + cond b 1 0 ≤ cond (a || b) 1 0
or_few true true apart = absurd (apart refl refl)
or_few true false apart = omega arith
or_few false true apart = omega arith
or_few false false apart = omega arith

-- more nodes, no fewer arcs
pub out_more : (g : Network) (xs ys : List ℕ) → out_count g xs ≤ out_count g (xs ++ ys)
unfolding out_count
out_more g xs ys =
    let few = apart_few (λ (r : Rid). list_any (eqb (arc_at g r.arc).src) xs) (λ r. false) (λ (r : Rid). list_any (eqb (arc_at g r.arc).src) (xs ++ ys))
    (all_forward g) (λ r. more (list_any (eqb (arc_at g r.arc).src) xs) (list_any (eqb (arc_at g r.arc).src) ys) (list_any (eqb (arc_at g r.arc).src) (xs ++ ys))
    (list_any-append (eqb (arc_at g r.arc).src) xs ys)) in
    omega (arith, few)
  where
    more : (a b c : Bool) → c ≡ (a || b) → cond a 1 0 + cond false 1 0 ≤ cond c 1 0
    more true b c e = let one : cond {A = ℕ} c 1 0 ≡ 1 = ap (λ z. cond {A = ℕ} z 1 0) e in omega (arith, one)
    more false b c e = omega arith

-- one node more that wasn't among them
pub out_push : (g : Network) (xs : List ℕ) (v : ℕ) → ¬ Contains xs v → out_count g xs + out_count g (v ∷ []) ≤ out_count g (xs ++ v ∷ [])
unfolding out_count
out_push g xs v fresh =
    apart_few (λ (r : Rid). list_any (eqb (arc_at g r.arc).src) xs) (λ (r : Rid). list_any (eqb (arc_at g r.arc).src) (v ∷ []))
    (λ (r : Rid). list_any (eqb (arc_at g r.arc).src) (xs ++ v ∷ [])) (all_forward g)
    (λ r. let u = (arc_at g r.arc).src in
    subst (λ c. cond (list_any (eqb u) xs) 1 0 + cond (list_any (eqb u) (v ∷ [])) 1 0 ≤ cond c 1 0) (sym (list_any-append (eqb u) xs (v ∷ [])))
    (or_few (list_any (eqb u) xs) (list_any (eqb u) (v ∷ [])) (λ a b. fresh (subst (λ w. Contains xs w) (only u b) (listed u xs a)))))
  where
    listed : (u : ℕ) (list : List ℕ) → list_any (eqb u) list ≡ true → Contains list u
    listed u list h = Contains-from_any eqb-true u list h

    only : (u : ℕ) → list_any (eqb u) (v ∷ []) ≡ true → u ≡ v
    only u h =
        elim (Contains-cons v [] u (listed u (v ∷ []) h)) [
          | inl e ↦ sym e
          | inr none ↦ absurd (let (i, l, e) = none in omega (arith, l))
        ]

-- ---- one step after another

pub kept_same : {W : Type 0} (p : Tables W) → KeepsSettled 0 p p
kept_same p = record { labels = refl; order = refl; room = omega arith; few = omega arith }

pub kept_after : (a b all : ℕ) {W : Type 0} (p q r : Tables W) → KeepsSettled a p q → KeepsSettled b q r → a + b ≤ all → KeepsSettled all p r
kept_after a b all p q r first second fits =
    let m = first.room in
    let n = second.room in
    let few = first.few in
    let more = second.few in
    record {
      labels = second.labels ∙ ap (λ (x : Search). record x { queue = r.offers.items; best = r.best }) first.labels;
      order = second.order ∙ first.order;
      room = omega (arith, m, n);
      few = omega (arith, few, more, fits);
    }

pub kept_on : {a : ℕ} {W : Type 0} {p q r : Tables W} → KeepsSettled a p q → KeepsSettled 0 q r → KeepsSettled a p r
kept_on {a} {p} {q} {r} first second = kept_after a 0 a p q r first second (omega arith)

-- offers are taken out
pub kept_taken : {W : Type 0} (p q : Tables W) (left : Queue) → KeepsSettled 0 p q → q.offers.room ≤ left.room → length left.items ≤ length q.offers.items
    → KeepsSettled 0 p (record q { offers = left })
kept_taken p q left kept room few =
    kept_after 0 0 0 p q (record q { offers = left }) kept (record { labels = refl; order = refl; room = room; few = omega (arith, few) }) (omega arith)

pub room_left : (a b all : ℕ) {W : Type 0} (p q : Tables W) → KeepsSettled a p q → HasRoom all p → a + b ≤ all → HasRoom b q
room_left a b all p q kept has fits =
    let more = kept.room in
    let few = kept.few in
    omega (arith, more, few, has, fits)

-- ---- lack of memory

-- whatever comes of it
pub on_err : {T E : Type 0} (r : Result T E) (P : Type 0) → P → OnErr r P
on_err (Ok x) P h = tt
on_err (Err e) P h = h
