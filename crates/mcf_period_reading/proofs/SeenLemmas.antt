-- Rows that clash with earlier ones, by the sets of these.
use Rattle.std.proofs.Common.{◌≡◌, ◌≢◌, ◌∙◌, ℕ, suc, ◌+◌, ◌-◌, ◌<◌, ◌≤◌, Bool, true, false, cond, ◌&&◌, ◌||◌, ◌==◌, List, [], ◌∷◌, ◌++◌, get_or, length, take, refl, sym, ap, arith}
use Rattle.std.specs.Prelude.{nat_eq}
use Rattle.std.specs.HashSet.{HashSet, contains}
use Rattle.std.specs.List.{list_any}
use Rattle.std.proofs.lemmas.Bool.{eqb-true}
use Rattle.std.proofs.lemmas.List.{take_all}
use Rattle.std.proofs.lemmas.List.Folds.{list_any-append}
use Rattle.std.proofs.Math.Seq.{take-suc}
use Rattle.mcf_period_reading.specs.PlaceTimes.{clashes}
use Rattle.mcf_period_reading.specs.Seen.{HasSeen}
use Rattle.mcf_period_reading.specs.Spots.{is_at, same_key, spot_at}
use Rattle.mcf_period_reading.specs.declared.spots.Spot.{Spot}

eq_sym : (a b : ℕ) → (a == b) ≡ (b == a)
eq_sym a b = go (a == b) (b == a) refl refl
  where
    same : a ≡ b → (a == b) ≡ (b == a)
    same p = ap (λ x. x == b) p ∙ sym (ap (λ x. b == x) p)

    go : (s t : Bool) → (a == b) ≡ s → (b == a) ≡ t → (a == b) ≡ (b == a)
    go true t e f = same (eqb-true a b e)
    go false true e f = same (sym (eqb-true b a f))
    go false false e f = e ∙ sym f

pub nonzero : (n : ℕ) → n ≢ 0 → (n == 0) ≡ false
nonzero n some = go (n == 0) refl
  where
    go : (b : Bool) → (n == 0) ≡ b → (n == 0) ≡ false
    go true e = absurd (some (eqb-true n 0 e))
    go false e = e

-- ---- tests of lists

any_same : (p q : Spot → Bool) → ((s : Spot) → p s ≡ q s) → (rows : List Spot) → list_any p rows ≡ list_any q rows
any_same p q e [] = refl
any_same p q e (s ∷ rows) = ap (λ b. b || list_any p rows) (e s) ∙ ap (λ b. q s || b) (any_same p q e rows)

mixed : (a b c d : Bool) → ((a || b) || (c || d)) ≡ ((a || c) || (b || d))
mixed true b c d = refl
mixed false b true d = or_true b
  where
    or_true : (b : Bool) → (b || true) ≡ true
    or_true true = refl
    or_true false = refl
mixed false true false d = refl
mixed false false false d = refl

any_or : (p q : Spot → Bool) (rows : List Spot) → list_any (λ s. p s || q s) rows ≡ (list_any p rows || list_any q rows)
any_or p q [] = refl
any_or p q (s ∷ rows) = ap (λ b. (p s || q s) || b) (any_or p q rows) ∙ mixed (p s) (q s) (list_any p rows) (list_any q rows)

-- ---- one row

both_ways : (a b c : Bool) → (a && (b || c)) ≡ ((a && b) || (a && c))
both_ways true b c = refl
both_ways false b c = refl

and_true : (a : Bool) → (a && true) ≡ a
and_true true = refl
and_true false = refl

-- a row of each period clashes with each row of its place
each_period : (spot s : Spot) → (spot.period == 0) ≡ true → clashes spot s ≡ (s.place == spot.place)
each_period spot s e =
    ap (λ b. spot.place == s.place && (b || (s.period == 0 || spot.period == s.period))) e
    ∙ and_true (spot.place == s.place) ∙ eq_sym spot.place s.place

-- a row of one period clashes with those of its place that hold in each period, or in this one
one_period : (spot s : Spot) → (spot.period == 0) ≡ false → clashes spot s ≡ (is_at spot.place 0 s || is_at spot.place spot.period s)
one_period spot s e =
    ap (λ b. spot.place == s.place && (b || (s.period == 0 || spot.period == s.period))) e
    ∙ ap (λ b. b && (s.period == 0 || spot.period == s.period)) (eq_sym spot.place s.place)
    ∙ ap (λ b. s.place == spot.place && (s.period == 0 || b)) (eq_sym spot.period s.period)
    ∙ both_ways (s.place == spot.place) (s.period == 0) (s.period == spot.period)

-- ---- all rows

pub clashes_each : (spot : Spot) (rows : List Spot) → (spot.period == 0) ≡ true → list_any (λ s. s.place == spot.place) rows ≡ list_any (clashes spot) rows
clashes_each spot rows e = sym (any_same (clashes spot) (λ s. s.place == spot.place) (λ s. each_period spot s e) rows)

pub clashes_one : (spot : Spot) (rows : List Spot) → (spot.period == 0) ≡ false
    → (list_any (is_at spot.place 0) rows || list_any (is_at spot.place spot.period) rows) ≡ list_any (clashes spot) rows
clashes_one spot rows e =
    sym (any_same (clashes spot) (λ s. is_at spot.place 0 s || is_at spot.place spot.period s) (λ s. one_period spot s e) rows
    ∙ any_or (is_at spot.place 0) (is_at spot.place spot.period) rows)

-- ---- one row more

added : (here before : Bool) → cond here true before ≡ (before || (here || false))
added true true = refl
added true false = refl
added false true = refl
added false false = refl

module _ {S T : Type 0} (all : List Spot) (n : ℕ) (places : HashSet ℕ S) (spots : HashSet (ℕ × ℕ) T) (seen : HasSeen (take n all) places spots) where
  -- a row was seen
  pub seen_more : (s : Spot) → s ≡ spot_at all (n + 1) → n < length all → (places' : HashSet ℕ S) (spots' : HashSet (ℕ × ℕ) T)
      → ((p : ℕ) → contains nat_eq places' p ≡ cond (nat_eq s.place p) true (contains nat_eq places p))
      → ((q : ℕ × ℕ) → contains same_key spots' q ≡ cond (same_key (s.place, s.period) q) true (contains same_key spots q))
      → HasSeen (take (n + 1) all) places' spots'
  seen_more s is low places' spots' put_place put_spot =
      let none : Spot = record { place = 0; period = 0 } in
      let place : n ≡ n + 1 - 1 = omega arith in
      let here : get_or all n none ≡ s = ap (λ i. get_or all i none) place ∙ sym is in
      let one : n + 1 ≡ suc n = omega arith in
      let more : take (n + 1) all ≡ take n all ++ s ∷ [] =
      ap (λ k. take k all) one ∙ take-suc all n none low ∙ ap (λ (x : Spot). take n all ++ x ∷ []) here in
      record {
        places_are = λ p. put_place p ∙ added (nat_eq s.place p) (contains nat_eq places p)
            ∙ ap (λ b. b || (nat_eq s.place p || false)) (seen.places_are p)
            ∙ sym (list_any-append (λ t. t.place == p) (take n all) (s ∷ [])) ∙ ap (list_any (λ t. t.place == p)) (sym more);
        spots_are = λ q. put_spot q ∙ added (same_key (s.place, s.period) q) (contains same_key spots q)
            ∙ ap (λ b. b || (same_key (s.place, s.period) q || false)) (seen.spots_are q)
            ∙ sym (list_any-append (is_at q.0 q.1) (take n all) (s ∷ [])) ∙ ap (list_any (is_at q.0 q.1)) (sym more);
      }

  -- there is no row more
  pub seen_all : length all ≤ n → (places' : HashSet ℕ S) (spots' : HashSet (ℕ × ℕ) T) → places' ≡ places → spots' ≡ spots
      → HasSeen (take (n + 1) all) places' spots'
  seen_all high places' spots' e f =
      let same : take n all ≡ take (n + 1) all = take_all n all high ∙ sym (take_all (n + 1) all (omega (arith, high))) in
      record {
        places_are = λ p. ap (λ (m : HashSet ℕ S). contains nat_eq m p) e ∙ seen.places_are p ∙ ap (list_any (λ t. t.place == p)) same;
        spots_are = λ q. ap (λ (m : HashSet (ℕ × ℕ) T). contains same_key m q) f ∙ seen.spots_are q ∙ ap (list_any (is_at q.0 q.1)) same;
      }
