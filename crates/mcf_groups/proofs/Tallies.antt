-- How often numbers stand in lists.
use Rattle.std.proofs.Common.{◌≡◌, ℕ, zero, suc, ◌+◌, ◌-◌, ◌<◌, ◌≤◌, eqb, Bool, true, false, ◌&&◌, ◌||◌, List, [], ◌∷◌, length, map, filter, take, set, refl, replicate, ap, ap₂, sym, ◌∙◌, arith, ℤ, pos, ◌+ℤ◌}
use Rattle.std.specs.Prelude.{if◌then◌else◌, ◌==◌, cond, nat_lt, slice_index_or}
use Rattle.std.specs.List.{All, range_with_len}
use Rattle.std.proofs.lemmas.Bool.{and_parts, eq-eqb, lt-ltb, ltb-true, ne_eqb, true≢false}
use Rattle.std.proofs.lemmas.List.{length-take-le}
use Rattle.std.proofs.lemmas.List.Elements.{All-from_get_or}
use Rattle.std.proofs.lemmas.List.Filters.{length-filter_more}
use Rattle.std.proofs.lemmas.List.FromFn.{get_or-map-range_with_len, length-map-range_with_len}
use Rattle.std.proofs.lemmas.Int.{ints}
use Rattle.mcf_flows.specs.Blocking.{in_list}
use Rattle.mcf_flows.specs.Network.{when}
use Rattle.mcf_groups.specs.declared.groups.Group.{Group}
use Rattle.mcf_groups.specs.Counts.{CountsAreOfChoices, chosen_pairs, counted_once, has_member, members_by, times_in}
use Rattle.mcf_groups.specs.Groups.{is_of, owner_of}
use Rattle.mcf_roster.specs.declared.pairs.Pair.{Pair}
use Rattle.mcf_roster.specs.Rosters.{chosen_sum}

-- ---- counts are sums over choices

one_longer : (t : Bool) (n : ℕ) (xs : List ℕ) → pos (length (if t then n ∷ xs else xs)) ≡ when (t && true) (pos 1) +ℤ pos (length xs)
one_longer true n xs = omega (arith, ints)
one_longer false n xs = omega (arith, ints)

none_longer : (t : Bool) (n : ℕ) → pos n ≡ when (t && false) (pos 1) +ℤ pos n
none_longer true n = omega (arith, ints)
none_longer false n = omega (arith, ints)

one_pair : (f : Pair → ℕ) (b : Bool) (v : ℕ) (p : Pair) (ps : List Pair)
    → pos (times_in (map f (if b then p ∷ ps else ps)) v) ≡ when ((f p == v) && b) (pos 1) +ℤ pos (times_in (map f ps) v)
one_pair f true v p ps = one_longer (f p == v) (f p) (filter (λ (n : ℕ). n == v) (map f ps))
one_pair f false v p ps = none_longer (f p == v) (times_in (map f ps) v)

counted : (g : Group) (v : ℕ) (ps : List Pair) (cs : List Bool)
    → pos (members_by g (chosen_pairs ps cs) v) ≡ chosen_sum (λ p. when (is_of g v p) (pos 1)) ps cs
counted g v [] cs = refl
counted g v (p ∷ ps) [] = refl
counted g v (p ∷ ps) (true ∷ cs) =
    one_pair (owner_of g.of) (has_member g p) v p (filter (has_member g) (chosen_pairs ps cs))
    ∙ ap (λ (z : ℤ). when (is_of g v p) (pos 1) +ℤ z) (counted g v ps cs)
counted g v (p ∷ ps) (false ∷ cs) = omega (arith, ints, counted g v ps cs)

pub counts_are : CountsAreOfChoices
counts_are R g chosen v = counted g v R.pairs chosen

-- ---- counts of lists that grow

same_on : (f g : ℕ → ℕ) (a n : ℕ) → ((v : ℕ) → a ≤ v → v < a + n → f v ≡ g v) → map f (range_with_len a n) ≡ map g (range_with_len a n)
same_on f g a zero h = refl
same_on f g a (suc n) h =
    ap₂ (λ (y : ℕ) (ys : List ℕ). y ∷ ys) (h a (omega arith) (omega arith))
    (same_on f g (a + 1) n (λ v low high. h v (omega (arith, low)) (omega (arith, high))))

set_on : (f g : ℕ → ℕ) (a n k : ℕ) → k < n → ((v : ℕ) → a ≤ v → v < a + n → (v ≡ a + k → ⊥) → f v ≡ g v)
    → set (map f (range_with_len a n)) k (g (a + k)) ≡ map g (range_with_len a n)
set_on f g a zero k lt h = absurd (omega (arith, lt))
set_on f g a (suc n) zero lt h =
    let here : a + 0 ≡ a = omega arith in
    ap₂ (λ (y : ℕ) (ys : List ℕ). y ∷ ys) (ap g here)
    (same_on f g (a + 1) n (λ v low high. h v (omega (arith, low)) (omega (arith, high)) (λ e. absurd (omega (arith, e, low)))))
set_on f g a (suc n) (suc k) lt h =
    let next : a + suc k ≡ (a + 1) + k = omega arith in
    ap₂ (λ (y : ℕ) (ys : List ℕ). y ∷ ys) (h a (omega arith) (omega arith) (λ e. absurd (omega (arith, e))))
    (ap (λ (j : ℕ). set (map f (range_with_len (a + 1) n)) k (g j)) next
    ∙ set_on f g (a + 1) n k (omega (arith, lt)) (λ v low high ne. h v (omega (arith, low)) (omega (arith, high)) (λ e. ne (omega (arith, e)))))

-- a number is counted for itself alone
none_more : (x v n : ℕ) → (x ≡ v → ⊥) → n ≡ n + cond (eqb x v) 1 0
none_more x v n ne =
    let none : n ≡ n + 0 = omega arith in
    none ∙ ap (λ (b : Bool). n + cond b 1 0) (sym (ne_eqb x v ne))

one_more : (x v n : ℕ) → x ≡ v → n + cond (eqb x v) 1 0 ≡ n + 1
one_more x v n e = ap (λ (b : Bool). n + cond b 1 0) (eq-eqb x v e)

-- tallies after one number more
counted_on : (x n : ℕ) (f g : ℕ → ℕ) → ((v : ℕ) → g v ≡ f v + cond (eqb x v) 1 0) → (b : Bool)
    → (nat_lt 0 x && nat_lt (x - 1) (length (map f (range_with_len 1 n)))) ≡ b
    → (if b then set (map f (range_with_len 1 n)) (x - 1) (slice_index_or (map f (range_with_len 1 n)) (x - 1) 0 + 1) else map f (range_with_len 1 n))
    ≡ map g (range_with_len 1 n)
counted_on x n f g more true e =
    let xs = map f (range_with_len 1 n) in
    let parts = and_parts (nat_lt 0 x) (nat_lt (x - 1) (length xs)) e in
    let low : 0 < x = ltb-true 0 x parts.0 in
    let long : length xs ≡ n = length-map-range_with_len f 1 n in
    let inside : x - 1 < n = omega (arith, ltb-true (x - 1) (length xs) parts.1, long) in
    let here : 1 + (x - 1) ≡ x = omega (arith, low) in
    let read : slice_index_or xs (x - 1) 0 ≡ f (1 + (x - 1)) = get_or-map-range_with_len f 1 n (x - 1) (1 + (x - 1)) 0 inside refl in
    let new : slice_index_or xs (x - 1) 0 + 1 ≡ g (1 + (x - 1)) =
    ap (λ (y : ℕ). y + 1) read ∙ sym (one_more x (1 + (x - 1)) (f (1 + (x - 1))) (sym here)) ∙ sym (more (1 + (x - 1))) in
    ap (set xs (x - 1)) new
    ∙ set_on f g 1 n (x - 1) inside (λ v above below ne. none_more x v (f v) (λ same. ne (omega (arith, same, here))) ∙ sym (more v))
counted_on x n f g more false e =
    let xs = map f (range_with_len 1 n) in
    let long : length xs ≡ n = length-map-range_with_len f 1 n in
    same_on f g 1 n
    (λ v above below.
    none_more x v (f v)
    (λ same.
    let first : nat_lt 0 x ≡ true = lt-ltb 0 x (omega (arith, same, above)) in
    let second : nat_lt (x - 1) (length xs) ≡ true = lt-ltb (x - 1) (length xs) (omega (arith, same, above, below, long)) in
    true≢false (sym (ap₂ (λ (c d : Bool). c && d) first second) ∙ e))
    ∙ sym (more v))

pub counted_next : (xs : List ℕ) (i n d : ℕ) → i < length xs
    → counted_once (slice_index_or xs i d) (map (times_in (take i xs)) (range_with_len 1 n)) ≡ map (times_in (take (i + 1) xs)) (range_with_len 1 n)
counted_next xs i n d inside =
    counted_on (slice_index_or xs i d) n (times_in (take i xs)) (times_in (take (i + 1) xs))
    (λ v. length-filter_more (λ (m : ℕ). m == v) xs i d inside) _ refl

-- no number is counted more often than there are numbers
times_few : (xs : List ℕ) (v : ℕ) → times_in xs v ≤ length xs
times_few [] v = omega arith
times_few (x ∷ xs) v = go (x == v) (filter (λ (n : ℕ). n == v) xs) (times_few xs v)
  where
    go : (b : Bool) (ys : List ℕ) → length ys ≤ length xs → length (if b then x ∷ ys else ys) ≤ suc (length xs)
    go true ys h = omega (arith, h)
    go false ys h = omega (arith, h)

pub tallies_few : (xs : List ℕ) (i n limit : ℕ) → i < limit → i ≤ length xs → All (λ count. count < limit) (map (times_in (take i xs)) (range_with_len 1 n))
tallies_few xs i n limit inside short =
    All-from_get_or (λ count. count < limit) (map (times_in (take i xs)) (range_with_len 1 n)) 0
    (λ j below.
    let long : length (map (times_in (take i xs)) (range_with_len 1 n)) ≡ n = length-map-range_with_len (times_in (take i xs)) 1 n in
    let read = get_or-map-range_with_len (times_in (take i xs)) 1 n j (1 + j) 0 (omega (arith, below, long)) refl in
    omega (arith, read, times_few (take i xs) (1 + j), length-take-le i xs short, inside))

pub tallies_none : (n : ℕ) → replicate n 0 ≡ map (times_in []) (range_with_len 1 n)
tallies_none n = go 1 n
  where
    go : (a n : ℕ) → replicate n 0 ≡ map (times_in []) (range_with_len a n)
    go a zero = refl
    go a (suc n) = ap (λ (xs : List ℕ). 0 ∷ xs) (go (a + 1) n)

-- ---- whether numbers stand in lists

-- a number stands in a list if it stands there some times
some_times : (ms : List ℕ) (v : ℕ) → nat_lt 0 (times_in ms v) ≡ in_list ms v
some_times [] v = refl
some_times (m ∷ ms) v = go (m == v) (some_times ms v)
  where
    go : (b : Bool) → nat_lt 0 (times_in ms v) ≡ in_list ms v
        → nat_lt 0 (length (if b then m ∷ filter (λ (n : ℕ). n == v) ms else filter (λ (n : ℕ). n == v) ms)) ≡ (b || in_list ms v)
    go true later = lt-ltb 0 (length (m ∷ filter (λ (n : ℕ). n == v) ms)) (omega arith)
    go false later = later

pub stands_by_times : (ms times : List ℕ) (v : ℕ) → times ≡ map (times_in ms) (range_with_len 1 (length times)) → 0 < v → v ≤ length times
    → nat_lt 0 (slice_index_or times (v - 1) 0) ≡ in_list ms v
stands_by_times ms times v e low high =
    let here : 1 + (v - 1) ≡ v = omega (arith, low) in
    ap (λ xs. nat_lt 0 (slice_index_or xs (v - 1) 0)) e
    ∙ ap (nat_lt 0) (get_or-map-range_with_len (times_in ms) 1 (length times) (v - 1) v 0 (omega (arith, low, high)) here)
    ∙ some_times ms v

pub times_long : (f : ℕ → ℕ) (n : ℕ) (times : List ℕ) → times ≡ map f (range_with_len 1 n) → times ≡ map f (range_with_len 1 (length times))
times_long f n times e = e ∙ ap (λ k. map f (range_with_len 1 k)) (sym (ap length e ∙ length-map-range_with_len f 1 n))
