-- Which names differ from all before them.
use Rattle.std.proofs.Common.{◌≡◌, ℕ, zero, suc, ◌+◌, ◌<◌, Bool, true, false, cond, List, [], ◌∷◌, ◌++◌, length, map, take, get_or, Some, None, refl, sym, ap, ◌∙◌, arith, length-take, append-nil, inl, inr}
use Rattle.std.specs.Prelude.{Option, filter, nat_eq, position}
use Rattle.std.specs.List.{list_any, range_with_len}
use Rattle.std.specs.Option.{option_eq, option_map}
use Rattle.std.specs.Str.{bytes_eq}
use Rattle.std.proofs.lemmas.Bool.{cases_Bool, eq-eqb, eqb-true, false_from_ne_true, false≢true, not-false, not-true}
use Rattle.std.proofs.lemmas.List.{get_or-take, map-append}
use Rattle.std.proofs.lemmas.List.Elements.{All-from_get_or, filter-append}
use Rattle.std.proofs.lemmas.List.Folds.{list_any_at, list_any_none}
use Rattle.std.proofs.lemmas.List.Quantifiers.{position-Some}
use Rattle.std.proofs.lemmas.Slice.Eq.{bytes_eq-Decides}
use Rattle.mcf_names.specs.Names.{is_first, name_at, number_of}
use Rattle.mcf_names.proofs.IndexLemmas.{position_is}

placed_before : (o : Option ℕ) (place : ℕ) → option_map (λ p. p + 1) o ≡ Some (place + 1) → o ≡ Some place
placed_before None place is = cc
placed_before (Some p) place is = let same : p + 1 ≡ place + 1 = cc in let at : p ≡ place = omega (arith, same) in ap Some at

pub first_number : (names : List (List ℕ)) (place : ℕ) → place < length names → is_first names place ≡ true
    → number_of (name_at names place) names ≡ Some (place + 1)
first_number names place below hit =
    let name = name_at names place in
    let test : List ℕ → Bool = λ other. bytes_eq other name in
    let none : list_any test (take place names) ≡ false = not-true (list_any test (take place names)) hit in
    ap (option_map (λ p. p + 1))
    (position_is test names place [] below
    (λ k before. false_from_ne_true (test (get_or names k []))
    (λ is. (let inside : k < length (take place names) = omega (arith, before, below, length-take place names) in
    false≢true (sym none ∙ list_any_at test (take place names) k [] inside (ap test (get_or-take place names k [] before) ∙ is)))))
    ((bytes_eq-Decides name name).1 refl))

pub later_number : (names : List (List ℕ)) (place : ℕ) → place < length names → is_first names place ≡ false
    → ¬ (number_of (name_at names place) names ≡ Some (place + 1))
later_number names place below miss is =
    let name = name_at names place in
    let test : List ℕ → Bool = λ other. bytes_eq other name in
    let found = position-Some test names place [] (placed_before (position test names) place is) in
    let none : list_any test (take place names) ≡ false =
    list_any_none test (take place names)
    (All-from_get_or (λ (other : List ℕ). test other ≡ false) (take place names) []
    (λ k inside. (let before : k < place = omega (arith, inside, length-take place names) in
    ap test (get_or-take place names k [] before) ∙ found.2 k before))) in
    false≢true (sym none ∙ not-false (list_any test (take place names)) miss)

same_number : (o : Option ℕ) (n : ℕ) → option_eq nat_eq o (Some n) ≡ true → o ≡ Some n
same_number None n same = cc
same_number (Some m) n same = ap Some (eqb-true m n same)

pub first_by_number : (names : List (List ℕ)) (place : ℕ) (name : List ℕ) (number : Option ℕ) (same : Bool) → place < length names
    → name ≡ name_at names place → number ≡ number_of name names → same ≡ option_eq nat_eq number (Some (place + 1))
    → same ≡ is_first names place
first_by_number names place name number same below at is test =
    let found : number ≡ number_of (name_at names place) names = is ∙ ap (λ (n : List ℕ). number_of n names) at in
    elim (cases_Bool (is_first names place)) [
      | inl first ↦
          test ∙ ap (λ (o : Option ℕ). option_eq nat_eq o (Some (place + 1))) (found ∙ first_number names place below first)
          ∙ eq-eqb (place + 1) (place + 1) refl ∙ sym first
      | inr later ↦
          false_from_ne_true same
          (λ hit. later_number names place below later (sym found ∙ same_number number (place + 1) (sym test ∙ hit)))
          ∙ sym later
    ]

range_more : (first count : ℕ) → range_with_len first (suc count) ≡ range_with_len first count ++ (first + count) ∷ []
range_more first zero = (let same : first ≡ first + 0 = omega arith in ap (λ (n : ℕ). n ∷ []) same)
range_more first (suc count) =
    (let same : first + 1 + count ≡ first + suc count = omega arith in
    ap (λ (ns : List ℕ). first ∷ ns) (range_more (first + 1) count ∙ ap (λ (n : ℕ). range_with_len (first + 1) count ++ n ∷ []) same))

range_next : (count : ℕ) → range_with_len 0 (count + 1) ≡ range_with_len 0 count ++ count ∷ []
range_next count =
    (let more : count + 1 ≡ suc count = omega arith in
    let same : 0 + count ≡ count = omega arith in
    ap (range_with_len 0) more ∙ range_more 0 count ∙ ap (λ (n : ℕ). range_with_len 0 count ++ n ∷ []) same)

-- the distinct names among those in front of a place
abbrev pub distinct_to : List (List ℕ) → ℕ → List (List ℕ)
distinct_to names place = map (name_at names) (filter (is_first names) (range_with_len 0 place))

distinct_next : (names : List (List ℕ)) (place : ℕ)
    → distinct_to names (place + 1) ≡ distinct_to names place ++ map (name_at names) (filter (is_first names) (place ∷ []))
distinct_next names place =
    ap (λ (places : List ℕ). map (name_at names) (filter (is_first names) places)) (range_next place)
    ∙ ap (map (name_at names)) (filter-append (is_first names) (range_with_len 0 place) (place ∷ []))
    ∙ map-append (name_at names) (filter (is_first names) (range_with_len 0 place)) (filter (is_first names) (place ∷ []))

pub distinct_hit : (names kept : List (List ℕ)) (place : ℕ) → is_first names place ≡ true → kept ≡ distinct_to names place
    → kept ++ name_at names place ∷ [] ≡ distinct_to names (place + 1)
distinct_hit names kept place hit is =
    ap (λ (ns : List (List ℕ)). ns ++ name_at names place ∷ []) is
    ∙ sym (distinct_next names place
    ∙ ap (λ (b : Bool). distinct_to names place ++ map (name_at names) (cond b (place ∷ []) [])) hit)

pub distinct_miss : (names kept : List (List ℕ)) (place : ℕ) → is_first names place ≡ false → kept ≡ distinct_to names place
    → kept ≡ distinct_to names (place + 1)
distinct_miss names kept place miss is =
    is
    ∙ sym (distinct_next names place
    ∙ ap (λ (b : Bool). distinct_to names place ++ map (name_at names) (cond b (place ∷ []) [])) miss
    ∙ append-nil (distinct_to names place))
