-- Which number a name has, by the names in order.
use Rattle.std.proofs.Common.{◌≡◌, ℕ, ◌+◌, ◌<◌, ◌≤◌, Bool, true, false, cond, ltb, List, [], ◌∷◌, ◌++◌, length, map, get_or, All, Some, None, sym, ap, subst, ◌∙◌, arith, inl, inr}
use Rattle.std.specs.Prelude.{position}
use Rattle.std.specs.Borrow.{Bor}
use Rattle.std.specs.Cmp.Lexicographic.{slice_cmp}
use Rattle.std.specs.List.{list_any, position_or_len}
use Rattle.std.specs.List.Sorted.{IsPartitionPoint, IsPermutation}
use Rattle.std.specs.Option.{option_map}
use Rattle.std.specs.Ordering.{is_lt, nat_cmp}
use Rattle.std.specs.Str.{bytes_eq}
use Rattle.std.proofs.lemmas.Bool.{cases_lt, eq-eqb, eqb-true, false_from_ne_true, false≢true, le-ltb, lt-ltb, or_left, or_right}
use Rattle.std.proofs.lemmas.List.{get_or_default, get_or-map}
use Rattle.std.proofs.lemmas.List.Elements.{All-nil, All-push}
use Rattle.std.proofs.lemmas.List.Folds.{Any-from_list_any, list_any-append}
use Rattle.std.proofs.lemmas.List.Sorted.{All-permutation, list_any-IsPermutation}
use Rattle.std.proofs.lemmas.List.Sums.{position_or_len_is}
use Rattle.std.proofs.lemmas.Slice.Eq.{bytes_eq-Decides}
use Rattle.mcf_names.specs.Names.{name_at, number_of}
use Rattle.mcf_names.specs.Private.Index.{ArePlaced, IsIndex, IsPlaced, is_below, is_of, placed_cmp}
use Rattle.mcf_names.specs.declared.sorted.Placed.{Placed}
use Rattle.mcf_names.proofs.OrderLemmas.{first_not, in_order, itself, later_place, same_name}

pub position_is : {X : Type 0} (test : X → Bool) (xs : List X) (i : ℕ) (d : X) → i < length xs
    → ((k : ℕ) → k < i → test (get_or xs k d) ≡ false) → test (get_or xs i d) ≡ true → position test xs ≡ Some i
position_is {X} test xs i d inside none here =
    let at : position_or_len test xs ≡ i = position_or_len_is test xs i d (omega (arith, inside)) none (λ _. here) in
    ap (λ (n : ℕ). cond (ltb n (length xs)) (Some n) None) at ∙ ap (λ (b : Bool). cond b (Some i) None) (lt-ltb i (length xs) inside)

pub position_nowhere : {X : Type 0} (test : X → Bool) (xs : List X) (d : X)
    → ((k : ℕ) → k < length xs → test (get_or xs k d) ≡ false) → position test xs ≡ None
position_nowhere {X} test xs d none =
    let n = length xs in
    let at : position_or_len test xs ≡ n = position_or_len_is test xs n d (omega arith) none (λ past. absurd (omega (arith, past))) in
    ap (λ (m : ℕ). cond (ltb m n) (Some m) None) at ∙ ap (λ (b : Bool). cond b (Some n) None) (le-ltb n n (omega arith))

-- the entries after a sort
pub placed_sorted : (names : List (List ℕ)) (entries sorted : List Placed) → IsPermutation entries sorted → ArePlaced names entries
    → ArePlaced names sorted
placed_sorted names entries sorted moved are =
    record {
      placed = All-permutation (IsPlaced names) entries sorted moved are.placed;
      each = λ place below. sym (list_any-IsPermutation (is_of place) entries sorted moved) ∙ are.each place below;
    }

-- the entries of the places below a number
pub record ArePlacedTo (names : List (List ℕ)) (place : ℕ) (entries : List Placed) : Type 0 where
  pub placed : All (IsPlaced names) entries
  pub each : (k : ℕ) → k < place → list_any (is_of k) entries ≡ true

pub placed_none : (names : List (List ℕ)) → ArePlacedTo names 0 []
placed_none names = record { placed = All-nil (IsPlaced names); each = λ k below. absurd (omega (arith, below)) }

pub placed_more : (names : List (List ℕ)) (place : ℕ) (entries more : List Placed) (entry : Placed) → ArePlacedTo names place entries
    → place < length names → get_or names place [] ≡ entry.name.now → entry.place ≡ place → more ≡ entries ++ entry ∷ []
    → ArePlacedTo names (place + 1) more
placed_more names place entries more entry are below name at longer =
    let is : IsPlaced names entry = (rw at below, ap (λ (k : ℕ). get_or names k []) at ∙ name) in
    subst (ArePlacedTo names (place + 1)) (sym longer)
    (record {
      placed = All-push (IsPlaced names) entries entry are.placed is;
      each = λ k less. elim (cases_lt k place) [
        | inl lt ↦ list_any-append (is_of k) entries (entry ∷ []) ∙ or_left _ _ (are.each k lt)
        | inr past ↦
            (let same : entry.place ≡ k = omega (arith, at, past, less) in
            list_any-append (is_of k) entries (entry ∷ []) ∙ or_right _ _ (or_left _ _ (eq-eqb entry.place k same)))
      ];
    })

pub placed_all : (names : List (List ℕ)) (place : ℕ) (entries : List Placed) → ArePlacedTo names place entries → length names ≤ place
    → ArePlaced names entries
placed_all names place entries are past = record { placed = are.placed; each = λ k below. are.each k (omega (arith, past, below)) }

pub borrowed_at : (names : List (Bor (List ℕ))) (place : ℕ) (name : Bor (List ℕ)) → place < length names → name ≡ get_or names place name
    → get_or (map (λ (n : Bor (List ℕ)). n.now) names) place [] ≡ name.now
borrowed_at names place name below is =
    get_or-map (λ (n : Bor (List ℕ)). n.now) names place name [] below ∙ ap (λ (n : Bor (List ℕ)). n.now) (sym is)

-- the entries in front of this place are below the name, and no other is
abbrev pub Parts : List Placed → List ℕ → ℕ → Type 0
Parts sorted name point = IsPartitionPoint (λ placed. is_below name placed ≡ true) (λ placed. is_below name placed ≡ false) sorted point

-- the entry at the point has the name, and its place isn't after this one
record Leads (sorted : List Placed) (name : List ℕ) (point place : ℕ) : Type 0 where
  inside : point < length sorted
  first : Placed
  first_is : first ≡ get_or sorted point first
  leads : (p : Placed) → p ≡ get_or sorted point p → (p.name.now ≡ name) × (p.place ≤ place)

leads : (names : List (List ℕ)) (sorted : List Placed) (name : List ℕ) (point place : ℕ) → IsIndex names sorted → Parts sorted name point
    → place < length names → bytes_eq (name_at names place) name ≡ true → Leads sorted name point place
leads names sorted name point place index parts below hit =
    let any = Any-from_list_any (is_of place) sorted (index.placed.each place below) in
    let j = any.0 in
    let entry = any.1 in
    let at : get_or sorted j entry ≡ entry = any.3 in
    let place_is : entry.place ≡ place = eqb-true entry.place place any.4 in
    let stands : IsPlaced names entry = subst (IsPlaced names) at (index.placed.placed j entry any.2) in
    let name_is : entry.name.now ≡ name =
    sym stands.1 ∙ ap (λ (k : ℕ). get_or names k []) place_is ∙ (bytes_eq-Decides (name_at names place) name).0 hit in
    let not_below : is_below name entry ≡ false = ap is_lt (itself entry.name.now name name_is) in
    let after : point ≤ j = elim (cases_lt j point) [
      | inl lt ↦ absurd (false≢true (sym not_below ∙ subst (λ (p : Placed). is_below name p ≡ true) at (parts.0 j entry (omega arith) lt)))
      | inr past ↦ past
    ] in
    let inside : point < length sorted = omega (arith, after, any.2) in
    record {
      inside = inside;
      first = get_or sorted point entry;
      first_is = get_or_default sorted point entry (get_or sorted point entry) inside;
      leads = λ p is.
          let here : get_or sorted point entry ≡ p = get_or_default sorted point entry p inside ∙ sym is in
          let order : is_lt (placed_cmp entry p) ≡ false =
          subst (λ (q : Placed). is_lt (placed_cmp entry q) ≡ false) here
          (subst (λ (q : Placed). is_lt (placed_cmp q (get_or sorted point entry)) ≡ false) at
          (in_order sorted point j entry index.ordered after any.2)) in
          let high : is_lt (slice_cmp nat_cmp p.name.now name) ≡ false =
          subst (λ (q : Placed). is_below name q ≡ false) here (parts.1 point entry (omega arith) inside) in
          let low : is_lt (slice_cmp nat_cmp name p.name.now) ≡ false =
          subst (λ (n : List ℕ). is_lt (slice_cmp nat_cmp n p.name.now) ≡ false) name_is (first_not _ (nat_cmp entry.place p.place) order) in
          let same : p.name.now ≡ name = same_name p.name.now name high low in
          (same, (let le : p.place ≤ entry.place = later_place entry p (name_is ∙ sym same) order in omega (arith, le, place_is)));
    }

pub number_found : (names : List (List ℕ)) (sorted : List Placed) (name : List ℕ) (point : ℕ) (p : Placed) → IsIndex names sorted
    → Parts sorted name point → point < length sorted → p ≡ get_or sorted point p → bytes_eq p.name.now name ≡ true
    → number_of name names ≡ Some (p.place + 1)
number_found names sorted name point p index parts inside is hit =
    let stands : IsPlaced names p = subst (IsPlaced names) (sym is) (index.placed.placed point p inside) in
    let here : bytes_eq (name_at names p.place) name ≡ true = ap (λ (n : List ℕ). bytes_eq n name) stands.1 ∙ hit in
    ap (option_map (λ place. place + 1))
    (position_is (λ other. bytes_eq other name) names p.place [] stands.0
    (λ k before. false_from_ne_true (bytes_eq (name_at names k) name)
    (λ same. (let more = (leads names sorted name point k index parts (omega (arith, before, stands.0)) same).leads p is in
    omega (arith, more.1, before))))
    here)

pub number_none : (names : List (List ℕ)) (sorted : List Placed) (name : List ℕ) (point : ℕ) → IsIndex names sorted
    → Parts sorted name point → ((p : Placed) → point < length sorted → p ≡ get_or sorted point p → bytes_eq p.name.now name ≡ false)
    → number_of name names ≡ None
number_none names sorted name point index parts other =
    ap (option_map (λ place. place + 1))
    (position_nowhere (λ n. bytes_eq n name) names []
    (λ k below. false_from_ne_true (bytes_eq (name_at names k) name) (λ same.
    let led = leads names sorted name point k index parts below same in
    false≢true (sym (other led.first led.inside led.first_is)
    ∙ (bytes_eq-Decides led.first.name.now name).1 (led.leads led.first led.first_is).0))))
