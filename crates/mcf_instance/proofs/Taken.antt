-- A good line taken into the state of the lines before it.
use Rattle.std.proofs.Common.{◌≡◌, ℕ, zero, suc, ◌+◌, ◌-◌, ◌≤◌, Bool, true, false, cond, ◌&&◌, ◌||◌, List, [], ◌∷◌, ◌++◌, map, refl, sym, ◌∙◌, ap, subst, Some}
use Rattle.std.proofs.Common.{None}
use Rattle.std.proofs.Common.{arith}
use Rattle.std.specs.Prelude.{Option, ℤ, pos, neg_ℤ, filter, find, slice_set, ◌==◌, ◌≢◌, replicate}
use Rattle.std.specs.List.{list_any, range_with_len}
use Rattle.std.specs.Option.{option_or, option_map_or}
use Rattle.std.proofs.Math.Bool.{or-false}
use Rattle.std.proofs.lemmas.Bool.{eq-eqb, ne_eqb, or_right}
use Rattle.std.proofs.lemmas.List.{append-nil, map-append}
use Rattle.std.proofs.lemmas.List.Elements.{filter-append}
use Rattle.std.proofs.lemmas.List.Folds.{list_any-append, find-append}
use Rattle.mcf_flows.specs.declared.problem.Problem.{Problem as Format}
use Rattle.mcf_flows.specs.declared.problem.Problem.TheVariants.{Min, Asn}
use Rattle.mcf_text.specs.Row.{Row, node, number}
use Rattle.mcf_instance.specs.declared.reader.line.Header.{Header}
use Rattle.mcf_instance.specs.Fault.{is_p, is_n, is_a, is_min, has_p, header, header_of, no_header, is_listed, of_min, has_field_count, has_numbers}
use Rattle.mcf_instance.specs.Fault.{is_counted, line_weight, total_of}
use Rattle.mcf_flows.specs.Packed.{unpacked}
use Rattle.mcf_instance.specs.Reading.{arc_of, supply_of}
use Rattle.mcf_instance.specs.ReadOn.{header_seen, Holds, StateData}
use Rattle.mcf_instance.proofs.ArcLines.{packed}
use Rattle.mcf_instance.specs.declared.reader.line.Item.TheVariants.{Problem, Supply, Link}
use Rattle.mcf_instance.specs.Private.ReaderState.{with_item, default_supply}
use Rattle.mcf_flows.specs.WellFormed.{weight}
use Rattle.mcf_instance.proofs.Totals.{total-append_counted, total-append_other}

option_or_none : {X : Type 0} (o : Option X) → option_or o None ≡ o
option_or_none None = refl
option_or_none (Some x) = refl

-- ---- a line that is no problem line

pub header-append_other : (lines : List Row) (row : Row) → is_p row ≡ false → header (lines ++ row ∷ []) ≡ header lines
header-append_other lines row e =
    ap (λ o. option_map_or header_of o no_header) (find-append is_p lines (row ∷ []) ∙ ap (λ b. option_or (find is_p lines) (cond b (Some row) None)) e
    ∙ option_or_none (find is_p lines))

pub has_p-append_other : (lines : List Row) (row : Row) → is_p row ≡ false → has_p (lines ++ row ∷ []) ≡ has_p lines
has_p-append_other lines row e = list_any-append is_p lines (row ∷ []) ∙ ap (λ b. has_p lines || (b || false)) e ∙ or-false (has_p lines)

header_seen-append_other : (lines : List Row) (row : Row) → is_p row ≡ false → header_seen (lines ++ row ∷ []) ≡ header_seen lines
header_seen-append_other lines row e = rw (has_p-append_other lines row e, header-append_other lines row e) refl

-- what filters to nothing adds nothing
filter-append_other : {X : Type 0} (p : X → Bool) (xs : List X) (x : X) → p x ≡ false → filter p (xs ++ x ∷ []) ≡ filter p xs
filter-append_other p xs x e = filter-append p xs (x ∷ []) ∙ ap (λ b. filter p xs ++ cond b (x ∷ []) []) e ∙ append-nil (filter p xs)

filter-append_one : {X : Type 0} (p : X → Bool) (xs : List X) (x : X) → p x ≡ true → filter p (xs ++ x ∷ []) ≡ filter p xs ++ x ∷ []
filter-append_one p xs x e = filter-append p xs (x ∷ []) ∙ ap (λ b. filter p xs ++ cond b (x ∷ []) []) e

-- ---- tables

map_alike : {X : Type 0} (f g : ℕ → X) (a n : ℕ) → ((w : ℕ) → a ≤ w → f w ≡ g w) → map f (range_with_len a n) ≡ map g (range_with_len a n)
map_alike f g a zero h = refl
map_alike f g a (suc n) h = λ i. h a (omega arith) i ∷ map_alike f g (a + 1) n (λ w p. h w (omega arith)) i

-- a table with one entry set
pub set_table : {X : Type 0} (f g : ℕ → X) (a n k : ℕ) (x : X) → g (a + k) ≡ x → ((w : ℕ) → w ≢ a + k → f w ≡ g w)
    → slice_set (map f (range_with_len a n)) k x ≡ map g (range_with_len a n)
set_table f g a zero k x e h = refl
set_table f g a (suc n) zero x e h =
    let first : a + 0 ≡ a = omega arith in
    λ i. (sym e ∙ ap g first) i ∷ map_alike f g (a + 1) n (λ w p. h w (λ q. absurd (omega arith))) i
set_table f g a (suc n) (suc k) x e h =
    let next : a + 1 + k ≡ a + suc k = omega arith in
    λ i. h a (λ q. absurd (omega arith)) i ∷ set_table f g (a + 1) n k x (ap g next ∙ e) (λ w p. h w (λ q. p (q ∙ sym next))) i

-- ---- what the node lines say

is_listed_alike : (lines more : List Row) → filter is_n more ≡ filter is_n lines → (v : ℕ) → is_listed more v ≡ is_listed lines v
is_listed_alike lines more e v = ap (λ ns. list_any (λ w. w == v) (map (λ row. node row 1) ns)) e

supply_alike : (f : Format) (lines more : List Row) → filter is_n more ≡ filter is_n lines → (v : ℕ) → supply_of f more v ≡ supply_of f lines v
supply_alike Min lines more e v = ap (λ ns. option_map_or (λ row. number row 2) (find (λ row. node row 1 == v) ns) (pos 0)) e
supply_alike Asn lines more e v = ap (λ b. cond b (pos 1) (neg_ℤ (pos 1))) (is_listed_alike lines more e v)

-- ---- the total

of_min-append_other : (lines : List Row) (row : Row) → is_p row ≡ false → of_min (lines ++ row ∷ []) ≡ of_min lines
of_min-append_other lines row p = ap (λ (h : Header). is_min h.problem) (header-append_other lines row p)

-- no other line than an arc line is counted
not_counted : (lines : List Row) (row : Row) → is_a row ≡ false → is_counted lines row ≡ false
not_counted lines row a = ap (λ b. b && of_min lines && has_p lines && has_field_count lines row && has_numbers row) a

weight_of_min : (f : Format) (row : Row) → is_min f ≡ true → weight (arc_of f row) ≡ line_weight row
weight_of_min Min row e = refl
weight_of_min Asn row e = cc

-- ---- an arc line

pub holds_link : (s : StateData) (lines : List Row) (row : Row) → Holds s lines → s.header ≢ None → is_p row ≡ false → is_n row ≡ false → is_a row ≡ true
    → (of_min lines ≡ true → is_counted lines row ≡ true)
    → Holds (with_item s (Link (packed (arc_of (header lines).problem row)))) (lines ++ row ∷ [])
holds_link s lines row h some p n a counted =
    let nodes = filter-append_other is_n lines row n in
    record {
      first_is_header = λ none. absurd (some none);
      header_is = h.header_is ∙ sym (header_seen-append_other lines row p);
      listed_is = rw (header-append_other lines row p) (h.listed_is ∙ map_alike _ _ 1 _ (λ v _. sym (is_listed_alike lines (lines ++ row ∷ []) nodes v)));
      supplies_are = rw (header-append_other lines row p) (h.supplies_are ∙ map_alike _ _ 1 _ (λ v _. sym (supply_alike _ lines (lines ++ row ∷ []) nodes v)));
      arcs_are = rw (
        header-append_other lines row p,
        filter-append_one is_a lines row a,
        map-append
            (arc_of (header lines).problem),
        map-append unpacked s.arcs,
        h.arcs_are,
      ) refl;
      total_is = λ min.
          let same : of_min lines ≡ true = sym (of_min-append_other lines row p) ∙ min in
          ap (λ t. t + weight (arc_of (header lines).problem row)) (h.total_is same)
          ∙ ap (λ w. total_of lines + w) (weight_of_min (header lines).problem row same)
          ∙ sym (total-append_counted lines row (counted same));
    }

-- ---- a node line

-- its node is listed, and each other as before
listed_more : (lines : List Row) (row : Row) → is_n row ≡ true → (w : ℕ) → is_listed (lines ++ row ∷ []) w ≡ (is_listed lines w || (node row 1 == w || false))
listed_more lines row n w =
    ap (λ ns. list_any (λ x. x == w) (map (λ r. node r 1) ns)) (filter-append_one is_n lines row n)
    ∙ ap (list_any (λ x. x == w)) (map-append (λ r. node r 1) (filter is_n lines) (row ∷ []))
    ∙ list_any-append (λ x. x == w) (map (λ r. node r 1) (filter is_n lines)) (node row 1 ∷ [])

listed_other : (lines : List Row) (row : Row) → is_n row ≡ true → (w : ℕ) → w ≢ node row 1 → is_listed lines w ≡ is_listed (lines ++ row ∷ []) w
listed_other lines row n w h = sym (listed_more lines row n w ∙ ap (λ b. is_listed lines w || (b || false)) (ne_eqb (node row 1) w (λ e. h (sym e)))
    ∙ or-false (is_listed lines w))

listed_here : (lines : List Row) (row : Row) → is_n row ≡ true → is_listed (lines ++ row ∷ []) (node row 1) ≡ true
listed_here lines row n = listed_more lines row n (node row 1) ∙ ap (λ b. is_listed lines (node row 1) || (b || false)) (eq-eqb (node row 1) (node row 1) refl)
    ∙ or_right (is_listed lines (node row 1)) true refl

-- no node line of a node that isn't listed
not_found : (rows : List Row) (v : ℕ) → list_any (λ w. w == v) (map (λ row. node row 1) rows) ≡ false → find (λ row. node row 1 == v) rows ≡ None
not_found [] v e = refl
not_found (row ∷ rows) v e = go (node row 1 == v) refl (not_found rows v)
  where
    go : (b : Bool) → (node row 1 == v) ≡ b → (list_any (λ w. w == v) (map (λ r. node r 1) rows) ≡ false → find (λ r. node r 1 == v) rows ≡ None)
        → find (λ r. node r 1 == v) (row ∷ rows) ≡ None
    go true f others = cc (sym (ap (λ b. b || list_any (λ w. w == v) (map (λ r. node r 1) rows)) f) ∙ e)
    go false f others = ap (λ b. cond b (Some row) (find (λ r. node r 1 == v) rows)) f ∙ others
        (sym (ap (λ b. b || list_any (λ w. w == v) (map (λ r. node r 1) rows)) f) ∙ e)

supply_found : (lines : List Row) (row : Row) (w : ℕ) → is_n row ≡ true → supply_of Min (lines ++ row ∷ []) w ≡ option_map_or (λ r. number r 2)
    (option_or (find (λ r. node r 1 == w) (filter is_n lines)) (cond (node row 1 == w) (Some row) None)) (pos 0)
supply_found lines row w n =
    ap (λ ns. option_map_or (λ r. number r 2) (find (λ r. node r 1 == w) ns) (pos 0)) (filter-append_one is_n lines row n)
    ∙ ap (λ o. option_map_or (λ r. number r 2) o (pos 0)) (find-append (λ r. node r 1 == w) (filter is_n lines) (row ∷ []))

-- the supply that a node line gives
abbrev pub supply_said : Format → Row → ℤ
supply_said Min row = number row 2
supply_said Asn row = pos 1

supply_here : (f : Format) (lines : List Row) (row : Row) → is_n row ≡ true → is_listed lines (node row 1) ≡ false
    → supply_of f (lines ++ row ∷ []) (node row 1) ≡ supply_said f row
supply_here Min lines row n e =
    supply_found lines row (node row 1) n
    ∙ ap (λ o. option_map_or (λ r. number r 2) (option_or o (cond (node row 1 == node row 1) (Some row) None)) (pos 0))
    (not_found (filter is_n lines) (node row 1) e)
    ∙ ap (λ b. option_map_or (λ r. number r 2) (cond b (Some row) None) (pos 0)) (eq-eqb (node row 1) (node row 1) refl)
supply_here Asn lines row n e = ap (λ b. cond b (pos 1) (neg_ℤ (pos 1))) (listed_here lines row n)

supply_other : (f : Format) (lines : List Row) (row : Row) → is_n row ≡ true → (w : ℕ) → w ≢ node row 1
    → supply_of f lines w ≡ supply_of f (lines ++ row ∷ []) w
supply_other Min lines row n w h =
    sym (supply_found lines row w n
    ∙ ap (λ b. option_map_or (λ r. number r 2) (option_or (find (λ r. node r 1 == w) (filter is_n lines)) (cond b (Some row) None)) (pos 0))
    (ne_eqb (node row 1) w (λ e. h (sym e)))
    ∙ ap (λ o. option_map_or (λ r. number r 2) o (pos 0)) (option_or_none (find (λ r. node r 1 == w) (filter is_n lines))))
supply_other Asn lines row n w h = ap (λ b. cond b (pos 1) (neg_ℤ (pos 1))) (listed_other lines row n w h)

pub holds_supply : (s : StateData) (lines : List Row) (row : Row) → Holds s lines → s.header ≢ None → is_p row ≡ false → is_n row ≡ true → is_a row ≡ false
    → 1 ≤ node row 1 → is_listed lines (node row 1) ≡ false
    → Holds (with_item s (Supply (node row 1) (supply_said (header lines).problem row))) (lines ++ row ∷ [])
holds_supply s lines row h some p n a low e =
    let place : 1 + (node row 1 - 1) ≡ node row 1 = omega arith in
    record {
      first_is_header = λ none. absurd (some none);
      header_is = h.header_is ∙ sym (header_seen-append_other lines row p);
      listed_is = rw (header-append_other lines row p, h.listed_is) (set_table (is_listed lines) (is_listed (lines ++ row ∷ [])) 1 _ (node row 1 - 1) true
          (ap (is_listed (lines ++ row ∷ [])) place ∙ listed_here lines row n) (λ w q. listed_other lines row n w (λ r. q (r ∙ sym place))));
      supplies_are = rw (header-append_other lines row p, h.supplies_are) (set_table (supply_of (header lines).problem lines)
          (supply_of (header lines).problem (lines ++ row ∷ [])) 1 _ (node row 1 - 1) (supply_said (header lines).problem row)
          (ap (supply_of (header lines).problem (lines ++ row ∷ [])) place ∙ supply_here (header lines).problem lines row n e)
          (λ w q. supply_other (header lines).problem lines row n w (λ r. q (r ∙ sym place))));
      arcs_are = rw (header-append_other lines row p, filter-append_other is_a lines row a) h.arcs_are;
      total_is = λ min. h.total_is (sym (of_min-append_other lines row p) ∙ min) ∙ sym (total-append_other lines row (not_counted lines row a));
    }

-- ---- a problem line

replicate_table : {X : Type 0} (f : ℕ → X) (x : X) (a n : ℕ) → ((w : ℕ) → f w ≡ x) → replicate n x ≡ map f (range_with_len a n)
replicate_table f x a zero h = refl
replicate_table f x a (suc n) h = λ i. sym (h a) i ∷ replicate_table f x (a + 1) n h i

supply_none : (f : Format) (row : Row) → is_n row ≡ false → (w : ℕ) → supply_of f (row ∷ []) w ≡ default_supply f
supply_none Min row n w = ap (λ b. option_map_or (λ r. number r 2) (find (λ r. node r 1 == w) (cond b (row ∷ []) [])) (pos 0)) n
supply_none Asn row n w = ap (λ c. cond (list_any (λ x. x == w) (map (λ r. node r 1) (cond c (row ∷ []) []))) (pos 1) (neg_ℤ (pos 1))) n

holds_first : (s : StateData) (row : Row) → Holds s [] → is_p row ≡ true → is_n row ≡ false → is_a row ≡ false
    → Holds (with_item s (Problem (header_of row))) (row ∷ [])
holds_first s row h p n a =
    let is : header (row ∷ []) ≡ header_of row = ap (λ b. option_map_or header_of (cond b (Some row) None) no_header) p in
    record {
      first_is_header = λ none. absurd cc;
      header_is = rw is (ap (λ b. cond (b || false) (Some (header_of row)) None) (sym p));
      listed_is = rw is (replicate_table (is_listed (row ∷ [])) false 1 _
          (λ w. ap (λ b. list_any (λ x. x == w) (map (λ r. node r 1) (cond b (row ∷ []) []))) n));
      supplies_are = rw is (replicate_table (supply_of (header_of row).problem (row ∷ [])) (default_supply (header_of row).problem) 1 _
          (supply_none (header_of row).problem row n));
      arcs_are = rw is (h.arcs_are ∙ ap (λ b. map (arc_of (header_of row).problem) (cond b (row ∷ []) [])) (sym a));
      total_is = λ _. h.total_is refl ∙ sym (total-append_other [] row (not_counted [] row a));
    }

pub holds_problem : (s : StateData) (lines : List Row) (row : Row) → Holds s lines → s.header ≡ None → is_p row ≡ true → is_n row ≡ false → is_a row ≡ false
    → Holds (with_item s (Problem (header_of row))) (lines ++ row ∷ [])
holds_problem s lines row h none p n a =
    let empty : lines ≡ [] = h.first_is_header none in
    subst (λ ls. Holds (with_item s (Problem (header_of row))) (ls ++ row ∷ [])) (sym empty) (holds_first s row (subst (Holds s) empty h) p n a)
