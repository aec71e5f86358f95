-- Cells of a sign, digits, a point and digits.
use Rattle.std.proofs.Common.{◌≡◌, ℕ, zero, suc, ◌+◌, ◌-◌, ◌*◌, ◌<◌, ◌≤◌, Bool, true, false, List, [], ◌∷◌, ◌++◌, length, take, drop, Some, ℤ, pos, negsuc, neg_ℤ, refl, sym, ap, ◌∙◌, arith, take_all, length-append}
use Rattle.std.specs.Prelude.{filter, nat_eq, ◌==◌, ◌&&◌, ◌||◌, ◌*ℤ◌, int_lt, unsigned_abs}
use Rattle.std.specs.Char.{is_ascii_digit}
use Rattle.std.specs.List.{list_all, position_or_len, suffix_len}
use Rattle.std.proofs.Math.IntN.{pos-*ℤ-pos, negsuc-*ℤ-pos}
use Rattle.std.proofs.Math.Seq.{take-append_seam}
use Rattle.std.proofs.lemmas.Bool.{and_from, le-leb, le-ltb, lt-ltb, ne_eqb, not_from_false}
use Rattle.std.proofs.lemmas.List.Elements.{filter-append}
use Rattle.mcf_text.specs.Whole.{digits_sum, is_numeral, signed_value}
use Rattle.mcf_decimal.specs.Groups.{is_digits}
use Rattle.mcf_decimal.specs.Marks.{is_byte_of}
use Rattle.mcf_decimal.specs.Numbers.{IsNumber, decimals, has_mark, is_number, is_open, is_whole_part, is_zero, whole_part}
use Rattle.mcf_decimal.specs.Signs.{has_plus, is_negative, minus_len, unsigned}
use Rattle.mcf_decimal.specs.declared.mark.Mark.TheVariants.{Point}
use Rattle.mcf_decimal.proofs.DigitLemmas.{in_range}
use Rattle.mcf_decimal.proofs.ValueLemmas.{made, size_of, value_is}
use Rattle.mcf_decimal.proofs.WholeCells.{filter_digits, digit_no_mark, all_digits}
use Rattle.std.proofs.lemmas.Bool.{and_parts}

pub digits_test : (ds : List ℕ) → list_all is_ascii_digit ds ≡ true → 0 < length ds → length ds ≤ 1000 → is_digits ds ≡ true
unfolding is_digits
digits_test ds all some few =
    and_from (is_numeral ds) _ (and_from _ _ (not_from_false _ (ne_eqb (length ds) 0 (λ e. omega (arith, e, some)))) all)
    (le-leb (length ds) 1000 few)

-- the point stands after the digits
point_at : (W D : List ℕ) → list_all is_ascii_digit W ≡ true → position_or_len (is_byte_of Point) (W ++ 46 ∷ D) ≡ length W
point_at [] D all = refl
point_at (d ∷ W) D all =
    let parts = and_parts (is_ascii_digit d) (list_all is_ascii_digit W) all in
    let here : is_byte_of Point d ≡ false = digit_no_mark Point d parts.0 in
    rw here (omega (arith, point_at W D parts.1))

whole_at : (W D : List ℕ) → list_all is_ascii_digit W ≡ true → whole_part Point (W ++ 46 ∷ D) ≡ W
unfolding whole_part
whole_at W D all = ap (λ (n : ℕ). take n (W ++ 46 ∷ D)) (point_at W D all) ∙ take-append_seam W (46 ∷ D)

drop_seam : (W D : List ℕ) → drop (length W + 1) (W ++ 46 ∷ D) ≡ D
drop_seam [] D = refl
drop_seam (d ∷ W) D = let e : length (d ∷ W) + 1 ≡ suc (length W + 1) = omega arith in rw e (drop_seam W D)

decimals_at : (W D : List ℕ) → list_all is_ascii_digit W ≡ true → decimals Point (W ++ 46 ∷ D) ≡ D
unfolding decimals
decimals_at W D all = ap (λ (n : ℕ). drop (n + 1) (W ++ 46 ∷ D)) (point_at W D all) ∙ drop_seam W D

has_at : (W D : List ℕ) → list_all is_ascii_digit W ≡ true → has_mark Point (W ++ 46 ∷ D) ≡ true
unfolding has_mark
has_at W D all =
    let long = length-append W (46 ∷ D) in
    lt-ltb (position_or_len (is_byte_of Point) (W ++ 46 ∷ D)) (length (W ++ 46 ∷ D)) (omega (arith, point_at W D all, long))

digits_are_whole : (W : List ℕ) → is_digits W ≡ true → is_whole_part Point W ≡ true
unfolding is_whole_part
digits_are_whole W is = rw is

or_and : (b : Bool) → ((b || true) && true) ≡ true
or_and true = refl
or_and false = refl

number_at : (cell W D : List ℕ) → W ++ 46 ∷ D ≡ unsigned cell → is_digits W ≡ true → is_digits D ≡ true → is_number Point cell ≡ true
unfolding is_number
number_at cell W D body is are =
    let all = all_digits W is in
    rw (← body, has_at W D all, whole_at W D all, decimals_at W D all, are, digits_are_whole W is)
    (or_and (length W == 0))

size_at : (W D : List ℕ) → is_digits W ≡ true → is_digits D ≡ true → size_of (W ++ 46 ∷ D) 0 ≡ digits_sum (W ++ D)
size_at W D is are =
    let body = W ++ 46 ∷ D in
    let same : take (length body - 0) body ≡ body = take_all (length body - 0) body (omega arith) in
    ap (λ (xs : List ℕ). digits_sum (filter is_ascii_digit xs)) same
    ∙ ap digits_sum (filter-append is_ascii_digit W (46 ∷ D))
    ∙ ap (λ (xs : List ℕ). digits_sum (xs ++ filter is_ascii_digit D)) (filter_digits W (all_digits W is))
    ∙ ap (λ (xs : List ℕ). digits_sum (W ++ xs)) (filter_digits D (all_digits D are))

settled_at : (cell : List ℕ) → is_open (Some Point) cell ≡ false
unfolding is_open
settled_at cell = refl

pub pointed : (cell W D : List ℕ) (below : Bool) → below ≡ is_negative cell → W ++ 46 ∷ D ≡ unsigned cell → is_digits W ≡ true
    → is_digits D ≡ true → suffix_len is_zero D ≡ 0 → IsNumber (Some Point) cell (made (signed_value below (digits_sum (W ++ D))) (length D))
pointed cell W D below sign body is are none = record {
  settled = settled_at cell;
  is = number_at cell W D body is are;
  value =
      let value = value_is Point cell (W ++ 46 ∷ D) D below 0 sign body (sym (decimals_at W D (all_digits W is))) (sym none) in
      let same : length D - 0 ≡ length D = omega arith in
      ap (λ (n : ℕ). made (signed_value below n) (length D)) (sym (size_at W D is are))
      ∙ ap (λ (p : ℕ). made (signed_value below (size_of (W ++ 46 ∷ D) 0)) p) (sym same) ∙ sym value;
}

-- ---- the sign

pub sign_below : (body : List ℕ) → (is_negative (45 ∷ body) ≡ true) × (unsigned (45 ∷ body) ≡ body)
unfolding is_negative unsigned has_plus minus_len
sign_below body = (refl, refl)

pub sign_none : (d : ℕ) (ds : List ℕ) → is_ascii_digit d ≡ true → (is_negative (d ∷ ds) ≡ false) × (unsigned (d ∷ ds) ≡ d ∷ ds)
unfolding is_negative unsigned has_plus minus_len
sign_none d ds is =
    let range = in_range d is in
    let e43 : nat_eq 43 d ≡ false = ne_eqb 43 d (λ e. omega (arith, range.0, e)) in
    let e45 : nat_eq 45 d ≡ false = ne_eqb 45 d (λ e. omega (arith, range.0, e)) in
    let e226 : nat_eq 226 d ≡ false = ne_eqb 226 d (λ e. omega (arith, range.1, e)) in
    let e239 : nat_eq 239 d ≡ false = ne_eqb 239 d (λ e. omega (arith, range.1, e)) in
    (simp (e43, e45, e226, e239), simp (e43, e45, e226, e239))

-- ---- signed numbers

pub signed_mul : (below : Bool) (v b : ℕ) → signed_value below v *ℤ pos b ≡ signed_value below (v * b)
signed_mul false v b = pos-*ℤ-pos v b
signed_mul true zero b = pos-*ℤ-pos 0 b ∙ none (0 * b) (omega arith)
  where
    none : (n : ℕ) → n ≡ 0 → pos n ≡ neg_ℤ (pos n)
    none zero e = refl
    none (suc n) e = absurd (omega (arith, e))
signed_mul true (suc v) b = negsuc-*ℤ-pos v b

pub signed_is : (m : ℤ) → m ≡ signed_value (int_lt m (pos 0)) (unsigned_abs m)
signed_is (pos n) = rw (le-ltb n 0 (omega arith))
signed_is (negsuc n) = refl
