-- The digits at the front of some bytes.
use Rattle.std.proofs.Common.{◌≡◌, ℕ, suc, ◌+◌, ◌^◌, ◌<◌, ◌≤◌, min, true, false, List, ◌∷◌}
use Rattle.std.proofs.Common.{length, get_or, take, drop, ℤ, pos, neg_ℤ, refl, sym, ap, subst, ◌∙◌}
use Rattle.std.proofs.Common.{add-one, arith, length-take}
use Rattle.std.specs.Char.{is_ascii_digit}
use Rattle.std.specs.Prelude.{All, IsTrue}
use Rattle.std.specs.List.{list_all, prefix_len}
use Rattle.std.specs.Str.Parse.{AllDigits, digits_value, without_leading_sign}
use Rattle.std.proofs.Math.Seq.{drop-cons}
use Rattle.std.proofs.lemmas.Bool.{and_from, ne_eqb, not_from_false}
use Rattle.std.proofs.lemmas.List.{drop_all, get_or-take, take-append-drop}
use Rattle.std.proofs.lemmas.List.Elements.{All-cons, All-from_get_or}
use Rattle.std.proofs.lemmas.List.Sums.{prefix_len-drop_all, prefix_len-drop_no, prefix_len-drop_yes}
use Rattle.std.proofs.lemmas.Str.Parse.{digit_at, digits_value_short}
use Rattle.mcf_text.specs.Fields.{EndsRun, fields_of, is_blank}
use Rattle.mcf_text.specs.Leading.{digit_count}
use Rattle.mcf_text.specs.Whole.{digits_sum, is_numeral, is_whole, signed_value, whole_value}
use Rattle.mcf_text.proofs.FieldsLemmas.{fields_of-blank, fields_of-run}
use Rattle.mcf_text.proofs.WholeLemmas.{digit_no_blank, model, unsigned_digits}

-- fewer than eighteen digits are below 10 ^ 17
pub value_before : (ds : List ℕ) (i : ℕ) → i < 18 → AllDigits 10 (take i ds) → digits_value 10 (take i ds) < 10 ^ 17
value_before ds i few all =
    subst (λ n. n < 10 ^ 17) (model.same (take i ds) all)
    (digits_value_short model (take i ds) 17 (model.from (take i ds) all) (omega (arith, length-take i ds)))

-- one more digit is counted
pub counted_more : (ds : List ℕ) (i : ℕ) → i < 18 → i < length ds → is_ascii_digit (get_or ds i 0) ≡ true
    → prefix_len is_ascii_digit (drop i (take 18 ds)) ≡ 1 + prefix_len is_ascii_digit (drop (i + 1) (take 18 ds))
counted_more ds i few inside is =
    prefix_len-drop_yes is_ascii_digit (take 18 ds) i 0 (omega (arith, length-take 18 ds)) (rw get_or-take is)

-- no digit is, at another byte and at the end
pub counted_other : (ds : List ℕ) (i : ℕ) → i < 18 → i < length ds → is_ascii_digit (get_or ds i 0) ≡ false
    → prefix_len is_ascii_digit (drop i (take 18 ds)) ≡ 0
counted_other ds i few inside is =
    prefix_len-drop_no is_ascii_digit (take 18 ds) i 0 (omega (arith, length-take 18 ds)) (rw get_or-take is)

pub counted_all : (ds : List ℕ) (i : ℕ) → min (length ds) 18 ≤ i → prefix_len is_ascii_digit (drop i (take 18 ds)) ≡ 0
counted_all ds i past = prefix_len-drop_all is_ascii_digit (take 18 ds) i (omega (arith, past, length-take 18 ds))

-- the digits up to a place where none follows
pub record AreLeading (ds : List ℕ) (count value : ℕ) : Type 0 where
  pub counted : count ≡ digit_count ds
  pub valued : value ≡ digits_sum (take count ds)
  pub digits : IsTrue (list_all is_ascii_digit (take count ds))
  pub few : (count ≤ 18) × (count ≤ length ds)
  pub small : value < 10 ^ 18

pub are_leading : (ds : List ℕ) (i value : ℕ) → (i ≤ 18) × (i ≤ length ds) → AllDigits 10 (take i ds) → value ≡ digits_value 10 (take i ds)
    → digit_count ds ≡ i + prefix_len is_ascii_digit (drop i (take 18 ds)) → prefix_len is_ascii_digit (drop i (take 18 ds)) ≡ 0 → AreLeading ds i value
are_leading ds i value inside all is count ends =
    let from = model.from (take i ds) all in
    let same : digits_sum (take i ds) ≡ digits_value 10 (take i ds) = model.same (take i ds) all in
    let short : digits_sum (take i ds) < 10 ^ 18 = digits_value_short model (take i ds) 18 from (omega (arith, length-take i ds, inside.0)) in
    record {
      counted = omega (arith, count, ends);
      valued = is ∙ sym same;
      digits = from;
      few = inside;
      small = omega (arith, is, same, short);
    }

-- ---- a field of digits

is_numeral-digits : (ds : List ℕ) → 0 < length ds → list_all is_ascii_digit ds ≡ true → is_numeral ds ≡ true
is_numeral-digits ds some all = and_from _ _ (not_from_false _ (ne_eqb (length ds) 0 (λ e. omega (arith, some)))) all

no_blank : (ds : List ℕ) → list_all is_ascii_digit ds ≡ true → All (λ b. is_blank b ≡ false) ds
no_blank ds all =
    let digits = model.to ds all in
    All-from_get_or (λ b. is_blank b ≡ false) ds 0 (λ i below. digit_no_blank (get_or ds i 0) (digit_at ds i digits below))

-- the first field of some bytes is this whole number, and these are the fields after it
pub record BeginsWithNumber (bytes rest : List ℕ) (value : ℤ) : Type 0 where
  pub first : List ℕ
  pub fields : fields_of bytes ≡ first ∷ fields_of rest
  pub whole : is_whole first ≡ true
  pub value_is : whole_value first ≡ value

pub begins_with_digits : (bytes : List ℕ) (count : ℕ) → 0 < count → count ≤ length bytes → list_all is_ascii_digit (take count bytes) ≡ true
    → EndsRun (drop count bytes) → BeginsWithNumber bytes (drop count bytes) (pos (digits_sum (take count bytes)))
begins_with_digits bytes count some inside all ends =
    let ds = take count bytes in
    let long : 0 < length ds = omega (arith, length-take count bytes) in
    let plain = unsigned_digits ds long (model.to ds all) in
    record {
      first = ds;
      fields = ap fields_of (sym (take-append-drop count bytes))
          ∙ fields_of-run ds (drop count bytes) (record { nonempty = long; no_blank = no_blank ds all }) ends;
      whole = ap is_numeral plain.1 ∙ is_numeral-digits ds long all;
      value_is = ap (λ minus. signed_value minus (digits_sum (without_leading_sign ds))) plain.0 ∙ ap (λ bs. pos (digits_sum bs)) plain.1;
    }

pub begins_with_minus : (bytes : List ℕ) (count : ℕ) → 0 < count → count ≤ length bytes → list_all is_ascii_digit (take count bytes) ≡ true
    → EndsRun (drop count bytes) → BeginsWithNumber (45 ∷ bytes) (drop count bytes) (neg_ℤ (pos (digits_sum (take count bytes))))
begins_with_minus bytes count some inside all ends =
    let ds = take count bytes in
    let long : 0 < length ds = omega (arith, length-take count bytes) in
    record {
      first = 45 ∷ ds;
      fields = ap (λ bs. fields_of (45 ∷ bs)) (sym (take-append-drop count bytes))
          ∙ fields_of-run (45 ∷ ds) (drop count bytes)
          (record { nonempty = omega arith; no_blank = All-cons (λ b. is_blank b ≡ false) 45 ds refl (no_blank ds all) }) ends;
      whole = is_numeral-digits ds long all;
      value_is = refl;
    }

-- ---- the end of a field

pub ends_at_end : (bytes : List ℕ) (k : ℕ) → k ≡ length bytes → EndsRun (drop k bytes)
ends_at_end bytes k e = subst EndsRun (sym (drop_all k bytes (omega (arith, e)))) tt

pub ends_at_blank : (bytes : List ℕ) (k : ℕ) → k < length bytes → is_blank (get_or bytes k 0) ≡ true
    → EndsRun (drop k bytes) × (fields_of (drop k bytes) ≡ fields_of (drop (k + 1) bytes))
ends_at_blank bytes k inside blank = (
  subst EndsRun (sym (drop-cons bytes k 0 inside)) blank,
  ap fields_of (drop-cons bytes k 0 inside) ∙ fields_of-blank (get_or bytes k 0) (drop (suc k) bytes) blank
      ∙ ap (λ n. fields_of (drop n bytes)) (sym (add-one k)),
)
