-- What is written of a decimal is read back.
use Rattle.std.proofs.Common.{◌≡◌, ℕ, ◌+◌, ◌-◌, ◌*◌, ◌^◌, ◌<◌, ◌≤◌, inl, inr, Bool, true, false, List, [], ◌∷◌, ◌++◌, length, get_or, take, Some, ℤ, pos, negsuc, refl, sym, ap, subst, ◌∙◌, arith, length-append, length-take, length-drop}
use Rattle.std.specs.Prelude.{replicate, ◌⊎◌, ◌==◌, ◌*ℤ◌, int_lt, unsigned_abs, FitsSigned}
use Rattle.std.specs.Char.{is_ascii_digit}
use Rattle.std.specs.Fmt.{decimal}
use Rattle.std.specs.List.{list_all, suffix_len}
use Rattle.std.proofs.lemmas.Bool.{and_parts, cases_lt, eq-eqb, le-leb, lt-leb, ne_eqb}
use Rattle.std.proofs.lemmas.List.{append-nil, get_or-take, length-replicate, take-append-drop}
use Rattle.std.proofs.lemmas.List.Folds.{list_all-append}
use Rattle.std.proofs.lemmas.List.Sums.{suffix_len-le-length}
use Rattle.std.proofs.lemmas.Fmt.{decimal_is_IsNumeral_wide, length-decimal-le_wide}
use Rattle.std.specs.Int.{w128}
use Rattle.mcf_text.proofs.WholeLemmas.{model}
use Rattle.mcf_text.specs.Whole.{digits_sum, signed_value}
use Rattle.mcf_decimal.specs.Groups.{is_digits}
use Rattle.mcf_decimal.specs.Numbers.{IsNumber, is_zero}
use Rattle.mcf_decimal.specs.Signs.{is_negative, unsigned}
use Rattle.mcf_decimal.specs.Written.{SaysDecimal, decimal_of, decimal_text, fraction_text, front_digits, last_digits, minus_text, shifted, trimmed}
use Rattle.mcf_decimal.specs.declared.mark.Mark.TheVariants.{Point}
use Rattle.mcf_decimal.proofs.Pointed.{digits_test, pointed, sign_below, sign_none, signed_is, signed_mul}
use Rattle.mcf_decimal.proofs.Spelled.{digits_sum-append, digits_sum-zeros, ends, no_end_zeros, scaled, stops, zeros_are_digits}
use Rattle.mcf_decimal.proofs.ValueLemmas.{made}
use Rattle.mcf_decimal.proofs.WholeCells.{whole_numbers}

abbrev AreDigits : List ℕ → Type 0
AreDigits ds = list_all is_ascii_digit ds ≡ true

both_are : (xs ys : List ℕ) → AreDigits xs → AreDigits ys → AreDigits (xs ++ ys)
both_are xs ys one two = list_all-append is_ascii_digit xs ys ∙ rw (one, two)

parts_are : (xs ys : List ℕ) → AreDigits (xs ++ ys) → AreDigits xs × AreDigits ys
parts_are xs ys all =
    let parts = and_parts (list_all is_ascii_digit xs) (list_all is_ascii_digit ys) (sym (list_all-append is_ascii_digit xs ys) ∙ all) in
    (parts.0, parts.1)

-- some digits, cut before the last `places`: the front, the last without the zeros that end them,
-- and how many these are
record Cut (ds : List ℕ) (places : ℕ) : Type 0 where
  front_all : AreDigits (front_digits ds places)
  front_some : 0 < length (front_digits ds places)
  front_few : length (front_digits ds places) ≤ length ds + 1
  last_all : AreDigits (last_digits ds places)
  long : length (last_digits ds places) + (places - length ds) ≡ places
  either : (digits_sum (front_digits ds places) ≡ 0) ⊎ (places - length ds ≡ 0)
  sum : digits_sum ds ≡ digits_sum (front_digits ds places) * 10 ^ length (last_digits ds places) + digits_sum (last_digits ds places)

few_fronts : (ds : List ℕ) (places : ℕ) → length ds ≤ places → front_digits ds places ≡ 48 ∷ []
unfolding front_digits
few_fronts ds places few = rw (le-leb (length ds) places few)

more_fronts : (ds : List ℕ) (places : ℕ) → places < length ds → front_digits ds places ≡ take (length ds - places) ds
unfolding front_digits
more_fronts ds places more = rw (lt-leb (length ds) places more)

joined : (ds : List ℕ) (places : ℕ) → take (length ds - places) ds ++ last_digits ds places ≡ ds
unfolding last_digits
joined ds places = take-append-drop (length ds - places) ds

last_long : (ds : List ℕ) (places : ℕ) → length (last_digits ds places) ≡ length ds - (length ds - places)
unfolding last_digits
last_long ds places = omega (arith, length-drop (length ds - places) ds)

cut : (ds : List ℕ) (places : ℕ) → AreDigits ds → 0 < length ds → Cut ds places
cut ds places all some =
    let front = take (length ds - places) ds in
    let last = last_digits ds places in
    let parts = parts_are front last (subst AreDigits (sym (joined ds places)) all) in
    let long = last_long ds places in
    let sum : digits_sum ds ≡ digits_sum front * 10 ^ length last + digits_sum last =
    ap digits_sum (sym (joined ds places)) ∙ digits_sum-append front last in
    elim (cases_lt places (length ds)) [
      | inl more ↦
          let e = more_fronts ds places more in
          record {
            front_all = subst AreDigits (sym e) parts.0;
            front_some = omega (arith, ap length e, length-take (length ds - places) ds, more);
            front_few = omega (arith, ap length e, length-take (length ds - places) ds);
            last_all = parts.1;
            long = omega (arith, long, more);
            either = inr (omega (arith, more));
            sum = sum ∙ ap (λ (xs : List ℕ). digits_sum xs * 10 ^ length last + digits_sum last) (sym e);
          }
      | inr few ↦
          let e = few_fronts ds places few in
          let none : front ≡ [] = ap (λ (n : ℕ). take n ds) (zero_left (length ds) places few) in
          let same : digits_sum front ≡ digits_sum (front_digits ds places) = ap digits_sum none ∙ sym (ap digits_sum e) in
          record {
            front_all = subst AreDigits (sym e) refl;
            front_some = omega (arith, ap length e);
            front_few = omega (arith, ap length e);
            last_all = parts.1;
            long = omega (arith, long, few);
            either = inl (ap digits_sum e);
            sum = sum ∙ ap (λ (n : ℕ). n * 10 ^ length last + digits_sum last) same;
          }
    ]
  where
    zero_left : (a b : ℕ) → a ≤ b → a - b ≡ 0
    zero_left a b few = omega arith

-- the last digits are those that stay, and zeros
trimmed_ends : (T : List ℕ) → T ≡ trimmed T ++ replicate (suffix_len is_zero T) 48
unfolding trimmed
trimmed_ends T = ends T (suffix_len is_zero T) (omega arith)

trimmed_long : (T : List ℕ) → length (trimmed T) + suffix_len is_zero T ≡ length T
unfolding trimmed
trimmed_long T = omega (arith, length-take (length T - suffix_len is_zero T) T, suffix_len-le-length is_zero T)

trimmed_stops : (T : List ℕ) → 0 < length (trimmed T) → is_zero (get_or (trimmed T) (length (trimmed T) - 1) 0) ≡ false
unfolding trimmed
trimmed_stops T some =
    let s = suffix_len is_zero T in
    let most = suffix_len-le-length is_zero T in
    let long = length-take (length T - s) T in
    let below : s < length T = omega (arith, long, most, some) in
    let place : length (take (length T - s) T) - 1 ≡ length T - s - 1 = omega (arith, long, most) in
    ap (λ (i : ℕ). is_zero (get_or (take (length T - s) T) i 0)) place
    ∙ ap is_zero (get_or-take (length T - s) T (length T - s - 1) 0 (omega (arith, below)))
    ∙ stops T below

trimmed_sum : (T : List ℕ) → digits_sum T ≡ digits_sum (trimmed T) * 10 ^ suffix_len is_zero T
trimmed_sum T =
    let z = suffix_len is_zero T in
    let Z : List ℕ = replicate z 48 in
    let e = ap digits_sum (trimmed_ends T) ∙ digits_sum-append (trimmed T) Z in
    let n : 10 ^ length Z ≡ 10 ^ z = ap (λ (k : ℕ). 10 ^ k) (length-replicate z 48) in
    e ∙ ap (λ (s : ℕ). digits_sum (trimmed T) * 10 ^ length Z + s) (digits_sum-zeros z)
    ∙ plus_none (digits_sum (trimmed T) * 10 ^ length Z)
    ∙ ap (λ (p : ℕ). digits_sum (trimmed T) * p) n
  where
    plus_none : (a : ℕ) → a + 0 ≡ a
    plus_none a = omega arith

-- the digits of a text, with how many of them are decimals, and what they stand for
record Spells (body : List ℕ) (n places : ℕ) : Type 0 where
  value : ℕ
  decimals : ℕ
  says : (cell : List ℕ) (below : Bool) → below ≡ is_negative cell → body ≡ unsigned cell
      → IsNumber (Some Point) cell (made (signed_value below value) decimals)
  same : n * 10 ^ decimals ≡ value * 10 ^ places

-- no decimal stays
spells_whole : (ds : List ℕ) (places : ℕ) → Cut ds places → length ds ≤ 64 → length (trimmed (last_digits ds places)) ≡ 0
    → Spells (front_digits ds places) (digits_sum ds) places
spells_whole ds places c few none =
    let W = front_digits ds places in
    let T = last_digits ds places in
    let is = digits_test W c.front_all c.front_some (omega (arith, c.front_few, few)) in
    record {
      value = digits_sum W;
      decimals = 0;
      says = λ cell below sign body.
          let number = whole_numbers (Some Point) cell (subst (λ (b : List ℕ). is_digits b ≡ true) body is) in
          subst (λ (b : Bool). IsNumber (Some Point) cell (made (signed_value b (digits_sum W)) 0)) (sym sign)
          (subst (λ (b : List ℕ). IsNumber (Some Point) cell (made (signed_value (is_negative cell) (digits_sum b)) 0)) (sym body) number);
      same = whole_same ds places c none;
    }
  where
    no_digits : (xs : List ℕ) → length xs ≡ 0 → digits_sum xs ≡ 0
    no_digits [] e = refl
    no_digits (x ∷ xs) e = absurd (omega (arith, e))

    times_none : (a : ℕ) → 0 * a ≡ 0
    times_none a = omega arith

    whole_same : (ds : List ℕ) (places : ℕ) → Cut ds places → length (trimmed (last_digits ds places)) ≡ 0
        → digits_sum ds * 10 ^ 0 ≡ digits_sum (front_digits ds places) * 10 ^ places
    whole_same ds places c none =
        let w = digits_sum (front_digits ds places) in
        let T = last_digits ds places in
        let z = suffix_len is_zero T in
        let k : digits_sum (trimmed T) ≡ 0 = no_digits (trimmed T) none in
        let last : digits_sum T ≡ 0 = trimmed_sum T ∙ ap (λ (x : ℕ). x * 10 ^ z) k ∙ times_none (10 ^ z) in
        let sum : digits_sum ds ≡ w * 10 ^ length T = omega (arith, c.sum, last) in
        elim c.either [
          | inl zero_front ↦
              let left : digits_sum ds ≡ 0 = sum ∙ ap (λ (x : ℕ). x * 10 ^ length T) zero_front ∙ times_none (10 ^ length T) in
              let right : w * 10 ^ places ≡ 0 = ap (λ (x : ℕ). x * 10 ^ places) zero_front ∙ times_none (10 ^ places) in
              omega (arith, left, right)
          | inr exact ↦
              let e : length T ≡ places = omega (arith, c.long, exact) in
              let moved : w * 10 ^ length T ≡ w * 10 ^ places = ap (λ (x : ℕ). w * 10 ^ x) e in
              omega (arith, sum, moved)
        ]

-- decimals stay
spells_pointed : (ds : List ℕ) (places : ℕ) → Cut ds places → length ds ≤ 64 → places ≤ 1000 → 0 < length (trimmed (last_digits ds places))
    → Spells (front_digits ds places ++ 46 ∷ (replicate (places - length ds) 48 ++ trimmed (last_digits ds places))) (digits_sum ds) places
spells_pointed ds places c few least some =
    let W = front_digits ds places in
    let T = last_digits ds places in
    let K = trimmed T in
    let R : List ℕ = replicate (places - length ds) 48 in
    let z = suffix_len is_zero T in
    let D = R ++ K in
    let kept_all : AreDigits K = (parts_are K (replicate z 48) (subst AreDigits (trimmed_ends T) c.last_all)).0 in
    let long : length D ≡ places - length ds + length K = length-append R K ∙ ap (λ (n : ℕ). n + length K) (length-replicate {A = ℕ} (places - length ds) 48) in
    let kept = trimmed_long T in
    let is = digits_test W c.front_all c.front_some (omega (arith, c.front_few, few)) in
    let are = digits_test D (both_are R K (zeros_are_digits (places - length ds)) kept_all) (omega (arith, long, some)) (omega (arith, long, kept, c.long, least)) in
    let none = no_end_zeros R K some (trimmed_stops T some) in
    record {
      value = digits_sum (W ++ D);
      decimals = length D;
      says = λ cell below sign body. pointed cell W D below sign body is are none;
      same =
          scaled (digits_sum ds) (digits_sum W) (digits_sum K) (length K) z (length D) places (digits_sum (W ++ D))
          (sum_of ds places c)
          (value_of ds places c)
          (omega (arith, long, kept, c.long));
    }
  where
    sum_of : (ds : List ℕ) (places : ℕ) → Cut ds places
        → digits_sum ds ≡ digits_sum (front_digits ds places) * 10 ^ (length (trimmed (last_digits ds places)) + suffix_len is_zero (last_digits ds places))
        + digits_sum (trimmed (last_digits ds places)) * 10 ^ suffix_len is_zero (last_digits ds places)
    sum_of ds places c =
        let T = last_digits ds places in
        let w = digits_sum (front_digits ds places) in
        c.sum ∙ ap (λ (n : ℕ). w * 10 ^ length T + n) (trimmed_sum T)
        ∙ ap (λ (n : ℕ). w * 10 ^ n + digits_sum (trimmed T) * 10 ^ suffix_len is_zero T) (sym (trimmed_long T))

    times_none : (a b : ℕ) → 0 * a ≡ 0 * b
    times_none a b = omega arith

    none_plus : (a b : ℕ) → 0 * a + b ≡ b
    none_plus a b = omega arith

    value_of : (ds : List ℕ) (places : ℕ) → Cut ds places
        → digits_sum (front_digits ds places ++ (replicate (places - length ds) 48 ++ trimmed (last_digits ds places)))
        ≡ digits_sum (front_digits ds places) * 10 ^ length (trimmed (last_digits ds places)) + digits_sum (trimmed (last_digits ds places))
    value_of ds places c =
        let W = front_digits ds places in
        let w = digits_sum W in
        let K = trimmed (last_digits ds places) in
        let R : List ℕ = replicate (places - length ds) 48 in
        let all = digits_sum-append W (R ++ K) in
        let kept : digits_sum (R ++ K) ≡ digits_sum K =
        digits_sum-append R K ∙ ap (λ (n : ℕ). n * 10 ^ length K + digits_sum K) (digits_sum-zeros (places - length ds))
        ∙ none_plus (10 ^ length K) (digits_sum K) in
        let front : w * 10 ^ length (R ++ K) ≡ w * 10 ^ length K =
        elim c.either [
          | inl zero_front ↦
              ap (λ (n : ℕ). n * 10 ^ length (R ++ K)) zero_front ∙ times_none (10 ^ length (R ++ K)) (10 ^ length K)
              ∙ ap (λ (n : ℕ). n * 10 ^ length K) (sym zero_front)
          | inr exact ↦
              let e : length (R ++ K) ≡ length K = omega (arith, length-append R K, length-replicate {A = ℕ} (places - length ds) 48, exact) in
              ap (λ (n : ℕ). w * 10 ^ n) e
        ] in
        omega (arith, all, kept, front)

-- ---- the whole text

starts : (front rest : List ℕ) → AreDigits front → 0 < length front
    → (false ≡ is_negative (front ++ rest)) × (front ++ rest ≡ unsigned (front ++ rest))
starts [] rest all some = absurd (omega (arith, some))
starts (d ∷ ds) rest all some =
    let parts = and_parts (is_ascii_digit d) (list_all is_ascii_digit ds) all in
    let sign = sign_none d (ds ++ rest) parts.0 in
    (sym sign.0, sym sign.1)

signs : (below : Bool) (front rest : List ℕ) → AreDigits front → 0 < length front
    → (below ≡ is_negative (minus_text below ++ (front ++ rest))) × (front ++ rest ≡ unsigned (minus_text below ++ (front ++ rest)))
signs true front rest all some = let sign = sign_below (front ++ rest) in (sym sign.0, sym sign.1)
signs false front rest all some = starts front rest all some

says_again : (m : ℤ) (places n : ℕ) (below : Bool) (front rest : List ℕ) → m ≡ signed_value below n → AreDigits front → 0 < length front
    → Spells (front ++ rest) n places → SaysDecimal (minus_text below ++ (front ++ rest)) (decimal_of m places)
says_again m places n below front rest is all some s =
    let sign = signs below front rest all some in
    record {
      number = made (signed_value below s.value) s.decimals;
      says = s.says (minus_text below ++ (front ++ rest)) below sign.0 sign.1;
      same =
          signed_mul below s.value (10 ^ places) ∙ ap (signed_value below) (sym s.same)
          ∙ sym (signed_mul below n (10 ^ s.decimals)) ∙ ap (λ (z : ℤ). z *ℤ pos (10 ^ s.decimals)) (sym is);
    }

spells_all : (ds : List ℕ) (places : ℕ) → Cut ds places → length ds ≤ 64 → places ≤ 1000
    → Spells (front_digits ds places ++ fraction_text (places - length ds) (trimmed (last_digits ds places))) (digits_sum ds) places
unfolding fraction_text
spells_all ds places c few least =
    let K = trimmed (last_digits ds places) in
    elim (cases_lt 0 (length K)) [
      | inl some ↦
          let e : (length K == 0) ≡ false = ne_eqb (length K) 0 (λ is. omega (arith, is, some)) in
          rw e (spells_pointed ds places c few least some)
      | inr none ↦
          let zero_left : length K ≡ 0 = omega (arith, none) in
          let e : (length K == 0) ≡ true = eq-eqb (length K) 0 zero_left in
          rw (e, append-nil (front_digits ds places)) (spells_whole ds places c few zero_left)
    ]

pub read_back : (m : ℤ) (places : ℕ) → unsigned_abs m < 10 ^ 64 → length (decimal (unsigned_abs m)) ≤ 64 → places ≤ 1000
    → SaysDecimal (decimal_text m places) (decimal_of m places)
unfolding decimal_text shifted
read_back m places small few least =
    let n = unsigned_abs m in
    let ds = decimal n in
    let d = decimal_is_IsNumeral_wide n small in
    let sum : digits_sum ds ≡ n = model.same ds d.0.1 ∙ d.1 in
    let c = cut ds places (model.from ds d.0.1) d.0.0 in
    says_again m places n (int_lt m (pos 0)) (front_digits ds places) (fraction_text (places - length ds) (trimmed (last_digits ds places)))
    (signed_is m) c.front_all c.front_some
    (subst (λ (k : ℕ). Spells (front_digits ds places ++ fraction_text (places - length ds) (trimmed (last_digits ds places))) k places) sum
    (spells_all ds places c few least))

-- of a mantissa of 128 bits
pub reads_back : (m : ℤ) (places : ℕ) → FitsSigned w128 m → places ≤ 1000 → SaysDecimal (decimal_text m places) (decimal_of m places)
reads_back m places fits least =
    let below : unsigned_abs m < 10 ^ 64 = abs_small m fits in
    read_back m places below (length-decimal-le_wide 64 (unsigned_abs m) (omega arith) below below) least
  where
    abs_small : (m : ℤ) → FitsSigned w128 m → unsigned_abs m < 10 ^ 64
    abs_small (pos n) fits = omega (arith, fits.sfits)
    abs_small (negsuc n) fits = omega (arith, fits.sfits)
