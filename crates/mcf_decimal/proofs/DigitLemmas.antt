-- The digits among some bytes, and the zeros at their end.
use Rattle.std.proofs.Common.{◌≡◌, ℕ, ◌+◌, ◌-◌, ◌*◌, ◌<◌, ◌≤◌, inl, inr, Bool, true, false, List, [], ◌∷◌, ◌++◌, length, get_or, take, refl, sym, ap, ◌∙◌, arith, take_all}
use Rattle.std.specs.Prelude.{filter}
use Rattle.std.specs.Char.{is_ascii_digit}
use Rattle.std.specs.List.{list_all, suffix_len}
use Rattle.std.specs.Str.Parse.{digits_value}
use Rattle.std.proofs.lemmas.Bool.{cases_Bool}
use Rattle.std.proofs.lemmas.List.{append-nil}
use Rattle.std.proofs.lemmas.List.Elements.{filter_more}
use Rattle.std.proofs.lemmas.List.Sums.{suffix_len-take_no, suffix_len-take_yes}
use Rattle.std.proofs.lemmas.Int.Digits.{digits_value_push}
use Rattle.std.proofs.lemmas.Str.{digit_value_digit}
use Rattle.std.specs.Int.{IsInRange}
use Rattle.std.proofs.lemmas.Bool.Decides.{nat_tests}
use Rattle.mcf_text.specs.Whole.{digits_sum}
use Rattle.mcf_text.proofs.WholeLemmas.{model}

-- the digits among bytes
abbrev pub kept : List ℕ → List ℕ
kept xs = filter is_ascii_digit xs

kept_all : (xs : List ℕ) → list_all is_ascii_digit (kept xs) ≡ true
kept_all [] = refl
kept_all (x ∷ xs) =
    elim (cases_Bool (is_ascii_digit x)) [ inl is ↦ rw (is, is) (kept_all xs) | inr other ↦ rw other (kept_all xs) ]

pub value_kept : (xs : List ℕ) → digits_value 10 (kept xs) ≡ digits_sum (kept xs)
value_kept xs = sym (model.same (kept xs) (model.to (kept xs) (kept_all xs)))

pub in_range : (c : ℕ) → is_ascii_digit c ≡ true → IsInRange 48 57 c
in_range c is = grind (arith, nat_tests)

-- one byte more
pub more_digit : (xs : List ℕ) (i : ℕ) → i < length xs → is_ascii_digit (get_or xs i 0) ≡ true
    → digits_value 10 (kept (take (i + 1) xs)) ≡ digits_value 10 (kept (take i xs)) * 10 + (get_or xs i 0 - 48)
more_digit xs i inside is =
    let longer : kept (take (i + 1) xs) ≡ kept (take i xs) ++ (get_or xs i 0 ∷ []) = rw is at (filter_more is_ascii_digit xs i 0 inside) in
    let value = digit_value_digit (get_or xs i 0) (in_range (get_or xs i 0) is) in
    omega (arith, ap (digits_value 10) longer, digits_value_push 10 (kept (take i xs)) (get_or xs i 0), value)

pub more_other : (xs : List ℕ) (i : ℕ) → i < length xs → is_ascii_digit (get_or xs i 0) ≡ false
    → digits_value 10 (kept (take (i + 1) xs)) ≡ digits_value 10 (kept (take i xs))
more_other xs i inside is =
    let same : kept (take (i + 1) xs) ≡ kept (take i xs) ++ [] = rw is at (filter_more is_ascii_digit xs i 0 inside) in
    ap (digits_value 10) (same ∙ append-nil (kept (take i xs)))

-- ---- the zeros at the end

pub zeros_all : (p : ℕ → Bool) (xs : List ℕ) (n : ℕ) → length xs ≤ n → suffix_len p xs ≡ length xs - n + suffix_len p (take n xs)
zeros_all p xs n past = omega (arith, ap (suffix_len p) (take_all n xs past))

pub zeros_more : (p : ℕ → Bool) (xs : List ℕ) (n : ℕ) → 0 < n → n ≤ length xs → p (get_or xs (n - 1) 0) ≡ true
    → suffix_len p xs ≡ length xs - n + suffix_len p (take n xs) → suffix_len p xs ≡ length xs - (n - 1) + suffix_len p (take (n - 1) xs)
zeros_more p xs n some inside is counted = omega (arith, suffix_len-take_yes p xs n 0 some inside is)

pub zeros_stop : (p : ℕ → Bool) (xs : List ℕ) (n : ℕ) → 0 < n → n ≤ length xs → p (get_or xs (n - 1) 0) ≡ false
    → suffix_len p xs ≡ length xs - n + suffix_len p (take n xs) → suffix_len p xs ≡ length xs - n
zeros_stop p xs n some inside is counted = omega (arith, suffix_len-take_no p xs n 0 some inside is)

pub zeros_end : (p : ℕ → Bool) (xs : List ℕ) (n : ℕ) → n ≡ 0
    → suffix_len p xs ≡ length xs - n + suffix_len p (take n xs) → suffix_len p xs ≡ length xs
zeros_end p xs n none counted =
    let empty : take n xs ≡ [] = ap (λ k. take k xs) none in
    let is : suffix_len p (take n xs) ≡ 0 = ap (suffix_len p) empty in
    omega arith
