-- Digits that are cut, filled up with zeros and freed of zeros.
use Rattle.std.proofs.Common.{◌≡◌, ℕ, zero, suc, ◌+◌, ◌-◌, ◌*◌, ◌^◌, ◌<◌, ◌≤◌, true, false, List, [], ◌∷◌, ◌++◌, length, get_or, take, refl, sym, ap, ◌∙◌, arith, take_all, append_assoc, length-append}
use Rattle.std.specs.Prelude.{replicate, reverse}
use Rattle.std.specs.Char.{is_ascii_digit}
use Rattle.std.specs.List.{list_all, suffix_len}
use Rattle.std.proofs.Math.Seq.{take-suc}
use Rattle.std.proofs.lemmas.Bool.{eqb-true}
use Rattle.std.proofs.lemmas.Nat.{pow-add}
use Rattle.std.proofs.lemmas.List.{append-nil, get_or-append-add, get_or-reverse, length-reverse}
use Rattle.std.proofs.lemmas.List.Sums.{prefix_len_passes, prefix_len_stops, suffix_len-le-length, suffix_len_is}
use Rattle.mcf_text.specs.Whole.{digits_sum}
use Rattle.mcf_decimal.specs.Numbers.{is_zero}

-- ---- sums of digits

spread : (a p s q : ℕ) → (a * p + s) * q ≡ a * (p * q) + s * q
spread a p s q = omega arith

pub digits_sum-append : (xs ys : List ℕ) → digits_sum (xs ++ ys) ≡ digits_sum xs * 10 ^ length ys + digits_sum ys
digits_sum-append [] ys = omega arith
digits_sum-append (d ∷ xs) ys =
    let more = digits_sum-append xs ys in
    let long : 10 ^ length (xs ++ ys) ≡ 10 ^ length xs * 10 ^ length ys =
    ap (λ (n : ℕ). 10 ^ n) (length-append xs ys) ∙ pow-add 10 (length xs) (length ys) in
    let step : (d - 48) * 10 ^ length (xs ++ ys) ≡ (d - 48) * (10 ^ length xs * 10 ^ length ys) = ap (λ (n : ℕ). (d - 48) * n) long in
    omega (arith, more, step, spread (d - 48) (10 ^ length xs) (digits_sum xs) (10 ^ length ys))

pub digits_sum-zeros : (n : ℕ) → digits_sum (replicate n 48) ≡ 0
digits_sum-zeros zero = refl
digits_sum-zeros (suc n) = omega (arith, digits_sum-zeros n)

pub zeros_are_digits : (n : ℕ) → list_all is_ascii_digit (replicate n 48) ≡ true
zeros_are_digits zero = refl
zeros_are_digits (suc n) = zeros_are_digits n

-- ---- the zeros at the end

-- the last n digits are zeros, where no more than end the list
pub ends : (T : List ℕ) (n : ℕ) → n ≤ suffix_len is_zero T → T ≡ take (length T - n) T ++ replicate n 48
ends T zero few = sym (append-nil (take (length T - 0) T) ∙ take_all (length T - 0) T (omega arith))
ends T (suc n) few =
    let all = suffix_len-le-length is_zero T in
    let k = length T - suc n in
    let e : length T - n ≡ suc k = omega (arith, all, few) in
    let inside : k < length T = omega (arith, all, few) in
    let below : n < length T = omega (arith, all, few) in
    let place : length T - 1 - n ≡ k = omega arith in
    let pass : is_zero (get_or (reverse T) n 0) ≡ true = prefix_len_passes is_zero (reverse T) n 0 few in
    let here : get_or T k 0 ≡ 48 =
    ap (λ (i : ℕ). get_or T i 0) (sym place) ∙ sym (get_or-reverse T n 0 below) ∙ eqb-true (get_or (reverse T) n 0) 48 pass in
    ends T n (omega (arith, few))
    ∙ ap (λ (i : ℕ). take i T ++ replicate n 48) e
    ∙ ap (λ (xs : List ℕ). xs ++ replicate n 48) (take-suc T k 0 inside)
    ∙ ap (λ (b : ℕ). (take k T ++ (b ∷ [])) ++ replicate n 48) here
    ∙ append_assoc (take k T) (48 ∷ []) (replicate n 48)

-- the digit before them is none
pub stops : (T : List ℕ) → suffix_len is_zero T < length T → is_zero (get_or T (length T - suffix_len is_zero T - 1) 0) ≡ false
stops T some =
    let s = suffix_len is_zero T in
    let place : length T - 1 - s ≡ length T - s - 1 = omega arith in
    let at : get_or (reverse T) s 0 ≡ get_or T (length T - s - 1) 0 =
    get_or-reverse T s 0 some ∙ ap (λ (i : ℕ). get_or T i 0) place in
    let fails : is_zero (get_or (reverse T) s 0) ≡ false = prefix_len_stops is_zero (reverse T) 0 (omega (arith, length-reverse T, some)) in
    ap is_zero (sym at) ∙ fails

-- no zero ends a list whose last part has another digit at its end
pub no_end_zeros : (R K : List ℕ) → 0 < length K → is_zero (get_or K (length K - 1) 0) ≡ false → suffix_len is_zero (R ++ K) ≡ 0
no_end_zeros R K some fails =
    let xs = R ++ K in
    let long = length-append R K in
    let place : length xs - 1 ≡ length R + (length K - 1) = omega (arith, long, some) in
    let last : is_zero (get_or xs (length xs - 1) 0) ≡ false =
    ap (λ (i : ℕ). is_zero (get_or xs i 0)) place ∙ ap is_zero (get_or-append-add R K (length K - 1) 0) ∙ fails in
    let e = suffix_len_is is_zero xs (length xs) 0 (omega arith) (λ k past below. absurd (omega (arith, past, below))) (λ _. last) in
    omega (arith, e)

-- ---- the number that remains

poly : (w a b k c : ℕ) → (w * (a * b) + k * b) * c ≡ (w * a + k) * (c * b)
poly w a b k c = omega arith

pub scaled : (n w k here zeros before p v : ℕ) → n ≡ w * 10 ^ (here + zeros) + k * 10 ^ zeros → v ≡ w * 10 ^ here + k → p ≡ before + zeros
    → n * 10 ^ before ≡ v * 10 ^ p
scaled n w k here zeros before p v en ev ep =
    let a = 10 ^ here in
    let b = 10 ^ zeros in
    let c = 10 ^ before in
    ap (λ (x : ℕ). x * c) (en ∙ ap (λ (y : ℕ). w * y + k * b) (pow-add 10 here zeros))
    ∙ poly w a b k c
    ∙ ap (λ (x : ℕ). (w * a + k) * x) (sym (ap (λ (m : ℕ). 10 ^ m) ep ∙ pow-add 10 before zeros))
    ∙ ap (λ (x : ℕ). x * 10 ^ p) (sym ev)
