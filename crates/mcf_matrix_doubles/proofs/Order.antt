-- Doubles without a sign are in the order of their bits.
use Rattle.std.proofs.Common.{◌≡◌, ℕ, zero, suc, ◌+◌, ◌-◌, ◌*◌, ◌/◌, ◌^◌, ◌<◌, ◌≤◌, ◌==◌, ap, sym, subst, arith, refl, inl, inr, if◌then◌else◌, pos, ◌≤ℤ◌}
use Rattle.std.proofs.Math.Nat.{div-add-mod, mul-le-mul_left, mul-le-mul_right}
use Rattle.std.proofs.Math.Pow.{pow_mono, shr_mono, shr_mod}
use Rattle.std.proofs.lemmas.Bool.{cases_lt, lt-ltb, ne_eqb}
use Rattle.std.proofs.lemmas.Int.{ints}
use Rattle.std.proofs.lemmas.Nat.{pow-add}
use Rattle.mcf_matrix_doubles.specs.Doubles.{exponent_of, fraction_of, size_of, value_of}

-- the size of a biased exponent and a fraction
abbrev scaled : ℕ → ℕ → ℕ
scaled e f = if e == 0 then f else (2 ^ 52 + f) * 2 ^ (e - 1)

scaled_is : (e f : ℕ) → 0 < e → scaled e f ≡ (2 ^ 52 + f) * 2 ^ (e - 1)
scaled_is e f h = rw (ne_eqb e 0 (λ z. omega (arith, z, h))) refl

twice : (e : ℕ) → 0 < e → 2 ^ e ≡ 2 * 2 ^ (e - 1)
twice e h =
    let after : e - 1 + 1 ≡ e = omega arith in
    let power : 2 ^ e ≡ 2 ^ (e - 1 + 1) = ap (λ n. 2 ^ n) (sym after) in
    let apart : 2 ^ (e - 1 + 1) ≡ 2 ^ (e - 1) * 2 ^ 1 = pow-add 2 (e - 1) 1 in
    omega (arith, power, apart)

scaled_most : (e f : ℕ) → f < 2 ^ 52 → scaled e f ≤ 2 ^ 52 * 2 ^ e
scaled_most zero f h = omega arith
scaled_most (suc e) f h =
    let above : 0 < suc e = omega arith in
    let le : (2 ^ 52 + f) * 2 ^ (suc e - 1) ≤ 2 ^ 53 * 2 ^ (suc e - 1) = mul-le-mul_right (2 ^ (suc e - 1)) (omega arith) in
    omega (arith, twice (suc e) above, le, scaled_is (suc e) f above)

scaled_least : (e f : ℕ) → 0 < e → 2 ^ 52 * 2 ^ (e - 1) ≤ scaled e f
scaled_least e f h =
    let le : 2 ^ 52 * 2 ^ (e - 1) ≤ (2 ^ 52 + f) * 2 ^ (e - 1) = mul-le-mul_right (2 ^ (e - 1)) (omega arith) in
    omega (arith, le, scaled_is e f h)

scaled_mono : (e f g : ℕ) → f ≤ g → scaled e f ≤ scaled e g
scaled_mono zero f g h = h
scaled_mono (suc e) f g h =
    let above : 0 < suc e = omega arith in
    let le : (2 ^ 52 + f) * 2 ^ (suc e - 1) ≤ (2 ^ 52 + g) * 2 ^ (suc e - 1) = mul-le-mul_right (2 ^ (suc e - 1)) (omega arith) in
    omega (arith, le, scaled_is (suc e) f above, scaled_is (suc e) g above)

scaled_below : (d e f g : ℕ) → d < e → f < 2 ^ 52 → scaled d f ≤ scaled e g
scaled_below d e f g h k =
    let least : d ≤ e - 1 = omega arith in
    let power : 2 ^ d ≤ 2 ^ (e - 1) = pow_mono least in
    let low : 2 ^ 52 * 2 ^ d ≤ 2 ^ 52 * 2 ^ (e - 1) = mul-le-mul_left (2 ^ 52) power in
    omega (arith, scaled_most d f k, scaled_least e g (omega arith), low)

exponent_is : (a : ℕ) → a < 2 ^ 63 → exponent_of a ≡ a / 2 ^ 52
exponent_is a h = shr_mod 11 52 h

sizes_in_order : (a b : ℕ) → a ≤ b → b < 2 ^ 63 → size_of a ≤ size_of b
sizes_in_order a b le small =
    let ea = exponent_is a (omega arith) in
    let eb = exponent_is b small in
    let order : a / 2 ^ 52 ≤ b / 2 ^ 52 = shr_mono 52 le in
    elim (cases_lt (a / 2 ^ 52) (b / 2 ^ 52)) [
      | inl less ↦ scaled_below (exponent_of a) (exponent_of b) (fraction_of a) (fraction_of b) (omega (arith, ea, eb, less)) (omega arith)
      | inr more ↦
          let same : exponent_of a ≡ exponent_of b = omega (arith, ea, eb, order, more) in
          let fractions : fraction_of a ≤ fraction_of b = omega (arith, div-add-mod a (2 ^ 52), div-add-mod b (2 ^ 52), order, more, le) in
          subst (λ e. scaled (exponent_of a) (fraction_of a) ≤ scaled e (fraction_of b)) same (scaled_mono (exponent_of a) (fraction_of a) (fraction_of b) fractions)
    ]

value_is : (a : ℕ) → a < 2 ^ 63 → value_of a ≡ pos (size_of a)
value_is a h = rw (lt-ltb a (2 ^ 63) h) refl

pub values_in_order : (a b : ℕ) → a ≤ b → b < 2 ^ 63 → value_of a ≤ℤ value_of b
values_in_order a b le small =
    omega (arith, ints, value_is a (omega arith), value_is b small, sizes_in_order a b le small)
