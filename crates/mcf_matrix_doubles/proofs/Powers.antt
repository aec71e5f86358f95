-- Numbers times powers of 2, compared.
use Rattle.std.proofs.Common.{◌≡◌, ℕ, suc, zero, ◌+◌, ◌-◌, ◌*◌, ◌^◌, ◌<◌, ◌≤◌, ap, sym, ◌∙◌, subst, arith, ℤ, pos, negsuc, neg_ℤ, ◌≤ℤ◌, ◌<ℤ◌, ◌↔◌, ◌%◌, IsTrue, refl, lit<, to_z, of_z}
use Rattle.std.proofs.Math.IntN.{◌*ℤ◌, *ℤ_comm, pos-*ℤ-pos}
use Rattle.std.proofs.Math.Nat.{mul_assoc}
use lib.Signed.{lt_z}
use Rattle.std.proofs.Math.Pow.{pow_mono}
use Rattle.std.specs.Int.{w128}
use Rattle.std.specs.Prelude.{FitsSigned, unsigned_abs}
use Rattle.std.proofs.lemmas.Int.{by_lt_z, ints, to_z-of_z, to_z_pos}
use Rattle.std.proofs.lemmas.Nat.{one_shl, pow-add}
use Rattle.mcf_flows.specs.WellFormed.{IsUpTo}
use Rattle.mcf_flows.proofs.Bounds.{mul_up_to, read_back}
use Rattle.mcf_flows.proofs.IntLaws.{mul-anti, mul-one, mul-mono, mul-mono_left, mul-mono_lt, neg-mul}

-- two factors at once
scale_scale_pos : (a m n : ℕ) → (pos a *ℤ pos m) *ℤ pos n ≡ pos a *ℤ pos (m * n)
scale_scale_pos a m n =
    ap (λ z. z *ℤ pos n) (pos-*ℤ-pos a m) ∙ pos-*ℤ-pos (a * m) n ∙ ap pos (mul_assoc a m n) ∙ sym (pos-*ℤ-pos a (m * n))

pub scale_scale : (a : ℤ) (m n : ℕ) → (a *ℤ pos m) *ℤ pos n ≡ a *ℤ pos (m * n)
scale_scale (pos a) m n = scale_scale_pos a m n
scale_scale (negsuc a) m n =
    ap (λ z. z *ℤ pos n) (neg-mul (pos (suc a)) (pos m)) ∙ neg-mul (pos (suc a) *ℤ pos m) (pos n) ∙ ap neg_ℤ (scale_scale_pos (suc a) m n)
    ∙ sym (neg-mul (pos (suc a)) (pos (m * n)))

-- a factor above 0 keeps an order both ways
pub scale_back : (a b : ℤ) (n : ℕ) → 0 < n → (a *ℤ pos n) ≤ℤ (b *ℤ pos n) → a ≤ℤ b
scale_back a b n h le =
    by_lt_z b a
    (λ less. absurd (let more = mul-mono_lt (pos n) b a (omega (arith, ints)) less in omega (arith, ints, le, more, *ℤ_comm a (pos n), *ℤ_comm b (pos n))))
    (λ done. done)

pub scale_up : (a b : ℤ) (n : ℕ) → a ≤ℤ b → (a *ℤ pos n) ≤ℤ (b *ℤ pos n)
scale_up a b n le = mul-mono_left a b (pos n) (omega (arith, ints)) le

pub power_above_zero : (k : ℕ) → 0 < 2 ^ k
power_above_zero zero = omega arith
power_above_zero (suc k) = let before = power_above_zero k in omega (arith, pow-add 2 1 k)

-- a power apart
pub power_apart : (m : ℤ) (low high : ℕ) → low ≤ high → m *ℤ pos (2 ^ high) ≡ (m *ℤ pos (2 ^ (high - low))) *ℤ pos (2 ^ low)
power_apart m low high h =
    let e : high - low + low ≡ high = omega arith in
    ap (λ n. m *ℤ pos (2 ^ n)) (sym e) ∙ ap (λ n. m *ℤ pos n) (pow-add 2 (high - low) low) ∙ sym (scale_scale m (2 ^ (high - low)) (2 ^ low))

-- the sum in units of a lower power: both sides divided by it
pub up_exact : (sum m : ℤ) (unit shift : ℕ) → unit ≤ shift
    → (sum ≤ℤ (m *ℤ pos (2 ^ (shift - unit)))) ↔ ((sum *ℤ pos (2 ^ unit)) ≤ℤ (m *ℤ pos (2 ^ shift)))
up_exact sum m unit shift h =
    let e = power_apart m unit shift h in (
      (λ le. subst (λ z. (sum *ℤ pos (2 ^ unit)) ≤ℤ z) (sym e) (scale_up sum (m *ℤ pos (2 ^ (shift - unit))) (2 ^ unit) le)),
      (λ le. scale_back sum (m *ℤ pos (2 ^ (shift - unit))) (2 ^ unit) (power_above_zero unit) (subst (λ z. (sum *ℤ pos (2 ^ unit)) ≤ℤ z) e le)),
    )

pub down_exact : (sum m : ℤ) (unit shift : ℕ) → shift ≤ unit
    → ((sum *ℤ pos (2 ^ (unit - shift))) ≤ℤ m) ↔ ((sum *ℤ pos (2 ^ unit)) ≤ℤ (m *ℤ pos (2 ^ shift)))
down_exact sum m unit shift h =
    let e = power_apart sum shift unit h in (
      (λ le. subst (λ z. z ≤ℤ (m *ℤ pos (2 ^ shift))) (sym e) (scale_up (sum *ℤ pos (2 ^ (unit - shift))) m (2 ^ shift) le)),
      (λ le. scale_back (sum *ℤ pos (2 ^ (unit - shift))) m (2 ^ shift) (power_above_zero shift) (subst (λ z. z ≤ℤ (m *ℤ pos (2 ^ shift))) e le)),
    )

-- ---- far apart

power_least : (k : ℕ) → 74 ≤ k → pos (2 ^ 74) ≤ℤ pos (2 ^ k)
power_least k h = let le : 2 ^ 74 ≤ 2 ^ k = pow_mono h in omega (arith, ints, le)

pub far_up : (sum m : ℤ) (k : ℕ) → 74 ≤ k → IsUpTo (2 ^ 126 - 1) sum → 2 ^ 52 ≤ unsigned_abs m → pos 0 <ℤ m ↔ (sum ≤ℤ (m *ℤ pos (2 ^ k)))
far_up sum (pos n) k h small size =
    let low : pos (2 ^ 52) ≤ℤ pos n = omega (arith, ints) in
    let first : (pos (2 ^ 52) *ℤ pos (2 ^ k)) ≤ℤ (pos n *ℤ pos (2 ^ k)) = mul-mono_left (pos (2 ^ 52)) (pos n) (pos (2 ^ k)) (omega (arith, ints)) low in
    let second : pos (2 ^ 126) ≤ℤ (pos (2 ^ 52) *ℤ pos (2 ^ k)) = mul-mono (pos (2 ^ 52)) (pos (2 ^ 74)) (pos (2 ^ k)) (omega (arith, ints)) (power_least k h) in
    ((λ p. omega (arith, ints, first, second)), (λ le. omega (arith, ints, low)))
far_up sum (negsuc n) k h small size =
    let low : negsuc n ≤ℤ neg_ℤ (pos (2 ^ 52)) = omega (arith, ints) in
    let first : (negsuc n *ℤ pos (2 ^ k)) ≤ℤ (neg_ℤ (pos (2 ^ 52)) *ℤ pos (2 ^ k)) =
    mul-mono_left (negsuc n) (neg_ℤ (pos (2 ^ 52))) (pos (2 ^ k)) (omega (arith, ints)) low in
    let second : (neg_ℤ (pos (2 ^ 52)) *ℤ pos (2 ^ k)) ≤ℤ neg_ℤ (pos (2 ^ 126)) =
    mul-anti (neg_ℤ (pos (2 ^ 52))) (pos (2 ^ 74)) (pos (2 ^ k)) (omega (arith, ints)) (power_least k h) in
    ((λ p. absurd (omega (arith, ints))), (λ le. absurd (omega (arith, ints, first, second, le, small))))

pub far_down : (sum m : ℤ) (k : ℕ) → 74 ≤ k → IsUpTo (2 ^ 53 - 1) m → (sum ≡ pos 0 → ⊥) → sum <ℤ pos 0 ↔ ((sum *ℤ pos (2 ^ k)) ≤ℤ m)
far_down sum m k h small other =
    by_lt_z sum (pos 0)
    (λ below.
    let first : (sum *ℤ pos (2 ^ k)) ≤ℤ (neg_ℤ (pos 1) *ℤ pos (2 ^ k)) = mul-mono_left sum (neg_ℤ (pos 1)) (pos (2 ^ k)) (omega (arith, ints)) (omega (arith, ints)) in
    let second : (neg_ℤ (pos 1) *ℤ pos (2 ^ k)) ≤ℤ neg_ℤ (pos (2 ^ 74)) =
    mul-anti (neg_ℤ (pos 1)) (pos (2 ^ 74)) (pos (2 ^ k)) (omega (arith, ints)) (power_least k h) in
    ((λ p. omega (arith, ints, first, second, small)), (λ le. below)))
    (λ least.
    let above : pos 1 ≤ℤ sum = at_least_one sum least other in
    let first : (pos 1 *ℤ pos (2 ^ k)) ≤ℤ (sum *ℤ pos (2 ^ k)) = mul-mono_left (pos 1) sum (pos (2 ^ k)) (omega (arith, ints)) above in
    let second : pos (2 ^ 74) ≤ℤ (pos 1 *ℤ pos (2 ^ k)) = mul-mono (pos 1) (pos (2 ^ 74)) (pos (2 ^ k)) (omega (arith, ints)) (power_least k h) in
    ((λ p. absurd (omega (arith, ints, p, above))), (λ le. absurd (omega (arith, ints, first, second, le, small)))))
  where
    at_least_one : (z : ℤ) → pos 0 ≤ℤ z → (z ≡ pos 0 → ⊥) → pos 1 ≤ℤ z
    at_least_one (pos zero) l o = absurd (o refl)
    at_least_one (pos (suc n)) l o = omega (arith, ints)
    at_least_one (negsuc n) l o = absurd (omega (arith, ints))

-- a sum above every mantissa stays above it
pub too_great : (sum m : ℤ) (k : ℕ) → pos (2 ^ 53) <ℤ sum → IsUpTo (2 ^ 53 - 1) m → (sum *ℤ pos (2 ^ k)) ≤ℤ m → ⊥
too_great sum m k more small le =
    let one : pos 1 ≤ℤ pos (2 ^ k) = omega (arith, ints, power_above_zero k) in
    let kept : (sum *ℤ pos 1) ≤ℤ (sum *ℤ pos (2 ^ k)) = mul-mono sum (pos 1) (pos (2 ^ k)) (omega (arith, ints)) one in
    omega (arith, ints, kept, le, more, small, mul-one sum)

-- ---- read back

pub power_read : (k : ℕ) → k ≤ 74 → (to_z w128 (1 * 2 ^ k % 2 ^ 128) ≡ pos (2 ^ k)) × FitsSigned w128 (pos (1 * 2 ^ k % 2 ^ 128))
power_read k h =
    let e : 1 * 2 ^ k % 2 ^ 128 ≡ 2 ^ k = one_shl k 128 (omega arith) in
    let le : 2 ^ k ≤ 2 ^ 74 = pow_mono h in
    (to_z_pos w128 (1 * 2 ^ k % 2 ^ 128) (omega (arith, e, le)) ∙ ap pos e, omega (arith, ints, e, le))

pub product_read : (a p : ℤ) (k : ℕ) → IsUpTo (2 ^ 53) a → k < 74 → p ≡ pos (2 ^ k)
    → (to_z w128 (of_z w128 (to_z w128 (of_z w128 a) *ℤ to_z w128 (of_z w128 p))) ≡ a *ℤ pos (2 ^ k))
    × FitsSigned w128 (to_z w128 (of_z w128 a) *ℤ to_z w128 (of_z w128 p))
product_read a p k small h e =
    let low : k ≤ 73 = omega arith in
    let le : 2 ^ k ≤ 2 ^ 73 = pow_mono low in
    let power : IsUpTo (2 ^ 73) (pos (2 ^ k)) = (omega (arith, ints), omega (arith, ints, le)) in
    let product : IsUpTo (2 ^ 53 * 2 ^ 73) (a *ℤ pos (2 ^ k)) = mul_up_to a (pos (2 ^ k)) (2 ^ 53) (2 ^ 73) small power in
    let fits : FitsSigned w128 (a *ℤ pos (2 ^ k)) = omega (arith, ints, product.0, product.1) in
    let same : to_z w128 (of_z w128 a) *ℤ to_z w128 (of_z w128 p) ≡ a *ℤ pos (2 ^ k) =
    rw (read_back a (2 ^ 53) small (lit< tt), e, read_back (pos (2 ^ k)) (2 ^ 73) power (lit< tt)) refl in
    (ap (λ z. to_z w128 (of_z w128 z)) same ∙ to_z-of_z w128 (a *ℤ pos (2 ^ k)) fits, subst (FitsSigned w128) (sym same) fits)

-- a test of an order
pub tests_less : (x y : ℤ) (P : Type 0) → x <ℤ y ↔ P → IsTrue (lt_z x y) ↔ P
tests_less x y P i = ((λ h. i.0 (there x y h)), (λ p. back x y (i.1 p)))
  where
    there : (x y : ℤ) → IsTrue (lt_z x y) → x <ℤ y
    there x y h = omega (arith, ints)

    back : (x y : ℤ) → x <ℤ y → IsTrue (lt_z x y)
    back x y h = sym (omega (arith, ints))
