-- Laws of ℤ that `omega (arith, ints)` does not know: those of products of two unknowns. An integer
-- z is read as `up z - down z`.
use Rattle.std.proofs.Common.{◌≡◌, zero, suc, ◌*◌, true, ap, ◌∙◌, arith, ℤ, pos, negsuc, ◌+ℤ◌, ◌-ℤ◌, neg_ℤ, ◌≤ℤ◌, ◌<ℤ◌}
use Rattle.std.proofs.Math.IntN.{◌*ℤ◌, *ℤ_comm}
use Rattle.std.proofs.Math.Nat.{mul-le-mul_left}
use Rattle.std.specs.Prelude.{int_le}
use Rattle.std.proofs.lemmas.Int.{ints}
use borrow.Author.Differences.{up, down, sum_is_lem, neg_is, product_is, same_in, le_out, at_most_in}

-- a * (b + c) = a * b + a * c
pub mul-add : (a b c : ℤ) → a *ℤ (b +ℤ c) ≡ a *ℤ b +ℤ a *ℤ c
mul-add a b c =
    same_in (a *ℤ (b +ℤ c)) (a *ℤ b +ℤ a *ℤ c)
    (omega (
      arith,
      product_is a (b +ℤ c),
      product_is a b,
      product_is a c,
      sum_is_lem (a *ℤ b) (a *ℤ c),
      ap (λ n. up a * n) (sum_is_lem b c),
      ap
          (λ n. down a * n) (sum_is_lem b c),
    ))

-- a * (-b) = -(a * b)
pub mul-neg : (a b : ℤ) → a *ℤ neg_ℤ b ≡ neg_ℤ (a *ℤ b)
mul-neg a b =
    let n = neg_is b in
    omega (arith, ints, ap (λ x. up a * x) n.0, ap (λ x. down a * x) n.0, ap (λ x. up a * x) n.1, ap (λ x. down a * x) n.1)

-- (-a) * b = -(a * b)
pub neg-mul : (a b : ℤ) → neg_ℤ a *ℤ b ≡ neg_ℤ (a *ℤ b)
neg-mul a b = *ℤ_comm (neg_ℤ a) b ∙ mul-neg b a ∙ ap neg_ℤ (*ℤ_comm b a)

-- a * (b - c) = a * b - a * c
pub mul-sub : (a b c : ℤ) → a *ℤ (b -ℤ c) ≡ a *ℤ b -ℤ a *ℤ c
mul-sub a b c = mul-add a b (neg_ℤ c) ∙ ap (λ z. a *ℤ b +ℤ z) (mul-neg a c)

-- (a + b) * c = a * c + b * c
pub add-mul : (a b c : ℤ) → (a +ℤ b) *ℤ c ≡ a *ℤ c +ℤ b *ℤ c
add-mul a b c = *ℤ_comm (a +ℤ b) c ∙ mul-add c a b ∙ omega (arith, ints, *ℤ_comm a c, *ℤ_comm b c)

-- (a - b) * c = a * c - b * c
pub sub-mul : (a b c : ℤ) → (a -ℤ b) *ℤ c ≡ a *ℤ c -ℤ b *ℤ c
sub-mul a b c = *ℤ_comm (a -ℤ b) c ∙ mul-sub c a b ∙ omega (arith, ints, *ℤ_comm a c, *ℤ_comm b c)

pub mul-zero : (a : ℤ) → a *ℤ pos 0 ≡ pos 0
mul-zero a = omega (arith, ints)

pub zero-mul : (a : ℤ) → pos 0 *ℤ a ≡ pos 0
zero-mul a = omega (arith, ints)

pub mul-one : (a : ℤ) → a *ℤ pos 1 ≡ a
mul-one a = omega (arith, ints)

pub one-mul : (a : ℤ) → pos 1 *ℤ a ≡ a
one-mul a = omega (arith, ints)

-- a factor that is not negative keeps an order
pub mul-mono : (a b c : ℤ) → pos 0 ≤ℤ a → b ≤ℤ c → (a *ℤ b) ≤ℤ (a *ℤ c)
mul-mono (pos n) b c h k =
    at_most_in (pos n *ℤ b) (pos n *ℤ c)
    (omega (arith, product_is (pos n) b, product_is (pos n) c, mul-le-mul_left n (le_out b c k)))
mul-mono (negsuc n) b c h k = absurd (omega (arith, ints))

-- a factor that is not positive turns it
pub mul-anti : (a b c : ℤ) → a ≤ℤ pos 0 → b ≤ℤ c → (a *ℤ c) ≤ℤ (a *ℤ b)
mul-anti (pos zero) b c h k = omega (arith, ints)
mul-anti (pos (suc n)) b c h k = absurd (omega (arith, ints))
mul-anti (negsuc n) b c h k =
    at_most_in (negsuc n *ℤ c) (negsuc n *ℤ b)
    (omega (arith, product_is (negsuc n) b, product_is (negsuc n) c, mul-le-mul_left (suc n) (le_out b c k)))

-- the same, of the first factor
pub mul-mono_left : (a b c : ℤ) → pos 0 ≤ℤ c → a ≤ℤ b → (a *ℤ c) ≤ℤ (b *ℤ c)
mul-mono_left a b c h k = omega (arith, ints, mul-mono c a b h k, *ℤ_comm a c, *ℤ_comm b c)

pub mul-anti_left : (a b c : ℤ) → c ≤ℤ pos 0 → a ≤ℤ b → (b *ℤ c) ≤ℤ (a *ℤ c)
mul-anti_left a b c h k = omega (arith, ints, mul-anti c a b h k, *ℤ_comm a c, *ℤ_comm b c)

-- a positive factor keeps a strict order, and a negative one turns it
pub mul-mono_lt : (a b c : ℤ) → pos 0 <ℤ a → b <ℤ c → (a *ℤ b) <ℤ (a *ℤ c)
mul-mono_lt a b c h k =
    let le : (a *ℤ (b +ℤ pos 1)) ≤ℤ (a *ℤ c) = mul-mono a (b +ℤ pos 1) c (omega (arith, ints)) (omega (arith, ints)) in
    omega (arith, ints, le, mul-add a b (pos 1), mul-one a)

pub mul-anti_lt : (a b c : ℤ) → a <ℤ pos 0 → b <ℤ c → (a *ℤ c) <ℤ (a *ℤ b)
mul-anti_lt a b c h k =
    let le : (a *ℤ c) ≤ℤ (a *ℤ (b +ℤ pos 1)) = mul-anti a (b +ℤ pos 1) c (omega (arith, ints)) (omega (arith, ints)) in
    omega (arith, ints, le, mul-add a b (pos 1), mul-one a)

-- the sign of a product
pub mul_at_least_zero : (a b : ℤ) → pos 0 ≤ℤ a → pos 0 ≤ℤ b → pos 0 ≤ℤ (a *ℤ b)
mul_at_least_zero a b h k = omega (arith, ints, mul-mono a (pos 0) b h k, mul-zero a)

pub mul_above_zero : (a b : ℤ) → pos 0 <ℤ a → pos 0 <ℤ b → pos 0 <ℤ (a *ℤ b)
mul_above_zero a b h k = omega (arith, ints, mul-mono_lt a (pos 0) b h k, mul-zero a)

pub mul_below_zero : (a b : ℤ) → a <ℤ pos 0 → pos 0 <ℤ b → (a *ℤ b) <ℤ pos 0
mul_below_zero a b h k = omega (arith, ints, mul-anti_lt a (pos 0) b h k, mul-zero a)

-- ---- what a test says

pub at_most : (x y : ℤ) → int_le x y ≡ true → x ≤ℤ y
at_most x y h = grind (arith, ints)

pub at_most_passes : (x y : ℤ) → x ≤ℤ y → int_le x y ≡ true
at_most_passes x y h = grind (arith, ints)
