-- Numbers rounded down to multiples of a power of 2.
use Rattle.std.proofs.Common.{◌≡◌, ℕ, suc, ◌+◌, ◌-◌, ◌*◌, ◌/◌, ◌%◌, ◌^◌, ◌<◌, Bool, true, false, not, IsTrue, ◌↔◌, IfSome, IsSome, Option, Some, None, List, unwrap_or, ap, ◌∙◌, refl, arith, ℤ, pos, negsuc, neg_ℤ, ◌+ℤ◌, ◌-ℤ◌, ◌≤ℤ◌}
use Rattle.std.proofs.Math.IntN.{◌*ℤ◌, *ℤ_comm, pos-*ℤ-pos}
use Rattle.std.proofs.Math.Nat.{div-add-mod, mod-lt, mul_comm}
use Rattle.std.proofs.lemmas.Int.{by_lt_z, ints}
use Rattle.mcf_flows.proofs.IntLaws.{add-mul, neg-mul, one-mul}
use Rattle.mcf_matrix.specs.Costs.{Costs}
use Rattle.mcf_matrix.specs.MatrixPrices.{AreNoneBelow, reduced_cost}
use Rattle.mcf_matrix.specs.PlaceSums.{at_place}
use Rattle.mcf_matrix_doubles.specs.DoublePrices.{in_units}
use Rattle.mcf_matrix_doubles.specs.Rounding.{cost_read, costs_read, most_lost, quotient_down, rounded_down}
use Rattle.mcf_matrix_doubles.proofs.Covering.{price_at}
use Rattle.mcf_matrix_doubles.proofs.Powers.{power_above_zero, scale_back, scale_up}

-- rounding down loses less than 2^k
pub lost : (k : ℕ) (z : ℤ) → (rounded_down k z ≤ℤ z) × (z ≤ℤ (rounded_down k z +ℤ pos (2 ^ k - 1)))
lost k (pos n) =
    let above = power_above_zero k in
    let whole = div-add-mod n (2 ^ k) in
    let less : n % 2 ^ k < 2 ^ k = mod-lt n above in
    let is = pos-*ℤ-pos (n / 2 ^ k) (2 ^ k) in
    let order = mul_comm (n / 2 ^ k) (2 ^ k) in
    (omega (arith, ints, is, whole, order), omega (arith, ints, is, whole, order, less, above))
lost k (negsuc n) =
    let above = power_above_zero k in
    let whole = div-add-mod n (2 ^ k) in
    let less : n % 2 ^ k < 2 ^ k = mod-lt n above in
    let is : negsuc (n / 2 ^ k) *ℤ pos (2 ^ k) ≡ neg_ℤ (pos (suc (n / 2 ^ k) * 2 ^ k)) =
    neg-mul (pos (suc (n / 2 ^ k))) (pos (2 ^ k)) ∙ ap neg_ℤ (pos-*ℤ-pos (suc (n / 2 ^ k)) (2 ^ k)) in
    let next : suc (n / 2 ^ k) * 2 ^ k ≡ 2 ^ k * (n / 2 ^ k) + 2 ^ k = omega (arith, mul_comm (n / 2 ^ k) (2 ^ k)) in
    (omega (arith, ints, is, next, whole, less), omega (arith, ints, is, next, whole, less, above))

-- a multiple that is at most a number is at most the same rounded down
pub multiple_below : (k : ℕ) (a z : ℤ) → (a *ℤ pos (2 ^ k)) ≤ℤ z → (a *ℤ pos (2 ^ k)) ≤ℤ rounded_down k z
multiple_below k a z le =
    let q = quotient_down k z in
    by_lt_z q a
    (λ less.
    let up = scale_up (q +ℤ pos 1) a (2 ^ k) (omega (arith, ints, less)) in
    absurd (omega (arith, ints, up, le, (lost k z).1, add-mul q (pos 1) (pos (2 ^ k)), one-mul (pos (2 ^ k)), power_above_zero k)))
    (λ most. scale_up a q (2 ^ k) most)

-- a number rounded down is a multiple where that is at most the number, and the next one is above
pub rounded_is : (k : ℕ) (a z : ℤ) → (rounded_down k z ≡ a *ℤ pos (2 ^ k)) ↔ (((a *ℤ pos (2 ^ k)) ≤ℤ z) × ((((a +ℤ pos 1) *ℤ pos (2 ^ k)) ≤ℤ z) → ⊥))
rounded_is k a z =
    let next = add-mul a (pos 1) (pos (2 ^ k)) in
    let one = one-mul (pos (2 ^ k)) in
    let above = power_above_zero k in
    let q = quotient_down k z in (
      (λ e. (omega (arith, ints, e, (lost k z).0), (λ le. let more = multiple_below k (a +ℤ pos 1) z le in omega (arith, ints, more, e, next, one, above)))),
      (λ h.
          let least : a ≤ℤ q = scale_back a q (2 ^ k) above (multiple_below k a z h.0) in
          let most : q ≤ℤ a =
          by_lt_z a q
          (λ less. absurd (h.1 (let up = scale_up (a +ℤ pos 1) q (2 ^ k) (omega (arith, ints, less)) in omega (arith, ints, up, (lost k z).0))))
          (λ done. done) in
          let same : q ≡ a = omega (arith, ints, least, most) in
          ap (λ y. y *ℤ pos (2 ^ k)) same),
    )

-- ---- costs that are read so

pub allowed_same : (k : ℕ) (is_rounded : Bool) (o : Option ℤ) → IsSome (cost_read k is_rounded o) ↔ IsSome o
allowed_same k false o = ((λ h. h), (λ h. h))
allowed_same k true None = ((λ h. h), (λ h. h))
allowed_same k true (Some c) = ((λ h. refl), (λ h. refl))

-- what a cost loses
pub read_lost : (k : ℕ) (is_rounded : Bool) (o : Option ℤ)
    → (unwrap_or (cost_read k is_rounded o) (pos 0) ≤ℤ unwrap_or o (pos 0))
    × (unwrap_or o (pos 0) ≤ℤ (unwrap_or (cost_read k is_rounded o) (pos 0) +ℤ most_lost k is_rounded (pos 1)))
read_lost k false o = (omega (arith, ints), omega (arith, ints))
read_lost k true None = (omega (arith, ints), omega (arith, ints, one-mul (pos (2 ^ k - 1))))
read_lost k true (Some c) = ((lost k c).0, omega (arith, ints, (lost k c).1, one-mul (pos (2 ^ k - 1))))

pub lost_is : (k : ℕ) (is_rounded : Bool) (amount : ℤ) → most_lost k is_rounded (pos 1) *ℤ amount ≡ most_lost k is_rounded amount
lost_is k false amount = omega (arith, ints)
lost_is k true amount = ap (λ z. z *ℤ amount) (one-mul (pos (2 ^ k - 1))) ∙ *ℤ_comm (pos (2 ^ k - 1)) amount

-- prices that are multiples leave no reduced cost below 0 where costs are rounded down, exactly if
-- they do where they aren't
none_below_same : (k : ℕ) (is_rounded : Bool) (o : Option ℤ) (a b A B : ℤ) → A ≡ a *ℤ pos (2 ^ k) → B ≡ b *ℤ pos (2 ^ k)
    → IfSome (cost_read k is_rounded o) (λ c. pos 0 ≤ℤ (c -ℤ A -ℤ B)) ↔ IfSome o (λ c. pos 0 ≤ℤ (c -ℤ A -ℤ B))
none_below_same k false o a b A B e f = ((λ h. h), (λ h. h))
none_below_same k true None a b A B e f = ((λ h. h), (λ h. h))
none_below_same k true (Some c) a b A B e f =
    let sum = add-mul a b (pos (2 ^ k)) in (
      (λ le. omega (arith, ints, le, (lost k c).0)),
      (λ le. let down = multiple_below k (a +ℤ b) c (omega (arith, ints, le, sum, e, f)) in omega (arith, ints, down, sum, e, f)),
    )

pub none_below_read : (k : ℕ) (r : Bool) (m : Costs) (u v : List ℤ)
    → AreNoneBelow (costs_read k r m) (in_units k u) (in_units k v) ↔ AreNoneBelow m (in_units k u) (in_units k v)
none_below_read k r m u v = (
  (λ h i j p. (same i j).0 (h i j p)),
  (λ h i j p. (same i j).1 (h i j p)),
)
  where
    same : (i j : ℕ) → IfSome (cost_read k r (m.cost i j)) (λ c. pos 0 ≤ℤ reduced_cost (in_units k u) (in_units k v) i j c)
        ↔ IfSome (m.cost i j) (λ c. pos 0 ≤ℤ reduced_cost (in_units k u) (in_units k v) i j c)
    same i j =
        none_below_same k r (m.cost i j) (at_place u i) (at_place v j) (at_place (in_units k u) i) (at_place (in_units k v) j) (price_at k u i) (price_at k v j)

-- a fact that holds, and a test that fails
pub test_fails : (s : Bool) (A B C : Type 0) → A → IsTrue s ↔ B → C ↔ (A × (B → ⊥)) → IsTrue (not s) ↔ C
test_fails true A B C a j k = ((λ t. absurd (cc)), (λ c. absurd ((k.0 c).1 (j.0 refl))))
test_fails false A B C a j k = ((λ t. k.1 (a, (λ b. let t = j.1 b in absurd (cc)))), (λ c. refl))
