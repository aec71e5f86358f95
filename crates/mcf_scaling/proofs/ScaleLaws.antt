-- The scale of the first phase.
use Rattle.std.proofs.Common.{◌≡◌, ℕ, zero, suc, ◌*◌, ◌^◌, ◌%◌, ◌≤◌, ap, ◌∙◌, arith, pos, to_z}
use mir.Syntax.{w128}
use Rattle.std.proofs.Math.Nat.{mod-eq_of_lt, pow-le-pow_right}
use Rattle.std.proofs.lemmas.Int.{to_z_pos}

pub power_small : (k : ℕ) → k ≤ 70 → 2 ^ k ≤ 2 ^ 70
power_small k h = pow-le-pow_right (omega arith) h

pub power_read : (k : ℕ) → k ≤ 70 → to_z w128 (1 * 2 ^ k % 340282366920938463463374607431768211456) ≡ pos (2 ^ k)
power_read k h =
    let small = power_small k h in
    let one : 1 * 2 ^ k ≡ 2 ^ k = omega arith in
    let wraps : 1 * 2 ^ k % 340282366920938463463374607431768211456 ≡ 2 ^ k = ap (λ n. n % 340282366920938463463374607431768211456) one ∙ mod-eq_of_lt
    (omega (arith, small)) in
    rw wraps (to_z_pos w128 (2 ^ k) (omega (arith, small)))
