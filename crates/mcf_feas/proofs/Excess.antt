-- What the nodes with a surplus have left to send: it grows with no push, and falls with each path.
use Rattle.std.proofs.Common.{◌≡◌, ℕ, ◌<◌, true, eqb, refl, ap, ◌∙◌, arith, ℤ, pos, negsuc, ◌+ℤ◌, ◌-ℤ◌, ◌≤ℤ◌, ◌<ℤ◌, inl, inr}
use Rattle.std.proofs.lemmas.Int.{ints, by_lt_z}
use Rattle.std.proofs.lemmas.Bool.{cases_eq}
use Rattle.mcf_flows.specs.Network.{Network, IsNode, node_count, node_sum, when}
use Rattle.mcf_flows.proofs.NodeSums.{node_sum-add, node_sum-in, node_sum-le, node_sum-same, node_sum-sub, node_sum_at_least_zero}
use Rattle.mcf_network.specs.States.{Pseudoflow, IsPseudoflow, MovesSurplus, surplus_at}
use Rattle.mcf_network.proofs.StateLaws.{when-same, when-other}
use Rattle.mcf_feas.specs.Private.Pushing.{IsPushedOn, above_zero, excess}
use Rattle.mcf_feas.specs.Private.Searching.{IsAugmented}

above_zero-high : (x : ℤ) → pos 0 ≤ℤ x → pos (above_zero x) ≡ x
above_zero-high (pos n) h = refl
above_zero-high (negsuc n) h = absurd (omega (arith, ints))

above_zero-low : (x : ℤ) → x ≤ℤ pos 0 → pos (above_zero x) ≡ pos 0
above_zero-low (pos n) h = omega (arith, ints)
above_zero-low (negsuc n) h = refl

above_zero_least : (x : ℤ) → x ≤ℤ pos (above_zero x)
above_zero_least (pos n) = omega (arith, ints)
above_zero_least (negsuc n) = omega (arith, ints)

-- more by y at most
above_zero-more : (x y : ℤ) → pos 0 ≤ℤ y → pos (above_zero (x +ℤ y)) ≤ℤ (pos (above_zero x) +ℤ y)
above_zero-more x y h =
    let least = above_zero_least x in
    by_lt_z (x +ℤ y) (pos 0)
    (λ p. let low = above_zero-low (x +ℤ y) (omega (arith, ints, p)) in omega (arith, ints, low, h))
    (λ p. let high = above_zero-high (x +ℤ y) (omega (arith, ints, p)) in omega (arith, ints, high, least))

-- x of what u has left to send moves from u to w
module _ (n : ℕ) (f g : ℕ → ℤ) (u w : ℕ) (x : ℤ) (moved : (v : ℕ) → IsNode n v → g v ≡ f v -ℤ when (eqb u v) x +ℤ when (eqb w v) x) (from : x ≤ℤ f u) where
  -- w takes as much
  module _ (positive : pos 0 <ℤ x) (to : (x +ℤ f w) ≤ℤ pos 0) where
    falls_at : (v : ℕ) → IsNode n v → pos (above_zero (g v)) ≡ pos (above_zero (f v)) -ℤ when (eqb u v) x
    falls_at v h = elim (cases_eq v u) [
      | inl e ↦ elim (cases_eq v w) [
        | inl d ↦ (let a = ap f e in let b = ap f d in absurd (omega (arith, ints, a, b, from, to, positive)))
        | inr d ↦ (let m = moved v h in let a = ap f e in let s = when-same u v x e in let o = when-other w v x d in
            let after = above_zero-high (g v) (omega (arith, ints, m, a, s, o, from)) in
            let before = above_zero-high (f v) (omega (arith, ints, a, from, positive)) in
            omega (arith, ints, m, a, s, o, from, after, before))
      ]
      | inr e ↦ elim (cases_eq v w) [
        | inl d ↦ (let m = moved v h in let b = ap f d in let s = when-other u v x e in let o = when-same w v x d in
            let after = above_zero-low (g v) (omega (arith, ints, m, b, s, o, to)) in
            let before = above_zero-low (f v) (omega (arith, ints, b, to, positive)) in
            omega (arith, ints, m, b, s, o, after, before))
        | inr d ↦ (let m = moved v h in let s = when-other u v x e in let o = when-other w v x d in
            let z : g v ≡ f v = omega (arith, ints, m, s, o) in let same = ap above_zero z in omega (arith, ints, s, same))
      ]
    ]

    total_falls : IsNode n u → node_sum (λ v. pos (above_zero (g v))) n ≡ node_sum (λ v. pos (above_zero (f v))) n -ℤ x
    total_falls h =
        let one = node_sum-in (λ _. true) u x n h in
        let split = node_sum-sub (λ v. pos (above_zero (f v))) (λ v. when (eqb u v) x) n in
        let same = node_sum-same (λ v. pos (above_zero (g v))) (λ v. pos (above_zero (f v)) -ℤ when (eqb u v) x) n falls_at in
        omega (arith, ints, one, split, same)

  -- w may take less, or nothing
  module _ (low : pos 0 ≤ℤ x) where
    rises_at_most : (v : ℕ) → IsNode n v → pos (above_zero (g v)) ≤ℤ (pos (above_zero (f v)) -ℤ when (eqb u v) x +ℤ when (eqb w v) x)
    rises_at_most v h = elim (cases_eq v u) [
      | inl e ↦ elim (cases_eq v w) [
        | inl d ↦ (let m = moved v h in let s = when-same u v x e in let o = when-same w v x d in let z : g v ≡ f v = omega (arith, ints, m, s, o) in
            let same = ap above_zero z in omega (arith, ints, s, o, same))
        | inr d ↦ (let m = moved v h in let a = ap f e in let s = when-same u v x e in let o = when-other w v x d in
            let after = above_zero-high (g v) (omega (arith, ints, m, a, s, o, from)) in
            let before = above_zero-high (f v) (omega (arith, ints, a, from, low)) in
            omega (arith, ints, m, a, s, o, from, after, before))
      ]
      | inr e ↦ elim (cases_eq v w) [
        | inl d ↦ (let m = moved v h in let s = when-other u v x e in let o = when-same w v x d in
            let z : g v ≡ f v +ℤ x = omega (arith, ints, m, s, o) in let same = ap above_zero z in let more = above_zero-more (f v) x low in
            omega (arith, ints, s, o, same, more))
        | inr d ↦ (let m = moved v h in let s = when-other u v x e in let o = when-other w v x d in
            let z : g v ≡ f v = omega (arith, ints, m, s, o) in let same = ap above_zero z in omega (arith, ints, s, o, same))
      ]
    ]

    total_rises_not : IsNode n u → IsNode n w → node_sum (λ v. pos (above_zero (g v))) n ≤ℤ node_sum (λ v. pos (above_zero (f v))) n
    total_rises_not h k =
        let left = node_sum-in (λ _. true) u x n h in
        let come = node_sum-in (λ _. true) w x n k in
        let split = node_sum-sub (λ v. pos (above_zero (f v))) (λ v. when (eqb u v) x) n in
        let join = node_sum-add (λ v. pos (above_zero (f v)) -ℤ when (eqb u v) x) (λ v. when (eqb w v) x) n in
        let most = node_sum-le (λ v. pos (above_zero (g v))) (λ v. pos (above_zero (f v)) -ℤ when (eqb u v) x +ℤ when (eqb w v) x) n rises_at_most in
        omega (arith, ints, left, come, split, join, most)

excess_at : (s : Pseudoflow) → pos (excess s) ≡ node_sum (λ v. pos (above_zero (surplus_at s v))) (node_count s.net)
unfolding excess
excess_at s =
    above_zero-high (node_sum (λ v. pos (above_zero (surplus_at s v))) (node_count s.net)) (node_sum_at_least_zero (λ v. pos (above_zero
    (surplus_at s v))) (node_count s.net) (λ v h. omega (arith, ints)))

pub excess_falls : (s s' : Pseudoflow) → IsAugmented s s' → excess s' < excess s
excess_falls s s' step =
    let same = ap (λ (g : Network). node_sum (λ v. pos (above_zero (surplus_at s' v))) (node_count g)) step.net in
    let fall = total_falls (node_count s.net) (surplus_at s)
    (surplus_at s') step.source step.target step.amount step.moves step.held step.positive step.taken step.is_node in
    omega (arith, ints, excess_at s, excess_at s', same, fall, step.positive)

-- ---- pushes

pub pushed_none : (s : Pseudoflow) → IsPseudoflow s → IsPushedOn s s
pushed_none s ok = record { net = refl; flow = ok; no_more = omega arith }

pub pushed_more : (s t r : Pseudoflow) → IsPushedOn s t → IsPushedOn t r → IsPushedOn s r
pushed_more s t r one two =
    let a = one.no_more in
    let b = two.no_more in
    record { net = two.net ∙ one.net; flow = two.flow; no_more = omega (arith, a, b) }

-- what u has left to send, or less of it, is pushed from u to w
pub pushed_one : (s s' : Pseudoflow) (u w : ℕ) (x : ℤ) → s'.net ≡ s.net → IsPseudoflow s' → MovesSurplus s s' u w x → IsNode (node_count s.net) u
    → IsNode (node_count s.net) w → pos 0 ≤ℤ x → x ≤ℤ surplus_at s u → IsPushedOn s s'
pushed_one s s' u w x net ok moves hu hw low held =
    let same = ap (λ (g : Network). node_sum (λ v. pos (above_zero (surplus_at s' v))) (node_count g)) net in
    let most = total_rises_not (node_count s.net) (surplus_at s) (surplus_at s') u w x moves held low hu hw in
    record { net = net; flow = ok; no_more = omega (arith, ints, excess_at s, excess_at s', same, most) }
