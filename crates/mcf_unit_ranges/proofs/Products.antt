-- Products of three integers.
use Rattle.std.proofs.Common.{◌≡◌, ℕ, zero, suc, ap, sym, ◌∙◌, arith, ℤ, pos, negsuc, neg_ℤ, ◌+ℤ◌}
use Rattle.std.proofs.Math.IntN.{◌*ℤ◌}
use Rattle.std.proofs.lemmas.Int.{ints}
use Rattle.mcf_flows.proofs.IntLaws.{add-mul, neg-mul, one-mul, zero-mul}

module _ (b c : ℤ) where
  next : (p y : ℤ) → (p +ℤ pos 1) *ℤ y ≡ p *ℤ y +ℤ y
  next p y = add-mul p (pos 1) y ∙ ap (λ w. p *ℤ y +ℤ w) (one-mul y)

  not_negative : (n : ℕ) → (pos n *ℤ b) *ℤ c ≡ pos n *ℤ (b *ℤ c)
  not_negative zero = ap (λ z. z *ℤ c) (zero-mul b) ∙ zero-mul c ∙ sym (zero-mul (b *ℤ c))
  not_negative (suc n) =
      let e : pos (suc n) ≡ pos n +ℤ pos 1 = omega (arith, ints) in
      let first : pos (suc n) *ℤ b ≡ pos n *ℤ b +ℤ b = ap (λ p. p *ℤ b) e ∙ next (pos n) b in
      let whole : pos (suc n) *ℤ (b *ℤ c) ≡ pos n *ℤ (b *ℤ c) +ℤ b *ℤ c = ap (λ p. p *ℤ (b *ℤ c)) e ∙ next (pos n) (b *ℤ c) in
      ap (λ z. z *ℤ c) first ∙ add-mul (pos n *ℤ b) b c ∙ ap (λ z. z +ℤ b *ℤ c) (not_negative n) ∙ sym whole

-- (a * b) * c = a * (b * c)
pub mul-assoc : (a b c : ℤ) → (a *ℤ b) *ℤ c ≡ a *ℤ (b *ℤ c)
mul-assoc (pos n) b c = not_negative b c n
mul-assoc (negsuc n) b c =
    let p = pos (suc n) in
    let e : negsuc n ≡ neg_ℤ p = omega (arith, ints) in
    ap (λ a. (a *ℤ b) *ℤ c) e ∙ ap (λ z. z *ℤ c) (neg-mul p b) ∙ neg-mul (p *ℤ b) c ∙ ap neg_ℤ (not_negative b c (suc n)) ∙ sym (neg-mul p (b *ℤ c))
    ∙ ap (λ a. a *ℤ (b *ℤ c)) (sym e)
