-- The rooms of steps up to the price drop, as loops add them up.
use Rattle.std.proofs.Common.{◌≡◌, ℕ, suc, ◌+◌, ◌<◌, ◌≤◌, true, false, List, [], ◌∷◌, add-one, refl, ap, sym, ◌∙◌, arith, drop, drop-cons, get_or, length, ℤ, pos, ◌+ℤ◌, int_lt}
use Rattle.std.specs.Prelude.{Option, Some, None, int_le, option_map}
use Rattle.std.proofs.lemmas.Int.{ints}
use Rattle.std.proofs.lemmas.List.{drop_all}
use Rattle.mcf_model.specs.declared.rows.Step.{Step}
use Rattle.mcf_unit_ranges.specs.Spans.{room_below, room_up_to}

module _ (own : List Step) (i : ℕ) (d : Step) (z c cost x : ℤ) (most : Option ℤ) where
  abbrev here : Step
  here = get_or own i d

  module _ (h : i < length own) (e : cost ≡ here.cost) where
    below_at : room_below z (drop i own) c most ≡ room_below z (here ∷ drop (suc i) own) c most
    below_at = ap (λ ss. room_below z ss c most) (drop-cons own i d h)

    up_at : room_up_to z (drop i own) c most ≡ room_up_to z (here ∷ drop (suc i) own) c most
    up_at = ap (λ ss. room_up_to z ss c most) (drop-cons own i d h)

    pub below_more : int_lt cost z ≡ true → x ≡ here.most → room_below z (drop i own) c most ≡ x +ℤ room_below z (drop (i + 1) own) c most
    below_more test is =
        rw (add-one, below_at) (rw (sym (ap (λ k. int_lt k z) e) ∙ test) (ap (λ w. w +ℤ room_below z (drop (suc i) own) c most) (sym is)))

    pub below_none : int_lt cost z ≡ false → room_below z (drop i own) c most ≡ pos 0
    below_none test = rw below_at (rw (sym (ap (λ k. int_lt k z) e) ∙ test) refl)

    pub up_more : int_le cost z ≡ true → x ≡ here.most → room_up_to z (drop i own) c most ≡ option_map (λ y. x +ℤ y) (room_up_to z (drop (i + 1) own) c most)
    up_more test is =
        rw (add-one, up_at) (rw (sym (ap (λ k. int_le k z) e) ∙ test) (ap (λ w. option_map (λ y. w +ℤ y) (room_up_to z (drop (suc i) own) c most)) (sym is)))

    pub up_none : int_le cost z ≡ false → room_up_to z (drop i own) c most ≡ Some (pos 0)
    up_none test = rw up_at (rw (sym (ap (λ k. int_le k z) e) ∙ test) refl)

pub below_end : (own : List Step) (i : ℕ) (z c : ℤ) (most : Option ℤ) → length own ≤ i → room_below z (drop i own) c most ≡ room_below z [] c most
below_end own i z c most h = ap (λ ss. room_below z ss c most) (drop_all i own h)

pub up_end : (own : List Step) (i : ℕ) (z c : ℤ) (most : Option ℤ) → length own ≤ i → room_up_to z (drop i own) c most ≡ room_up_to z [] c most
up_end own i z c most h = ap (λ ss. room_up_to z ss c most) (drop_all i own h)

-- the sum so far, and the room of the steps that are left
pub up_next : (t t' x : ℤ) (o next whole : Option ℤ) → t' ≡ t +ℤ x → o ≡ option_map (λ y. x +ℤ y) next → option_map (λ y. t +ℤ y) o ≡ whole
    → option_map (λ y. t' +ℤ y) next ≡ whole
up_next t t' x o next whole e is before = same next ∙ sym (ap (option_map (λ y. t +ℤ y)) is) ∙ before
  where
    same : (next : Option ℤ) → option_map (λ y. t' +ℤ y) next ≡ option_map (λ y. t +ℤ y) (option_map (λ y. x +ℤ y) next)
    same (Some y) = ap Some (omega (arith, ints, e))
    same None = refl
