-- Supplies with units more at one place and less at another, and what they are worth.
use Rattle.std.proofs.Common.{◌≡◌, ℕ, zero, suc, ◌-◌, eqb, Bool, true, false, List, [], ◌∷◌, length, map, refl, ap, sym, ◌∙◌, subst, arith, ℤ, pos, neg_ℤ, ◌+ℤ◌, ◌-ℤ◌, inl, inr}
use Rattle.std.specs.Prelude.{slice_index_or}
use Rattle.std.proofs.Math.IntN.{◌*ℤ◌, *ℤ_comm}
use Rattle.std.proofs.lemmas.Int.{ints}
use Rattle.std.proofs.lemmas.Bool.{cases_eq, eq-eqb, ne_eqb}
use Rattle.std.proofs.lemmas.Grind.{get_or-set_at}
use Rattle.std.proofs.lemmas.List.{get_or-set_other, length-set}
use Rattle.mcf_flows.specs.Network.{IsNode, at_node, when}
use Rattle.mcf_flows.proofs.IntLaws.{mul-add, mul-neg, mul-one, mul-zero, mul-sub}
use Rattle.mcf_flows.proofs.NodeSums.{node_sum-add, node_sum-at, node_sum-mul, node_sum-same}
use Rattle.mcf_model.specs.Model.{Model}
use Rattle.mcf_figures.specs.Changes.{with_more_at}
use Rattle.mcf_figures.proofs.PlanSums.{worth}
use Rattle.mcf_unit_ranges.specs.Changes.{with_units}
use Rattle.mcf_unit_ranges.proofs.Products.{mul-assoc}

pub more_at : (supplies : List ℤ) (u : ℕ) (z : ℤ) (v : ℕ) → IsNode (length supplies) u → IsNode (length supplies) v
    → at_node (with_more_at supplies u z) v ≡ at_node supplies v +ℤ when (eqb u v) z
more_at supplies u z v hu hv =
    elim (cases_eq u v) [
      | inl e ↦ rw (eq-eqb u v e)
          (get_or-set_at supplies (u - 1) (v - 1) (at_node supplies u +ℤ z) (pos 0) (omega (arith, e)) (omega (arith, hu.0, hu.1)) ∙ ap (λ j. at_node supplies j +ℤ z) e)
      | inr ne ↦ rw (ne_eqb u v ne)
          (get_or-set_other supplies (u - 1) (v - 1) (at_node supplies u +ℤ z) (pos 0) (λ e. ne (omega (arith, e, hu.0, hv.0))) ∙ omega (arith, ints))
    ]

more_worth : (prices supplies : List ℤ) (u : ℕ) (z : ℤ) → IsNode (length supplies) u
    → worth prices (with_more_at supplies u z) (length supplies) ≡ worth prices supplies (length supplies) +ℤ at_node prices u *ℤ z
more_worth prices supplies u z hu =
    let n = length supplies in
    node_sum-same (λ v. at_node prices v *ℤ at_node (with_more_at supplies u z) v) (λ v. at_node prices v *ℤ at_node supplies v +ℤ at_node prices v *ℤ when (eqb u v) z) n
    (λ v hv. ap (λ y. at_node prices v *ℤ y) (more_at supplies u z v hu hv) ∙ mul-add (at_node prices v) (at_node supplies v) (when (eqb u v) z))
    ∙ node_sum-add (λ v. at_node prices v *ℤ at_node supplies v) (λ v. at_node prices v *ℤ when (eqb u v) z) n
    ∙ ap (λ y. worth prices supplies n +ℤ y) (node_sum-at (at_node prices) u z n hu)

-- one unit in at u, and one out at w
abbrev pub unit_at : ℕ → ℕ → ℕ → ℤ
unit_at u w v = when (eqb u v) (pos 1) -ℤ when (eqb w v) (pos 1)

pub when_times : (t : Bool) (d : ℤ) → when t d ≡ d *ℤ when t (pos 1)
when_times true d = sym (mul-one d)
when_times false d = sym (mul-zero d)

when_less : (t : Bool) (d : ℤ) → when t (neg_ℤ d) ≡ neg_ℤ (when t d)
when_less true d = refl
when_less false d = refl

pub units_at : (u w v : ℕ) (d : ℤ) → when (eqb u v) d -ℤ when (eqb w v) d ≡ d *ℤ unit_at u w v
units_at u w v d =
    omega (arith, ints, when_times (eqb u v) d, when_times (eqb w v) d, mul-sub d (when (eqb u v) (pos 1)) (when (eqb w v) (pos 1)))

module _ (m : Model) (u w : ℕ) (d : ℤ) (hu : IsNode (length m.supplies) u) (hw : IsNode (length m.supplies) w) where
  abbrev first : List ℤ
  first = with_more_at m.supplies u d

  as_long : length first ≡ length m.supplies
  as_long = length-set m.supplies (u - 1) (at_node m.supplies u +ℤ d)

  pub as_long_both : length (with_units m u w d).supplies ≡ length m.supplies
  as_long_both = length-set first (w - 1) (at_node first w +ℤ neg_ℤ d) ∙ as_long

  hw' : IsNode (length first) w
  hw' = (hw.0, omega (arith, hw.1, as_long))

  pub units_supply : (v : ℕ) → IsNode (length m.supplies) v → at_node (with_units m u w d).supplies v ≡ at_node m.supplies v +ℤ d *ℤ unit_at u w v
  units_supply v hv =
      omega (
        arith,
        ints,
        more_at first w (neg_ℤ d) v hw' (hv.0, omega (arith, hv.1, as_long)),
        more_at m.supplies u d v hu hv,
        when_less (eqb w v) d,
        units_at u w v d,
      )

  units_worth : (prices : List ℤ) → worth prices (with_units m u w d).supplies (length m.supplies)
      ≡ worth prices m.supplies (length m.supplies) +ℤ d *ℤ (at_node prices u -ℤ at_node prices w)
  units_worth prices =
      let second = subst (λ n. worth prices (with_units m u w d).supplies n ≡ worth prices first n +ℤ at_node prices w *ℤ neg_ℤ d) as_long (more_worth prices first w (neg_ℤ d) hw') in
      omega (
        arith,
        ints,
        more_worth prices m.supplies u d hu,
        second,
        mul-neg (at_node prices w) d,
        mul-sub d (at_node prices u) (at_node prices w),
        *ℤ_comm d (at_node prices u),
        *ℤ_comm d (at_node prices w),
      )

  -- ---- in finer units

  module _ (k : ℤ) where
    abbrev finer : List ℤ
    finer = map (λ z. k *ℤ z) (with_units m u w d).supplies

    pub finer_at : (xs : List ℤ) (i : ℕ) → slice_index_or (map (λ z. k *ℤ z) xs) i (pos 0) ≡ k *ℤ slice_index_or xs i (pos 0)
    finer_at [] i = sym (mul-zero k)
    finer_at (x ∷ xs) zero = refl
    finer_at (x ∷ xs) (suc i) = finer_at xs i

    pub as_long_finer : length finer ≡ length m.supplies
    as_long_finer = as_many (with_units m u w d).supplies ∙ as_long_both
      where
        as_many : (xs : List ℤ) → length (map (λ z. k *ℤ z) xs) ≡ length xs
        as_many [] = refl
        as_many (x ∷ xs) = ap suc (as_many xs)

    pub finer_supply : (v : ℕ) → IsNode (length m.supplies) v → at_node finer v ≡ k *ℤ (at_node m.supplies v +ℤ d *ℤ unit_at u w v)
    finer_supply v hv = finer_at (with_units m u w d).supplies (v - 1) ∙ ap (λ z. k *ℤ z) (units_supply v hv)

    pub finer_worth : (prices : List ℤ) → worth prices finer (length m.supplies)
        ≡ k *ℤ (worth prices m.supplies (length m.supplies) +ℤ d *ℤ (at_node prices u -ℤ at_node prices w))
    finer_worth prices =
        let n = length m.supplies in
        let s = (with_units m u w d).supplies in
        node_sum-same (λ v. at_node prices v *ℤ at_node finer v) (λ v. k *ℤ (at_node prices v *ℤ at_node s v)) n
        (λ v hv. ap (λ z. at_node prices v *ℤ z) (finer_at s (v - 1)) ∙ turn (at_node prices v) (at_node s v))
        ∙ node_sum-mul k (λ v. at_node prices v *ℤ at_node s v) n
        ∙ ap (λ z. k *ℤ z) (units_worth prices)
      where
        turn : (a b : ℤ) → a *ℤ (k *ℤ b) ≡ k *ℤ (a *ℤ b)
        turn a b = sym (mul-assoc a k b) ∙ ap (λ z. z *ℤ b) (*ℤ_comm a k) ∙ mul-assoc k a b
