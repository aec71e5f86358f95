-- The cost of one unit more on a route, which rises; so amounts next to an amount tell of all
-- others.
use Rattle.std.proofs.Common.{◌≡◌, ℕ, zero, suc, true, false, List, [], ◌∷◌, refl, ap, sym, ◌∙◌, arith, ℤ, pos, negsuc, ◌+ℤ◌, ◌-ℤ◌, ◌≤ℤ◌, ◌<ℤ◌, if◌then◌else◌, int_lt}
use Rattle.std.specs.Prelude.{Option, Some, None, int_le}
use Rattle.std.specs.Int.{int_min}
use Rattle.std.proofs.Math.IntN.{◌*ℤ◌}
use Rattle.std.proofs.lemmas.Int.{ints, clamps, by_lt_z}
use Rattle.mcf_flows.proofs.IntLaws.{mul-add, mul-one, mul-sub}
use Rattle.mcf_model.specs.declared.rows.Step.{Step}
use Rattle.mcf_model.specs.Faults.{first_cost}
use Rattle.mcf_model.specs.Model.{CostAtLeast, Fits, Rises, charge}

-- ---- tests of numbers

pub is_below : (x y : ℤ) → x <ℤ y → int_lt x y ≡ true
is_below x y h = grind (arith, ints)

pub is_not_below : (x y : ℤ) → y ≤ℤ x → int_lt x y ≡ false
is_not_below x y h = grind (arith, ints)

pub is_up_to : (x y : ℤ) → x ≤ℤ y → int_le x y ≡ true
is_up_to x y h = grind (arith, ints)

pub is_not_up_to : (x y : ℤ) → y <ℤ x → int_le x y ≡ false
is_not_up_to x y h = grind (arith, ints)

-- ---- one unit more

-- the cost of one unit more than x
abbrev pub unit_cost : List Step → ℤ → ℤ → ℤ
unit_cost [] c x = c
unit_cost (s ∷ steps) c x = if int_lt x s.most then s.cost else unit_cost steps c (x -ℤ s.most)

one_more : (k x : ℤ) → k *ℤ (x +ℤ pos 1) ≡ k *ℤ x +ℤ k
one_more k x = omega (arith, ints, mul-add k x (pos 1), mul-one k)

one_less : (k x : ℤ) → k *ℤ (x -ℤ pos 1) ≡ k *ℤ x -ℤ k
one_less k x = omega (arith, ints, mul-sub k x (pos 1), mul-one k)

pub charge_next : (steps : List Step) (c x : ℤ) → charge steps c (x +ℤ pos 1) ≡ charge steps c x +ℤ unit_cost steps c x
charge_next [] c x = one_more c x
charge_next (s ∷ steps) c x =
    by_lt_z x s.most
    (λ less.
    let here : int_min x s.most ≡ x = omega (arith, ints, clamps, less) in
    let there : int_min (x +ℤ pos 1) s.most ≡ x +ℤ pos 1 = omega (arith, ints, clamps, less) in
    let e1 : (x +ℤ pos 1) -ℤ (x +ℤ pos 1) ≡ pos 0 = omega (arith, ints) in
    let e2 : x -ℤ x ≡ pos 0 = omega (arith, ints) in
    rw (is_below x s.most less, here, there, e1, e2) (omega (arith, ints, one_more s.cost x)))
    (λ more.
    let here : int_min x s.most ≡ s.most = omega (arith, ints, clamps, more) in
    let there : int_min (x +ℤ pos 1) s.most ≡ s.most = omega (arith, ints, clamps, more) in
    let e1 : (x +ℤ pos 1) -ℤ s.most ≡ (x -ℤ s.most) +ℤ pos 1 = omega (arith, ints) in
    rw (is_not_below x s.most more, here, there, e1) (omega (arith, ints, charge_next steps c (x -ℤ s.most))))

pub charge_last : (steps : List Step) (c x : ℤ) → charge steps c x ≡ charge steps c (x -ℤ pos 1) +ℤ unit_cost steps c (x -ℤ pos 1)
charge_last steps c x =
    let e : (x -ℤ pos 1) +ℤ pos 1 ≡ x = omega (arith, ints) in
    sym (ap (charge steps c) e) ∙ charge_next steps c (x -ℤ pos 1)

-- ---- it rises

pub at_least : (k : ℤ) (steps : List Step) (c x : ℤ) → CostAtLeast k steps c → k ≤ℤ unit_cost steps c x
at_least k [] c x h = h
at_least k (s ∷ steps) c x h =
    by_lt_z x s.most
    (λ less. rw (is_below x s.most less) h.0)
    (λ more. rw (is_not_below x s.most more) (at_least k steps c (x -ℤ s.most) h.1))

lower : (j k : ℤ) (steps : List Step) (c : ℤ) → j ≤ℤ k → CostAtLeast k steps c → CostAtLeast j steps c
lower j k [] c le h = omega (arith, ints, le, h)
lower j k (s ∷ steps) c le h = (omega (arith, ints, le, h.0), lower j k steps c le h.1)

-- no unit costs less than the first
pub from_first : (k : ℤ) (steps : List Step) (c : ℤ) → Rises steps c → k ≤ℤ first_cost steps c → CostAtLeast k steps c
from_first k [] c h le = le
from_first k (s ∷ steps) c h le = (le, lower k s.cost steps c le h.0)

pub rising : (steps : List Step) (c x y : ℤ) → Rises steps c → x ≤ℤ y → unit_cost steps c x ≤ℤ unit_cost steps c y
rising [] c x y h k = omega (arith, ints)
rising (s ∷ steps) c x y h k =
    by_lt_z y s.most
    (λ less. rw (is_below y s.most less, is_below x s.most (omega (arith, ints, less, k))) (omega (arith, ints)))
    (λ more. by_lt_z x s.most
    (λ less. rw (is_not_below y s.most more, is_below x s.most less) (at_least s.cost steps c (y -ℤ s.most) h.0))
    (λ high. rw (is_not_below y s.most more, is_not_below x s.most high) (rising steps c (x -ℤ s.most) (y -ℤ s.most) h.1 (omega (arith, ints, k)))))

-- ---- what is left of the cost of an amount, if each unit is worth d

module _ (steps : List Step) (c d x : ℤ) (rises : Rises steps c) where
  abbrev left : ℤ → ℤ
  left y = charge steps c y -ℤ d *ℤ y

  above : (n : ℕ) (y : ℤ) → d ≤ℤ unit_cost steps c x → y ≡ x +ℤ pos n → left x ≤ℤ left y
  above zero y h at =
      let same : y ≡ x = omega (arith, ints, at) in
      omega (arith, ints, ap left same)
  above (suc n) y h at =
      let before = above n (y -ℤ pos 1) h (omega (arith, ints, at)) in
      let up = rising steps c x (y -ℤ pos 1) rises (omega (arith, ints, at)) in
      omega (arith, ints, before, up, h, charge_last steps c y, one_less d y)

  below : (n : ℕ) (y : ℤ) → unit_cost steps c (x -ℤ pos 1) ≤ℤ d → y ≡ x -ℤ pos n → left x ≤ℤ left y
  below zero y h at =
      let same : y ≡ x = omega (arith, ints, at) in
      omega (arith, ints, ap left same)
  below (suc n) y h at =
      let before = below n (y +ℤ pos 1) h (omega (arith, ints, at)) in
      let up = rising steps c y (x -ℤ pos 1) rises (omega (arith, ints, at)) in
      omega (arith, ints, before, up, h, charge_next steps c y, one_more d y)

  -- no greater amount leaves less, if one unit more costs d at least
  pub no_less_above : (y : ℤ) → d ≤ℤ unit_cost steps c x → x ≤ℤ y → left x ≤ℤ left y
  no_less_above y h le = go (y -ℤ x) refl
    where
      go : (z : ℤ) → y -ℤ x ≡ z → left x ≤ℤ left y
      go (pos n) e = above n y h (omega (arith, ints, e))
      go (negsuc n) e = absurd (omega (arith, ints, e, le))

  -- no smaller amount leaves less, if its last unit costs d at most
  pub no_less_below : (y : ℤ) → unit_cost steps c (x -ℤ pos 1) ≤ℤ d → y ≤ℤ x → left x ≤ℤ left y
  no_less_below y h le = go (x -ℤ y) refl
    where
      go : (z : ℤ) → x -ℤ y ≡ z → left x ≤ℤ left y
      go (pos n) e = below n y h (omega (arith, ints, e))
      go (negsuc n) e = absurd (omega (arith, ints, e, le))

  pub unit_more : left (x +ℤ pos 1) ≡ left x +ℤ unit_cost steps c x -ℤ d
  unit_more = omega (arith, ints, charge_next steps c x, one_more d x)

  pub unit_less : left (x -ℤ pos 1) ≡ left x -ℤ unit_cost steps c (x -ℤ pos 1) +ℤ d
  unit_less = omega (arith, ints, charge_last steps c x, one_less d x)

-- ---- what fits

pub fits_less : (steps : List Step) (most : Option ℤ) (x y : ℤ) → Fits steps most x → y ≤ℤ x → Fits steps most y
fits_less steps (Some m) x y h k = omega (arith, ints, h, k)
fits_less steps None x y h k = tt
