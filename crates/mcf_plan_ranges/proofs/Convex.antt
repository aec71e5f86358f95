-- The cost of a route rises ever faster, so amounts next to an amount tell of all others.
use Rattle.std.proofs.Common.{◌≡◌, ℕ, zero, suc, Bool, true, false, List, [], ◌∷◌, ap, ◌∙◌, refl, arith, ℤ, pos, negsuc, neg_ℤ, ◌+ℤ◌, ◌-ℤ◌, ◌≤ℤ◌, ◌<ℤ◌}
use Rattle.std.specs.Int.{int_min}
use Rattle.std.proofs.Math.IntN.{◌*ℤ◌}
use Rattle.std.proofs.lemmas.Int.{ints, clamps, by_lt_z}
use Rattle.mcf_flows.proofs.IntLaws.{mul-add, mul-one}
use Rattle.mcf_model.specs.declared.rows.Step.{Step}
use Rattle.mcf_model.specs.Model.{CostAtLeast, Fits, IsSoundRoute, MayBeBoth, MayCarry, Rises, Route, charge, charged, size}
use Rattle.mcf_model.specs.Prices.{price_drop, reduced_route_cost}
use Rattle.std.specs.Prelude.{Option, Some, None}

-- ---- functions whose differences never fall

-- the differences of a function never fall
abbrev pub IsConvex : (ℤ → ℤ) → Type 0
IsConvex f = (x y z : ℤ) → y ≡ x +ℤ pos 1 → z ≡ y +ℤ pos 1 → (f y -ℤ f x) ≤ℤ (f z -ℤ f y)

module _ (f : ℤ → ℤ) (convex : IsConvex f) where
  steps_above : (x : ℤ) → f x ≤ℤ f (x +ℤ pos 1) → (n : ℕ) → (f x ≤ℤ f (x +ℤ pos n)) × (f (x +ℤ pos n) ≤ℤ f (x +ℤ pos n +ℤ pos 1))
  steps_above x h zero =
      let e : x +ℤ pos 0 ≡ x = omega (arith, ints) in
      let a = ap f e in
      let b = ap (λ y. f (y +ℤ pos 1)) e in
      (omega (arith, ints, a), omega (arith, ints, a, b, h))
  steps_above x h (suc n) =
      let before = steps_above x h n in
      let y = x +ℤ pos n in
      let e : x +ℤ pos (suc n) ≡ y +ℤ pos 1 = omega (arith, ints) in
      let a = ap f e in
      let b = ap (λ w. f (w +ℤ pos 1)) e in
      let more = convex y (y +ℤ pos 1) (y +ℤ pos 1 +ℤ pos 1) refl refl in
      (omega (arith, ints, a, before), omega (arith, ints, a, b, before, more))

  steps_below : (x : ℤ) → f x ≤ℤ f (x -ℤ pos 1) → (n : ℕ) → (f x ≤ℤ f (x -ℤ pos n)) × (f (x -ℤ pos n) ≤ℤ f (x -ℤ pos n -ℤ pos 1))
  steps_below x h zero =
      let e : x -ℤ pos 0 ≡ x = omega (arith, ints) in
      let a = ap f e in
      let b = ap (λ y. f (y -ℤ pos 1)) e in
      (omega (arith, ints, a), omega (arith, ints, a, b, h))
  steps_below x h (suc n) =
      let before = steps_below x h n in
      let y = x -ℤ pos n in
      let e : x -ℤ pos (suc n) ≡ y -ℤ pos 1 = omega (arith, ints) in
      let a = ap f e in
      let b = ap (λ w. f (w -ℤ pos 1)) e in
      let more = convex (y -ℤ pos 1 -ℤ pos 1) (y -ℤ pos 1) y (omega (arith, ints)) (omega (arith, ints)) in
      (omega (arith, ints, a, before), omega (arith, ints, a, b, before, more))

  -- no less above, where it is no less at the next
  pub no_less_above : (x y : ℤ) → x ≤ℤ y → (x <ℤ y → f x ≤ℤ f (x +ℤ pos 1)) → f x ≤ℤ f y
  no_less_above x y h more = go (y -ℤ x) refl
    where
      go : (z : ℤ) → y -ℤ x ≡ z → f x ≤ℤ f y
      go (pos zero) e = let same : y ≡ x = omega (arith, ints, e) in omega (arith, ints, ap f same)
      go (pos (suc n)) e =
          let same : y ≡ x +ℤ pos (suc n) = omega (arith, ints, e) in
          let le = (steps_above x (more (omega (arith, ints, e))) (suc n)).0 in
          omega (arith, ints, ap f same, le)
      go (negsuc n) e = absurd (omega (arith, ints, e, h))

  pub no_less_below : (x y : ℤ) → y ≤ℤ x → (y <ℤ x → f x ≤ℤ f (x -ℤ pos 1)) → f x ≤ℤ f y
  no_less_below x y h less = go (x -ℤ y) refl
    where
      go : (z : ℤ) → x -ℤ y ≡ z → f x ≤ℤ f y
      go (pos zero) e = let same : y ≡ x = omega (arith, ints, e) in omega (arith, ints, ap f same)
      go (pos (suc n)) e =
          let same : y ≡ x -ℤ pos (suc n) = omega (arith, ints, e) in
          let le = (steps_below x (less (omega (arith, ints, e))) (suc n)).0 in
          omega (arith, ints, ap f same, le)
      go (negsuc n) e = absurd (omega (arith, ints, e, h))

-- ---- the cost of a route

pub one_more : (k x : ℤ) → k *ℤ (x +ℤ pos 1) ≡ k *ℤ x +ℤ k
one_more k x = omega (arith, ints, mul-add k x (pos 1), mul-one k)

-- within the first step, and past it
pub charge_within : (s : Step) (steps : List Step) (c x : ℤ) → x ≤ℤ s.most → charge (s ∷ steps) c x ≡ s.cost *ℤ x +ℤ charge steps c (pos 0)
charge_within s steps c x h =
    let here : int_min x s.most ≡ x = omega (arith, ints, clamps, h) in
    let none : x -ℤ x ≡ pos 0 = omega (arith, ints) in
    rw (here, none) refl

pub charge_past : (s : Step) (steps : List Step) (c x : ℤ) → s.most ≤ℤ x
    → charge (s ∷ steps) c x ≡ s.cost *ℤ s.most +ℤ charge steps c (x -ℤ s.most)
charge_past s steps c x h =
    let here : int_min x s.most ≡ s.most = omega (arith, ints, clamps, h) in
    rw here refl

-- a unit more costs no less than any lower bound of the costs
pub unit_no_less : (k : ℤ) (steps : List Step) (c x : ℤ) → CostAtLeast k steps c → (charge steps c x +ℤ k) ≤ℤ charge steps c (x +ℤ pos 1)
unit_no_less k [] c x h = omega (arith, ints, one_more c x, h)
unit_no_less k (s ∷ steps) c x h =
    by_lt_z x s.most
    (λ less.
    let a = charge_within s steps c x (omega (arith, ints, less)) in
    let b = charge_within s steps c (x +ℤ pos 1) (omega (arith, ints, less)) in
    omega (arith, ints, a, b, one_more s.cost x, h.0))
    (λ more.
    let a = charge_past s steps c x (omega (arith, ints, more)) in
    let b = charge_past s steps c (x +ℤ pos 1) (omega (arith, ints, more)) in
    let e = ap (charge steps c) (let same : (x +ℤ pos 1) -ℤ s.most ≡ (x -ℤ s.most) +ℤ pos 1 = omega (arith, ints) in same) in
    omega (arith, ints, a, b, e, unit_no_less k steps c (x -ℤ s.most) h.1))

charge_next : (steps : List Step) (c x : ℤ) → Rises steps c
    → (charge steps c (x +ℤ pos 1) -ℤ charge steps c x) ≤ℤ (charge steps c (x +ℤ pos 1 +ℤ pos 1) -ℤ charge steps c (x +ℤ pos 1))
charge_next [] c x h = omega (arith, ints, one_more c x, one_more c (x +ℤ pos 1))
charge_next (s ∷ steps) c x h =
    by_lt_z x s.most
    (λ less.
    let a = charge_within s steps c x (omega (arith, ints, less)) in
    let b = charge_within s steps c (x +ℤ pos 1) (omega (arith, ints, less)) in
    by_lt_z (x +ℤ pos 1) s.most
    (λ least.
    let d = charge_within s steps c (x +ℤ pos 1 +ℤ pos 1) (omega (arith, ints, least)) in
    omega (arith, ints, a, b, d, one_more s.cost x, one_more s.cost (x +ℤ pos 1)))
    (λ most.
    let full : x +ℤ pos 1 ≡ s.most = omega (arith, ints, less, most) in
    let d = charge_past s steps c (x +ℤ pos 1 +ℤ pos 1) (omega (arith, ints, full)) in
    let e = ap (charge steps c) (let same : (x +ℤ pos 1 +ℤ pos 1) -ℤ s.most ≡ pos 0 +ℤ pos 1 = omega (arith, ints, full) in same) in
    let f = ap (λ z. s.cost *ℤ z) full in
    omega (arith, ints, a, b, d, e, f, one_more s.cost x, unit_no_less s.cost steps c (pos 0) h.0)))
    (λ more.
    let a = charge_past s steps c x (omega (arith, ints, more)) in
    let b = charge_past s steps c (x +ℤ pos 1) (omega (arith, ints, more)) in
    let d = charge_past s steps c (x +ℤ pos 1 +ℤ pos 1) (omega (arith, ints, more)) in
    let e1 = ap (charge steps c) (let same : (x +ℤ pos 1) -ℤ s.most ≡ (x -ℤ s.most) +ℤ pos 1 = omega (arith, ints) in same) in
    let e2 = ap (charge steps c) (let same : (x +ℤ pos 1 +ℤ pos 1) -ℤ s.most ≡ (x -ℤ s.most) +ℤ pos 1 +ℤ pos 1 = omega (arith, ints) in same) in
    omega (arith, ints, a, b, d, e1, e2, charge_next steps c (x -ℤ s.most) h.1))

pub charge_convex : (steps : List Step) (c : ℤ) → Rises steps c → IsConvex (charge steps c)
charge_convex steps c rises x y z ey ez =
    let e : z ≡ x +ℤ pos 1 +ℤ pos 1 = omega (arith, ints, ey, ez) in
    let a = ap (charge steps c) ey in
    let b = ap (charge steps c) e in
    omega (arith, ints, a, b, charge_next steps c x rises)

size_convex : (f : ℤ → ℤ) → IsConvex f → f (pos 0) ≤ℤ f (pos 1) → IsConvex (λ x. f (size x))
size_convex f convex first x y z ey ez =
    by_lt_z x (pos 0)
    (λ below.
    by_lt_z x (negsuc 0)
    (λ far.
    let sx : size x ≡ neg_ℤ x = omega (arith, ints, clamps, far) in
    let sy : size y ≡ neg_ℤ y = omega (arith, ints, clamps, far, ey) in
    let sz : size z ≡ neg_ℤ z = omega (arith, ints, clamps, far, ey, ez) in
    let a = ap f sx in
    let b = ap f sy in
    let c = ap f sz in
    omega (arith, ints, a, b, c, convex (neg_ℤ z) (neg_ℤ y) (neg_ℤ x) (omega (arith, ints, ez)) (omega (arith, ints, ey))))
    (λ near.
    let sx : size x ≡ pos 1 = omega (arith, ints, clamps, near, below) in
    let sy : size y ≡ pos 0 = omega (arith, ints, clamps, near, below, ey) in
    let sz : size z ≡ pos 1 = omega (arith, ints, clamps, near, below, ey, ez) in
    let a = ap f sx in
    let b = ap f sy in
    let c = ap f sz in
    omega (arith, ints, a, b, c, first)))
    (λ above.
    let sx : size x ≡ x = omega (arith, ints, clamps, above) in
    let sy : size y ≡ y = omega (arith, ints, clamps, above, ey) in
    let sz : size z ≡ z = omega (arith, ints, clamps, above, ey, ez) in
    let a = ap f sx in
    let b = ap f sy in
    let c = ap f sz in
    omega (arith, ints, a, b, c, convex x y z ey ez))

charged_convex : (both : Bool) (least : ℤ) (steps : List Step) (most : Option ℤ) (c : ℤ) → Rises steps c → MayBeBoth both least steps most c
    → IsConvex (λ x. charge steps c (charged both x))
charged_convex false least steps most c rises may = charge_convex steps c rises
charged_convex true least steps most c rises may =
    size_convex (charge steps c) (charge_convex steps c rises)
    (let le = unit_no_less (pos 0) steps c (pos 0) may.1 in omega (arith, ints, le))

-- the reduced cost of a sound route
pub reduced_convex : (prices : List ℤ) (places : ℕ) (r : Route) → IsSoundRoute places r → IsConvex (reduced_route_cost prices r)
reduced_convex prices places r sound x y z ey ez =
    let convex = charged_convex r.both r.least r.steps r.last_most r.last_cost sound.rises sound.may_be_both x y z ey ez in
    let a = ap (λ w. price_drop prices r *ℤ w) ey ∙ one_more (price_drop prices r) x in
    let b = ap (λ w. price_drop prices r *ℤ w) ez ∙ one_more (price_drop prices r) y in
    omega (arith, ints, convex, a, b)

-- ---- what a route may carry between two amounts

fits_less : (steps : List Step) (most : Option ℤ) (x y : ℤ) → y ≤ℤ x → Fits steps most x → Fits steps most y
fits_less steps (Some m) x y k h = omega (arith, ints, h, k)
fits_less steps None x y k h = tt

between : (both : Bool) (least : ℤ) (steps : List Step) (most : Option ℤ) (c x y z : ℤ) → MayBeBoth both least steps most c → x ≤ℤ y → y ≤ℤ z
    → least ≤ℤ charged both x → least ≤ℤ charged both z → Fits steps most (charged both x) → Fits steps most (charged both z)
    → (least ≤ℤ charged both y) × Fits steps most (charged both y)
between false least steps most c x y z may h k lx lz fx fz = (omega (arith, ints, lx, h), fits_less steps most z y k fz)
between true least steps most c x y z may h k lx lz fx fz =
    let none = may.0 in (
      omega (arith, ints, clamps, none),
      by_lt_z (size x) (size y)
          (λ less. fits_less steps most (size z) (size y) (omega (arith, ints, clamps, less, h, k)) fz)
          (λ more. fits_less steps most (size x) (size y) more fx),
    )

pub may_between : (places : ℕ) (r : Route) (x y z : ℤ) → IsSoundRoute places r → x ≤ℤ y → y ≤ℤ z → MayCarry r x → MayCarry r z → MayCarry r y
may_between places r x y z sound h k mx mz =
    let b = between r.both r.least r.steps r.last_most r.last_cost x y z sound.may_be_both h k mx.enough mz.enough mx.fits mz.fits in
    record { enough = b.0; fits = b.1 }
