-- Routes, each unit of which costs more or less.
use Rattle.std.proofs.Common.{◌≡◌, ℕ, Bool, true, false, List, [], ◌∷◌, map, ap, ◌∙◌, refl, arith, ℤ, pos, ◌+ℤ◌, ◌-ℤ◌, ◌≤ℤ◌, ◌<ℤ◌}
use Rattle.std.specs.Prelude.{Option, Some, None, not, int_lt, IfSome}
use Rattle.std.specs.Int.{int_min}
use Rattle.std.proofs.Math.IntN.{◌*ℤ◌}
use Rattle.std.proofs.lemmas.Int.{ints, clamps}
use Rattle.mcf_flows.proofs.IntLaws.{add-mul, mul-add, mul-one, mul-sub}
use Rattle.mcf_model.specs.declared.rows.Step.{Step}
use Rattle.mcf_model.specs.Faults.{first_cost}
use Rattle.mcf_model.specs.Model.{Adds, AreRooms, CostAtLeast, Fits, IsSoundRoute, MayBeBoth, MayCarry, Rises, Route, charge, charged, room, route_cost, size}
use Rattle.mcf_plan_ranges.specs.Changes.{dearer, dearer_step}
use Rattle.mcf_plan_ranges.specs.Private.Sides.{IsFloor, floor_of, grows, lesser, meet, one_sided}
use Rattle.mcf_plan_ranges.specs.Private.Units.{next}
use Rattle.mcf_ranges.specs.declared.range.CostRange.{CostRange}
use Rattle.mcf_ranges.specs.Ranges.{IsInRange}

-- ---- what it carries, and what that costs

module _ (d : ℤ) where
  same_room : (steps : List Step) (most : ℤ) → room (map (dearer_step d) steps) most ≡ room steps most
  same_room [] most = refl
  same_room (s ∷ steps) most = ap (λ z. s.most +ℤ z) (same_room steps most)

  fits_still : (steps : List Step) (most : Option ℤ) (x : ℤ) → Fits steps most x → Fits (map (dearer_step d) steps) most x
  fits_still steps (Some m) x h = omega (arith, ints, h, same_room steps m)
  fits_still steps None x h = tt

  fits_before : (steps : List Step) (most : Option ℤ) (x : ℤ) → Fits (map (dearer_step d) steps) most x → Fits steps most x
  fits_before steps (Some m) x h = omega (arith, ints, h, same_room steps m)
  fits_before steps None x h = tt

  pub may_still : (r : Route) (x : ℤ) → MayCarry r x → MayCarry (dearer d r) x
  may_still r x h = record { enough = h.enough; fits = fits_still r.steps r.last_most (charged r.both x) h.fits }

  pub may_before : (r : Route) (x : ℤ) → MayCarry (dearer d r) x → MayCarry r x
  may_before r x h = record { enough = h.enough; fits = fits_before r.steps r.last_most (charged r.both x) h.fits }

  charge_more : (steps : List Step) (c x : ℤ) → charge (map (dearer_step d) steps) (c +ℤ d) x ≡ charge steps c x +ℤ d *ℤ x
  charge_more [] c x = add-mul c d x
  charge_more (s ∷ steps) c x =
      let part = int_min x s.most in
      let rest = charge_more steps c (x -ℤ part) in
      omega (arith, ints, rest, add-mul s.cost d part, mul-sub d x part)

  pub cost_more : (r : Route) (x : ℤ) → route_cost (dearer d r) x ≡ route_cost r x +ℤ d *ℤ charged r.both x
  cost_more r x = charge_more r.steps r.last_cost (charged r.both x)

  -- ---- whether it is sound

  least_more : (k : ℤ) (steps : List Step) (c : ℤ) → CostAtLeast k steps c → CostAtLeast (k +ℤ d) (map (dearer_step d) steps) (c +ℤ d)
  least_more k [] c h = omega (arith, ints, h)
  least_more k (s ∷ steps) c h = (omega (arith, ints, h.0), least_more k steps c h.1)

  rises_still : (steps : List Step) (c : ℤ) → Rises steps c → Rises (map (dearer_step d) steps) (c +ℤ d)
  rises_still [] c h = tt
  rises_still (s ∷ steps) c h = (least_more s.cost steps c h.0, rises_still steps c h.1)

  rooms_still : (steps : List Step) (most : Option ℤ) → AreRooms steps most → AreRooms (map (dearer_step d) steps) most
  rooms_still [] most h = h
  rooms_still (s ∷ steps) most h = (h.0, rooms_still steps most h.1)

  adds_still : (steps : List Step) (most : Option ℤ) → Adds steps most → Adds (map (dearer_step d) steps) most
  adds_still [] most h = h
  adds_still (s ∷ steps) most h = rooms_still steps most h

  no_less_than_first : (k : ℤ) (steps : List Step) (c : ℤ) → CostAtLeast k steps c → (j : ℤ) → j ≤ℤ k → CostAtLeast j steps c
  no_less_than_first k [] c h j le = omega (arith, ints, h, le)
  no_less_than_first k (s ∷ steps) c h j le = (omega (arith, ints, h.0, le), no_less_than_first k steps c h.1 j le)

  first_is_least : (steps : List Step) (c : ℤ) → Rises steps c → CostAtLeast (first_cost steps c) steps c
  first_is_least [] c h = omega (arith, ints)
  first_is_least (s ∷ steps) c h = (omega (arith, ints), h.0)

  first_above : (steps : List Step) (c : ℤ) → CostAtLeast (pos 0) (map (dearer_step d) steps) (c +ℤ d) → (pos 0 -ℤ first_cost steps c) ≤ℤ d
  first_above [] c h = omega (arith, ints, h)
  first_above (s ∷ steps) c h = omega (arith, ints, h.0)

  both_still : (both : Bool) (least : ℤ) (steps : List Step) (most : Option ℤ) (c : ℤ) → Rises steps c → MayBeBoth both least steps most c
      → IsInRange (pos 0) (floor_of both (first_cost steps c)) d → MayBeBoth both least (map (dearer_step d) steps) most (c +ℤ d)
  both_still false least steps most c rises may floor = tt
  both_still true least steps most c rises may floor = (
    may.0,
    no_less_than_first (first_cost steps c +ℤ d) (map (dearer_step d) steps) (c +ℤ d) (least_more (first_cost steps c) steps c (first_is_least steps c rises)) (pos 0)
        (let f = floor.0 in omega (arith, ints, f)),
    rooms_still steps most may.2,
  )

  floor_kept : (both : Bool) (least : ℤ) (steps : List Step) (most : Option ℤ) (c : ℤ) → MayBeBoth both least (map (dearer_step d) steps) most (c +ℤ d)
      → IsInRange (pos 0) (floor_of both (first_cost steps c)) d
  floor_kept false least steps most c may = (tt, tt)
  floor_kept true least steps most c may = (first_above steps c may.1, tt)

  pub sound_still : (places : ℕ) (r : Route) → IsSoundRoute places r → IsInRange (pos 0) (floor_of r.both (first_cost r.steps r.last_cost)) d → IsSoundRoute places (dearer d r)
  sound_still places r h floor =
      record {
        tail_is_place = h.tail_is_place;
        head_is_place = h.head_is_place;
        rises = rises_still r.steps r.last_cost h.rises;
        adds = adds_still r.steps r.last_most h.adds;
        may_be_both = both_still r.both r.least r.steps r.last_most r.last_cost h.rises h.may_be_both floor;
      }

pub is_floor : (places : ℕ) (r : Route) → IsSoundRoute places r → IsFloor places r (floor_of r.both (first_cost r.steps r.last_cost))
is_floor places r sound d = ((λ floor. sound_still d places r sound floor), (λ h. floor_kept d r.both r.least r.steps r.last_most r.last_cost h.may_be_both))

-- ---- a unit more, or one less

-- a cost that d is added to, or taken from
abbrev pub shifted : Bool → ℤ → ℤ → ℤ
shifted true c d = c +ℤ d
shifted false c d = c -ℤ d

pub below : (x y : ℤ) → int_lt x y ≡ true → x <ℤ y
below x y h = grind (arith, ints)

pub not_below : (x y : ℤ) → int_lt x y ≡ false → y ≤ℤ x
not_below x y h = grind (arith, ints)

-- what is charged for a unit more or less
pub charged_next : (both less : Bool) (x : ℤ) → charged both (next less x) ≡ shifted (grows both less x) (charged both x) (pos 1)
charged_next false false x = refl
charged_next false true x = refl
charged_next true false x = go (int_lt x (pos 0)) refl
  where
    go : (b : Bool) → int_lt x (pos 0) ≡ b → size (x +ℤ pos 1) ≡ shifted (not (int_lt x (pos 0))) (size x) (pos 1)
    go true e = let h = below x (pos 0) e in rw e (omega (arith, ints, clamps, h))
    go false e = let h = not_below x (pos 0) e in rw e (omega (arith, ints, clamps, h))
charged_next true true x = go (int_lt (pos 0) x) refl
  where
    go : (b : Bool) → int_lt (pos 0) x ≡ b → size (x -ℤ pos 1) ≡ shifted (not (int_lt (pos 0) x)) (size x) (pos 1)
    go true e = let h = below (pos 0) x e in rw e (omega (arith, ints, clamps, h))
    go false e = let h = not_below (pos 0) x e in rw e (omega (arith, ints, clamps, h))

shift_cost : (g : Bool) (d y z : ℤ) → z ≡ shifted g y (pos 1) → d *ℤ z -ℤ d *ℤ y ≡ shifted g (pos 0) d
shift_cost true d y z e = omega (arith, ints, ap (λ w. d *ℤ w) e, mul-add d y (pos 1), mul-one d)
shift_cost false d y z e = omega (arith, ints, ap (λ w. d *ℤ w) e, mul-sub d y (pos 1), mul-one d)

shifted_from : (g : Bool) (c d : ℤ) → c +ℤ shifted g (pos 0) d ≡ shifted g c d
shifted_from true c d = omega (arith, ints)
shifted_from false c d = omega (arith, ints)

-- what a unit more or less costs on the dearer route
pub next_cost : (d : ℤ) (r : Route) (less : Bool) (x : ℤ)
    → route_cost (dearer d r) (next less x) -ℤ route_cost (dearer d r) x ≡ shifted (grows r.both less x) (route_cost r (next less x) -ℤ route_cost r x) d
next_cost d r less x =
    let g = grows r.both less x in
    let a = cost_more d r (next less x) in
    let b = cost_more d r x in
    let e = shift_cost g d (charged r.both x) (charged r.both (next less x)) (charged_next r.both less x) in
    omega (arith, ints, a, b, e) ∙ shifted_from g (route_cost r (next less x) -ℤ route_cost r x) d

-- ---- ranges

pub one_sided_from : (g : Bool) (slack : Option ℤ) (c d : ℤ) → IfSome slack (λ z. (c -ℤ z) ≤ℤ shifted g c d) → IsInRange (pos 0) (one_sided g slack) d
one_sided_from true None c d h = (tt, tt)
one_sided_from true (Some z) c d h = (omega (arith, ints, h), tt)
one_sided_from false None c d h = (tt, tt)
one_sided_from false (Some z) c d h = (tt, omega (arith, ints, h))

pub one_sided_to : (g : Bool) (slack : Option ℤ) (c d : ℤ) → IsInRange (pos 0) (one_sided g slack) d → IfSome slack (λ z. (c -ℤ z) ≤ℤ shifted g c d)
one_sided_to g None c d h = tt
one_sided_to true (Some z) c d h = let l = h.0 in omega (arith, ints, l)
one_sided_to false (Some z) c d h = let l = h.1 in omega (arith, ints, l)

down_both : (a b : Option ℤ) (d : ℤ) → IfSome (lesser a b) (λ z. (pos 0 -ℤ z) ≤ℤ d) → IfSome a (λ z. (pos 0 -ℤ z) ≤ℤ d) × IfSome b (λ z. (pos 0 -ℤ z) ≤ℤ d)
down_both None b d h = (tt, h)
down_both (Some x) None d h = (h, tt)
down_both (Some x) (Some y) d h = (omega (arith, ints, clamps, h), omega (arith, ints, clamps, h))

both_down : (a b : Option ℤ) (d : ℤ) → IfSome a (λ z. (pos 0 -ℤ z) ≤ℤ d) → IfSome b (λ z. (pos 0 -ℤ z) ≤ℤ d) → IfSome (lesser a b) (λ z. (pos 0 -ℤ z) ≤ℤ d)
both_down None b d h k = k
both_down (Some x) None d h k = h
both_down (Some x) (Some y) d h k = omega (arith, ints, clamps, h, k)

up_both : (a b : Option ℤ) (d : ℤ) → IfSome (lesser a b) (λ z. d ≤ℤ (pos 0 +ℤ z)) → IfSome a (λ z. d ≤ℤ (pos 0 +ℤ z)) × IfSome b (λ z. d ≤ℤ (pos 0 +ℤ z))
up_both None b d h = (tt, h)
up_both (Some x) None d h = (h, tt)
up_both (Some x) (Some y) d h = (omega (arith, ints, clamps, h), omega (arith, ints, clamps, h))

both_up : (a b : Option ℤ) (d : ℤ) → IfSome a (λ z. d ≤ℤ (pos 0 +ℤ z)) → IfSome b (λ z. d ≤ℤ (pos 0 +ℤ z)) → IfSome (lesser a b) (λ z. d ≤ℤ (pos 0 +ℤ z))
both_up None b d h k = k
both_up (Some x) None d h k = h
both_up (Some x) (Some y) d h k = omega (arith, ints, clamps, h, k)

pub in_both : (a b : CostRange) (d : ℤ) → IsInRange (pos 0) (meet a b) d → IsInRange (pos 0) a d × IsInRange (pos 0) b d
in_both a b d h =
    let low = down_both a.down b.down d h.0 in
    let high = up_both a.up b.up d h.1 in
    ((low.0, high.0), (low.1, high.1))

pub both_in : (a b : CostRange) (d : ℤ) → IsInRange (pos 0) a d → IsInRange (pos 0) b d → IsInRange (pos 0) (meet a b) d
both_in a b d h k = (both_down a.down b.down d h.0 k.0, both_up a.up b.up d h.1 k.1)
