-- One unit more room on a route: what it saves at most, and where it saves just that.
use Rattle.std.proofs.Common.{◌≡◌, ℕ, Bool, true, false, List, [], ◌∷◌, ap, sym, refl, subst, arith, ℤ, pos, neg_ℤ, ◌+ℤ◌, ◌-ℤ◌, ◌≤ℤ◌, ◌<ℤ◌, if◌then◌else◌}
use Rattle.std.specs.Prelude.{Option, Some, None, option_map}
use Rattle.std.specs.Int.{int_max}
use Rattle.std.proofs.Math.IntN.{◌*ℤ◌}
use Rattle.std.proofs.lemmas.Int.{ints, clamps, by_lt_z}
use Rattle.mcf_flows.proofs.IntLaws.{mul-add, mul-sub, mul-one}
use Rattle.mcf_model.specs.declared.rows.Step.{Step}
use Rattle.mcf_model.specs.Model.{Adds, CostAtLeast, Fits, IsSoundRoute, MayBeBoth, MayCarry, Rises, Route, charge, charged, room, size}
use Rattle.mcf_model.specs.Prices.{IsBestAt, price_drop, reduced_route_cost}
use Rattle.mcf_figures.specs.Changes.{widened}
use Rattle.mcf_figures.specs.Figures.{IsLoose, gain, saving, saving_if}
use Rattle.mcf_figures.proofs.UnitCosts.{at_most_last, charge_more, charge_no_less, charge_past_room, rooms_total}

pub times_more : (k x : ℤ) → k *ℤ (x +ℤ pos 1) ≡ k *ℤ x +ℤ k
times_more k x = omega (arith, ints, mul-add k x (pos 1), mul-one k)

pub times_less : (k x : ℤ) → k *ℤ (x -ℤ pos 1) ≡ k *ℤ x -ℤ k
times_less k x = omega (arith, ints, mul-sub k x (pos 1), mul-one k)

room_more : (steps : List Step) (most : ℤ) → room steps (most +ℤ pos 1) ≡ room steps most +ℤ pos 1
room_more [] most = refl
room_more (s ∷ steps) most = omega (arith, ints, room_more steps most)

-- what one route may carry, it may carry with more room
pub still_may : (r : Route) (x : ℤ) → MayCarry r x → MayCarry (widened r) x
still_may r x may = record { enough = may.enough; fits = go r.last_most may.fits }
  where
    go : (most : Option ℤ) → Fits r.steps most (charged r.both x) → Fits r.steps (option_map (λ m. m +ℤ pos 1) most) (charged r.both x)
    go None h = tt
    go (Some most) h = omega (arith, ints, h, room_more r.steps most)

-- ---- an amount one past the room, and the one before it

record IsPast (both : Bool) (drop y most : ℤ) : Type 0 where
  before : ℤ
  gained : ℤ
  full : charged both before ≡ most
  worth : drop *ℤ y ≡ drop *ℤ before +ℤ gained
  at_most : gained ≤ℤ charged both drop

one_before : (both : Bool) (drop y most : ℤ) → (both ≡ true → pos 0 ≤ℤ most) → charged both y ≡ most +ℤ pos 1 → IsPast both drop y most
one_before false drop y most z e =
    record {
      before = y -ℤ pos 1;
      gained = drop;
      full = omega (arith, ints, e);
      worth = omega (arith, ints, times_less drop y);
      at_most = omega (arith, ints);
    }
one_before true drop y most z e =
    let z' : pos 0 ≤ℤ most = z refl in
    by_lt_z y (pos 0)
    (λ less. record {
      before = y +ℤ pos 1;
      gained = neg_ℤ drop;
      full = omega (arith, ints, clamps, e, less, z');
      worth = omega (arith, ints, times_more drop y);
      at_most = omega (arith, ints, clamps);
    })
    (λ more. record {
      before = y -ℤ pos 1;
      gained = drop;
      full = omega (arith, ints, clamps, e, more, z');
      worth = omega (arith, ints, times_less drop y);
      at_most = omega (arith, ints, clamps);
    })

-- the room of a route both ways isn't below 0
both_room : (both : Bool) (least : ℤ) (steps : List Step) (most c : ℤ) → MayBeBoth both least steps (Some most) c → both ≡ true → pos 0 ≤ℤ room steps most
both_room true least steps most c h e = rooms_total steps most h.2
both_room false least steps most c h e = cc e

pub saving_zero : (most : Option ℤ) (z : ℤ) → pos 0 ≤ℤ saving_if most z
saving_zero (Some m) z = omega (arith, ints, clamps)
saving_zero None z = omega (arith, ints)

-- no amount on the wider route has a reduced cost that is less by more than the saving
module _ (places : ℕ) (prices : List ℤ) (r : Route) (sound : IsSoundRoute places r) (x : ℤ) (here : IsBestAt prices r x) where
  abbrev d : ℤ
  d = price_drop prices r

  past : (most y : ℤ) → r.last_most ≡ Some most → charged r.both y ≡ room r.steps most +ℤ pos 1
      → reduced_route_cost prices r x ≤ℤ (reduced_route_cost prices r y +ℤ gain prices r)
  past most y e at =
      let may_be = subst (λ o. MayBeBoth r.both r.least r.steps o r.last_cost) e sound.may_be_both in
      let adds = subst (Adds r.steps) e sound.adds in
      let p = one_before r.both d y (room r.steps most) (both_room r.both r.least r.steps most r.last_cost may_be) at in
      let fits = subst (λ o. Fits r.steps o (charged r.both x)) e here.may_carry.fits in
      let may : MayCarry r p.before = record {
        enough = omega (arith, ints, here.may_carry.enough, fits, p.full);
        fits = subst (λ o. Fits r.steps o (charged r.both p.before)) (sym e) (omega (arith, ints, p.full));
      } in
      let full = ap (charge r.steps r.last_cost) p.full in
      let over = ap (charge r.steps r.last_cost) at in
      let more = charge_past_room r.steps most r.last_cost adds in
      omega (arith, ints, here.best p.before may, full, over, more, p.worth, p.at_most)

  pub one_wider : (y : ℤ) → MayCarry (widened r) y → reduced_route_cost prices r x ≤ℤ (reduced_route_cost prices r y +ℤ saving prices r)
  one_wider y may = go r.last_most refl may.fits
    where
      go : (o : Option ℤ) → r.last_most ≡ o → Fits r.steps (option_map (λ m. m +ℤ pos 1) o) (charged r.both y)
          → reduced_route_cost prices r x ≤ℤ (reduced_route_cost prices r y +ℤ saving_if o (gain prices r))
      go None e fits =
          let same = here.best y (record { enough = may.enough; fits = subst (λ o. Fits r.steps o (charged r.both y)) (sym e) tt }) in
          omega (arith, ints, same)
      go (Some most) e fits =
          by_lt_z (room r.steps most) (charged r.both y)
          (λ over.
          let at : charged r.both y ≡ room r.steps most +ℤ pos 1 = omega (arith, ints, over, fits, room_more r.steps most) in
          omega (arith, ints, clamps, past most y e at))
          (λ within.
          let same = here.best y (record { enough = may.enough; fits = subst (λ o. Fits r.steps o (charged r.both y)) (sym e) within }) in
          omega (arith, ints, clamps, same))

-- ---- a route that saves is full

-- one unit more, or one back
abbrev pub moved : Bool → ℤ → ℤ
moved back x = if back then x -ℤ pos 1 else x +ℤ pos 1

-- the route carries all that it may in this direction, and one unit more saves just the saving
pub record IsAtLimit (prices : List ℤ) (r : Route) (x : ℤ) (back : Bool) : Type 0 where
  pub may : MayCarry (widened r) (moved back x)
  pub saves : reduced_route_cost prices r (moved back x) ≡ reduced_route_cost prices r x -ℤ saving prices r
  pub not_loose : ¬ IsLoose prices r x

-- one unit more of |x|, of x that isn't below 0 or is
size_more : (steps : List Step) (c x : ℤ) → Rises steps c → CostAtLeast (pos 0) steps c → charge steps c (size (x +ℤ pos 1)) ≤ℤ (charge steps c (size x) +ℤ c)
size_more steps c x rises least =
    by_lt_z x (pos 0)
    (λ less.
    let e : size x ≡ size (x +ℤ pos 1) +ℤ pos 1 = omega (arith, ints, clamps, less) in
    omega (arith, ints, ap (charge steps c) e, charge_no_less (pos 0) steps c (size (x +ℤ pos 1)) least, at_most_last (pos 0) steps c least))
    (λ more.
    let e : size (x +ℤ pos 1) ≡ size x +ℤ pos 1 = omega (arith, ints, clamps, more) in
    omega (arith, ints, ap (charge steps c) e, charge_more steps c (size x) rises))

size_less : (steps : List Step) (c x : ℤ) → Rises steps c → CostAtLeast (pos 0) steps c → charge steps c (size (x -ℤ pos 1)) ≤ℤ (charge steps c (size x) +ℤ c)
size_less steps c x rises least =
    let e : size (neg_ℤ x +ℤ pos 1) ≡ size (x -ℤ pos 1) = omega (arith, ints, clamps) in
    let f : size (neg_ℤ x) ≡ size x = omega (arith, ints, clamps) in
    omega (arith, ints, size_more steps c (neg_ℤ x) rises least, ap (charge steps c) e, ap (charge steps c) f)

-- over the fields of a route
module _ (least : ℤ) (steps : List Step) (most c d x : ℤ) (rises : Rises steps c) (adds : Adds steps (Some most)) where
  -- one way: full, if a unit more would gain
  full_there : x ≤ℤ room steps most → pos 0 <ℤ (d -ℤ c)
      → ((x +ℤ pos 1) ≤ℤ room steps most → (charge steps c x -ℤ d *ℤ x) ≤ℤ (charge steps c (x +ℤ pos 1) -ℤ d *ℤ (x +ℤ pos 1)))
      → x ≡ room steps most
  full_there u gains best =
      by_lt_z x (room steps most)
      (λ less. absurd (omega (arith, ints, gains, best (omega (arith, ints, less)), charge_more steps c x rises, times_more d x)))
      (λ more. omega (arith, ints, u, more))

  full_both : CostAtLeast (pos 0) steps c → size x ≤ℤ room steps most → pos 0 <ℤ (d -ℤ c)
      → (size (x +ℤ pos 1) ≤ℤ room steps most → (charge steps c (size x) -ℤ d *ℤ x) ≤ℤ (charge steps c (size (x +ℤ pos 1)) -ℤ d *ℤ (x +ℤ pos 1)))
      → x ≡ room steps most
  full_both least u gains best =
      by_lt_z x (room steps most)
      (λ less. absurd (omega (arith, ints, gains, best (omega (arith, ints, clamps, less, u)), size_more steps c x rises least, times_more d x)))
      (λ more. omega (arith, ints, clamps, u, more))

  full_back : CostAtLeast (pos 0) steps c → size x ≤ℤ room steps most → pos 0 <ℤ (neg_ℤ d -ℤ c)
      → (size (x -ℤ pos 1) ≤ℤ room steps most → (charge steps c (size x) -ℤ d *ℤ x) ≤ℤ (charge steps c (size (x -ℤ pos 1)) -ℤ d *ℤ (x -ℤ pos 1)))
      → x ≡ neg_ℤ (room steps most)
  full_back least u gains best =
      by_lt_z (neg_ℤ x) (room steps most)
      (λ less. absurd (omega (arith, ints, gains, best (omega (arith, ints, clamps, less, u)), size_less steps c x rises least, times_less d x)))
      (λ more. omega (arith, ints, clamps, u, more))

-- the route carries all its room in this direction
record IsFull (both : Bool) (steps : List Step) (most d x : ℤ) (back : Bool) : Type 0 where
  full : charged both x ≡ room steps most
  past_it : charged both (moved back x) ≡ room steps most +ℤ pos 1
  worth : d *ℤ moved back x ≡ d *ℤ x +ℤ charged both d

is_full : (both : Bool) (least : ℤ) (steps : List Step) (most c d x : ℤ) → Rises steps c → Adds steps (Some most) → MayBeBoth both least steps (Some most) c
    → least ≤ℤ charged both x → charged both x ≤ℤ room steps most → pos 0 <ℤ (charged both d -ℤ c)
    → ((y : ℤ) → least ≤ℤ charged both y → charged both y ≤ℤ room steps most → (charge steps c (charged both x) -ℤ d *ℤ x) ≤ℤ (charge steps c (charged both y) -ℤ d *ℤ y))
    → (back : Bool) × IsFull both steps most d x back
is_full false least steps most c d x rises adds may l u gains best =
    let full = full_there least steps most c d x rises adds u gains (λ k. best (x +ℤ pos 1) (omega (arith, ints, l)) k) in
    (false, record { full = full; past_it = omega (arith, ints, full); worth = times_more d x })
is_full true least steps most c d x rises adds may l u gains best =
    let z = rooms_total steps most may.2 in
    by_lt_z d (pos 0)
    (λ less.
    let full = full_back least steps most c d x rises adds may.1 u (omega (arith, ints, clamps, gains, less))
    (λ k. best (x -ℤ pos 1) (omega (arith, ints, clamps, may.0)) k) in (
      true,
      record {
        full = omega (arith, ints, clamps, full, z);
        past_it = omega (arith, ints, clamps, full, z);
        worth = omega (arith, ints, clamps, times_less d x, less);
      },
    ))
    (λ more.
    let full = full_both least steps most c d x rises adds may.1 u (omega (arith, ints, clamps, gains, more))
    (λ k. best (x +ℤ pos 1) (omega (arith, ints, clamps, may.0)) k) in (
      false,
      record {
        full = omega (arith, ints, clamps, full, z);
        past_it = omega (arith, ints, clamps, full, z);
        worth = omega (arith, ints, clamps, times_more d x, more);
      },
    ))

at_limit_if : (prices : List ℤ) (r : Route) (most x : ℤ) (back : Bool) → r.last_most ≡ Some most → Adds r.steps (Some most)
    → r.least ≤ℤ charged r.both x → pos 0 <ℤ gain prices r → IsFull r.both r.steps most (price_drop prices r) x back → IsAtLimit prices r x back
at_limit_if prices r most x back e adds l gains full =
    let over = ap (charge r.steps r.last_cost) full.past_it in
    let here = ap (charge r.steps r.last_cost) full.full in
    let more = charge_past_room r.steps most r.last_cost adds in
    let saved : saving prices r ≡ int_max (pos 0) (gain prices r) = ap (λ o. saving_if o (gain prices r)) e in
    record {
      may = record {
        enough = omega (arith, ints, l, full.full, full.past_it);
        fits = subst (λ o. Fits r.steps (option_map (λ m. m +ℤ pos 1) o) (charged r.both (moved back x))) (sym e)
            (omega (arith, ints, full.past_it, room_more r.steps most));
      };
      saves = omega (arith, ints, clamps, over, here, more, full.worth, saved, gains);
      not_loose = λ loose.
          let up = subst (λ o. Fits r.steps o (charged r.both (x +ℤ pos 1))) e loose.may_more.fits in
          let down = subst (λ o. Fits r.steps o (charged r.both (x -ℤ pos 1))) e loose.may_less.fits in
          blocked back full.past_it up down;
    }
  where
    blocked : (back : Bool) → charged r.both (moved back x) ≡ room r.steps most +ℤ pos 1 → charged r.both (x +ℤ pos 1) ≤ℤ room r.steps most
        → charged r.both (x -ℤ pos 1) ≤ℤ room r.steps most → ⊥
    blocked true p up down = omega (arith, ints, p, down)
    blocked false p up down = omega (arith, ints, p, up)

-- a route that saves carries all its room in one direction
pub at_limit : (places : ℕ) (prices : List ℤ) (r : Route) (x : ℤ) → IsSoundRoute places r → IsBestAt prices r x → pos 0 <ℤ saving prices r
    → (back : Bool) × IsAtLimit prices r x back
at_limit places prices r x sound here saves = go r.last_most refl saves
  where
    go : (o : Option ℤ) → r.last_most ≡ o → pos 0 <ℤ saving_if o (gain prices r) → (back : Bool) × IsAtLimit prices r x back
    go None e saves = absurd (omega (arith, ints, saves))
    go (Some most) e saves =
        let gains : pos 0 <ℤ gain prices r = omega (arith, ints, clamps, saves) in
        let may_be = subst (λ o. MayBeBoth r.both r.least r.steps o r.last_cost) e sound.may_be_both in
        let adds = subst (Adds r.steps) e sound.adds in
        let fits = subst (λ o. Fits r.steps o (charged r.both x)) e here.may_carry.fits in
        let found = is_full r.both r.least r.steps most r.last_cost (price_drop prices r) x sound.rises adds may_be here.may_carry.enough fits gains
        (λ y l u. here.best y (record { enough = l; fits = subst (λ o. Fits r.steps o (charged r.both y)) (sym e) u })) in
        (found.0, at_limit_if prices r most x found.0 e adds here.may_carry.enough gains found.1)
