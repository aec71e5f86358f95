-- One unit more on a route that carries an amount of least reduced cost: the direction in which it
-- is cheapest, and that no greater amount is cheaper.
use Rattle.std.proofs.Common.{◌≡◌, ℕ, zero, suc, Bool, true, false, List, [], ◌∷◌, refl, ap, sym, ◌∙◌, subst, arith, ℤ, pos, negsuc, neg_ℤ, ◌+ℤ◌, ◌-ℤ◌, ◌≤ℤ◌, ◌<ℤ◌, if◌then◌else◌}
use Rattle.std.specs.Prelude.{Option, Some, None}
use Rattle.std.proofs.Math.IntN.{◌*ℤ◌}
use Rattle.std.proofs.lemmas.Int.{ints, clamps, by_lt_z}
use Rattle.mcf_flows.proofs.IntLaws.{mul-mono, mul-neg, mul-sub, mul-zero, neg-mul, sub-mul}
use Rattle.mcf_model.specs.declared.rows.Step.{Step}
use Rattle.mcf_model.specs.Model.{CostAtLeast, Fits, IsSoundRoute, MayBeBoth, MayCarry, Rises, Route, charge, charged, size}
use Rattle.mcf_model.specs.Prices.{IsBestAt, price_drop, reduced_route_cost}
use Rattle.mcf_figures.specs.Figures.{IsLoose, dearer, fits, next_cost}
use Rattle.mcf_figures.specs.FigureLaws.{DearerIsTheLeastRise, IsLeastRise}
use Rattle.mcf_figures.specs.Private.Units.{dearer_by, fits_more, unit_cost}
use Rattle.mcf_figures.proofs.Chains.{loose_moves}
use Rattle.mcf_figures.proofs.LooseRoutes.{charge_last, charge_next, fits_from, fits_less, from_fits, is_below, is_not_below}
use Rattle.mcf_figures.proofs.LooseTests.{fits_passes, it_fits}
use Rattle.mcf_figures.proofs.Wider.{moved, times_less, times_more}

-- ---- the cost of one unit more rises

at_least : (k : ℤ) (steps : List Step) (c x : ℤ) → CostAtLeast k steps c → k ≤ℤ unit_cost steps c x
at_least k [] c x h = h
at_least k (s ∷ steps) c x h =
    by_lt_z x s.most
    (λ less. rw (is_below x s.most less) h.0)
    (λ more. rw (is_not_below x s.most more) (at_least k steps c (x -ℤ s.most) h.1))

rising : (steps : List Step) (c x y : ℤ) → Rises steps c → x ≤ℤ y → unit_cost steps c x ≤ℤ unit_cost steps c y
rising [] c x y h k = omega (arith, ints)
rising (s ∷ steps) c x y h k =
    by_lt_z y s.most
    (λ less. rw (is_below y s.most less, is_below x s.most (omega (arith, ints, less, k))) (omega (arith, ints)))
    (λ more. by_lt_z x s.most
    (λ less. rw (is_not_below y s.most more, is_below x s.most less) (at_least s.cost steps c (y -ℤ s.most) h.0))
    (λ high. rw (is_not_below y s.most more, is_not_below x s.most high) (rising steps c (x -ℤ s.most) (y -ℤ s.most) h.1 (omega (arith, ints, k)))))

-- each unit more costs as much at least as the first
module _ (steps : List Step) (c x : ℤ) (rises : Rises steps c) where
  abbrev first : ℤ
  first = unit_cost steps c x

  -- the cost of an amount, less that of as many first units
  abbrev rest_of : ℤ → ℤ
  rest_of y = charge steps c y -ℤ first *ℤ y

  further : (n : ℕ) (y : ℤ) → y ≡ x +ℤ pos n → rest_of x ≤ℤ rest_of y
  further zero y at =
      let same : y ≡ x = omega (arith, ints, at) in
      omega (arith, ints, ap rest_of same)
  further (suc n) y at =
      let before = further n (y -ℤ pos 1) (omega (arith, ints, at)) in
      let up = rising steps c x (y -ℤ pos 1) rises (omega (arith, ints, at)) in
      omega (arith, ints, before, up, charge_last steps c y, times_less first y)

  no_less : (y : ℤ) → x <ℤ y → rest_of x ≤ℤ rest_of y
  no_less y above = go (y -ℤ x) refl
    where
      go : (z : ℤ) → y -ℤ x ≡ z → rest_of x ≤ℤ rest_of y
      go (pos n) e = further n y (omega (arith, ints, e))
      go (negsuc n) e = absurd (omega (arith, ints, e, above))

-- ---- the direction of one unit more

-- what a price is worth on a route is at most what its size is worth
worth_at_most : (both : Bool) (d y : ℤ) → (d *ℤ y) ≤ℤ (charged both d *ℤ charged both y)
worth_at_most false d y = omega (arith, ints)
worth_at_most true d y =
    by_lt_z d (pos 0)
    (λ less.
    let s : size d ≡ neg_ℤ d = omega (arith, ints, clamps, less) in
    let up = mul-mono (neg_ℤ d) (neg_ℤ y) (size y) (omega (arith, ints, less)) (omega (arith, ints, clamps)) in
    omega (arith, ints, up, ap (λ z. z *ℤ size y) s, neg-mul d (neg_ℤ y), mul-neg d y))
    (λ more.
    let s : size d ≡ d = omega (arith, ints, clamps, more) in
    let up = mul-mono d y (size y) more (omega (arith, ints, clamps)) in
    omega (arith, ints, up, ap (λ z. z *ℤ size y) s))

-- one unit more is cheapest in this direction, and costs no less than the price drops in it
record IsNextWay (both : Bool) (steps : List Step) (c d x : ℤ) (back : Bool) : Type 0 where
  past : charged both (moved back x) ≡ charged both x +ℤ pos 1
  worth : d *ℤ moved back x ≡ d *ℤ x +ℤ charged both d
  same : d *ℤ x ≡ charged both d *ℤ charged both x
  low : charged both d ≤ℤ unit_cost steps c (charged both x)

-- over the fields of a route both ways
module _ (steps : List Step) (most : Option ℤ) (c d x : ℤ) (least : CostAtLeast (pos 0) steps c) (fits : Fits steps most (size x +ℤ pos 1))
    (best : (y : ℤ) → pos 0 ≤ℤ size y → Fits steps most (size y) → (charge steps c (size x) -ℤ d *ℤ x) ≤ℤ (charge steps c (size y) -ℤ d *ℤ y)) where
  abbrev next : ℤ
  next = unit_cost steps c (size x)

  abbrev cost_of : ℤ → ℤ
  cost_of y = charge steps c y

  here : (y : ℤ) → size y ≤ℤ (size x +ℤ pos 1) → (charge steps c (size x) -ℤ d *ℤ x) ≤ℤ (charge steps c (size y) -ℤ d *ℤ y)
  here y k = best y (omega (arith, ints, clamps)) (fits_less steps most (size x +ℤ pos 1) (size y) fits k)

  way_there : pos 0 <ℤ x → IsNextWay true steps c d x false
  way_there more =
      let e0 : size x ≡ x = omega (arith, ints, clamps, more) in
      let e1 : size (x +ℤ pos 1) ≡ size x +ℤ pos 1 = omega (arith, ints, clamps, more) in
      let e2 : size (x -ℤ pos 1) ≡ size x -ℤ pos 1 = omega (arith, ints, clamps, more) in
      let down = here (x -ℤ pos 1) (omega (arith, ints, e2)) in
      let up = here (x +ℤ pos 1) (omega (arith, ints, e1)) in
      let d0 : pos 0 ≤ℤ d =
      omega (arith, ints, down, ap cost_of e2, charge_last steps c (size x), at_least (pos 0) steps c (size x -ℤ pos 1) least, times_less d x) in
      let s : size d ≡ d = omega (arith, ints, clamps, d0) in
      record {
        past = e1;
        worth = omega (arith, ints, times_more d x, s);
        same = sym (ap (λ z. z *ℤ size x) s ∙ ap (λ z. d *ℤ z) e0);
        low = omega (arith, ints, s, up, ap cost_of e1, charge_next steps c (size x), times_more d x);
      }

  way_back : x <ℤ pos 0 → IsNextWay true steps c d x true
  way_back less =
      let e0 : size x ≡ neg_ℤ x = omega (arith, ints, clamps, less) in
      let e1 : size (x -ℤ pos 1) ≡ size x +ℤ pos 1 = omega (arith, ints, clamps, less) in
      let e2 : size (x +ℤ pos 1) ≡ size x -ℤ pos 1 = omega (arith, ints, clamps, less) in
      let down = here (x +ℤ pos 1) (omega (arith, ints, e2)) in
      let up = here (x -ℤ pos 1) (omega (arith, ints, e1)) in
      let d0 : d ≤ℤ pos 0 =
      omega (arith, ints, down, ap cost_of e2, charge_last steps c (size x), at_least (pos 0) steps c (size x -ℤ pos 1) least, times_more d x) in
      let s : size d ≡ neg_ℤ d = omega (arith, ints, clamps, d0) in
      let both : size d *ℤ size x ≡ neg_ℤ (neg_ℤ (d *ℤ x)) =
      ap (λ z. z *ℤ size x) s ∙ ap (λ z. neg_ℤ d *ℤ z) e0 ∙ neg-mul d (neg_ℤ x) ∙ ap neg_ℤ (mul-neg d x) in
      record {
        past = e1;
        worth = omega (arith, ints, times_less d x, s);
        same = omega (arith, ints, both);
        low = omega (arith, ints, s, up, ap cost_of e1, charge_next steps c (size x), times_less d x);
      }

  way_idle : x ≡ pos 0 → (back : Bool) × IsNextWay true steps c d x back
  way_idle none =
      let e0 : size x ≡ pos 0 = omega (arith, ints, clamps, none) in
      let e1 : size (x +ℤ pos 1) ≡ size x +ℤ pos 1 = omega (arith, ints, clamps, none) in
      let e2 : size (x -ℤ pos 1) ≡ size x +ℤ pos 1 = omega (arith, ints, clamps, none) in
      let up = here (x +ℤ pos 1) (omega (arith, ints, e1)) in
      let down = here (x -ℤ pos 1) (omega (arith, ints, e2)) in
      let there : d ≤ℤ next = omega (arith, ints, up, ap cost_of e1, charge_next steps c (size x), times_more d x) in
      let back : neg_ℤ d ≤ℤ next = omega (arith, ints, down, ap cost_of e2, charge_next steps c (size x), times_less d x) in
      let same : d *ℤ x ≡ size d *ℤ size x = ap (λ z. d *ℤ z) none ∙ mul-zero d ∙ sym (ap (λ z. size d *ℤ z) e0 ∙ mul-zero (size d)) in
      let low : size d ≤ℤ next = omega (arith, ints, clamps, there, back) in
      by_lt_z d (pos 0)
      (λ less. (true, record { past = e2; worth = omega (arith, ints, clamps, times_less d x, less); same = same; low = low }))
      (λ more. (false, record { past = e1; worth = omega (arith, ints, clamps, times_more d x, more); same = same; low = low }))

  way_both : (back : Bool) × IsNextWay true steps c d x back
  way_both =
      by_lt_z x (pos 0)
      (λ less. (true, way_back less))
      (λ not_less. by_lt_z (pos 0) x
      (λ more. (false, way_there more))
      (λ not_more. way_idle (omega (arith, ints, not_less, not_more))))

next_way : (both : Bool) (least : ℤ) (steps : List Step) (most : Option ℤ) (c d x : ℤ) → MayBeBoth both least steps most c → least ≤ℤ charged both x
    → Fits steps most (charged both x +ℤ pos 1)
    → ((y : ℤ) → least ≤ℤ charged both y → Fits steps most (charged both y) → (charge steps c (charged both x) -ℤ d *ℤ x) ≤ℤ (charge steps c (charged both y) -ℤ d *ℤ y))
    → (back : Bool) × IsNextWay both steps c d x back
next_way true least steps most c d x may l fits best =
    way_both steps most c d x may.1 fits (λ y k f. best y (omega (arith, ints, k, may.0)) f)
next_way false least steps most c d x may l fits best = (
  false,
  record {
    past = refl;
    worth = times_more d x;
    same = refl;
    low = omega (arith, ints, best (x +ℤ pos 1) (omega (arith, ints, l)) fits, charge_next steps c x, times_more d x);
  },
)

-- ---- what is told

-- the route may carry one unit more in this direction, and the reduced cost then rises by z
pub record IsRiseTo (prices : List ℤ) (r : Route) (x z : ℤ) (back : Bool) : Type 0 where
  pub may : MayCarry r (moved back x)
  pub one_more : charged r.both (moved back x) ≡ charged r.both x +ℤ pos 1
  pub rises : reduced_route_cost prices r (moved back x) ≡ reduced_route_cost prices r x +ℤ z

-- a loose route may carry one unit more
loose_fits : (prices : List ℤ) (r : Route) (x : ℤ) → IsLoose prices r x → Fits r.steps r.last_most (charged r.both x +ℤ pos 1)
loose_fits prices r x loose = go r.both loose.may_more.fits loose.may_less.fits
  where
    go : (both : Bool) → Fits r.steps r.last_most (charged both (x +ℤ pos 1)) → Fits r.steps r.last_most (charged both (x -ℤ pos 1))
        → Fits r.steps r.last_most (charged both x +ℤ pos 1)
    go false up down = up
    go true up down =
        by_lt_z x (pos 0)
        (λ less. subst (Fits r.steps r.last_most) (omega (arith, ints, clamps, less)) down)
        (λ more. subst (Fits r.steps r.last_most) (omega (arith, ints, clamps, more)) up)

if_some : (b : Bool) (v z : ℤ) → (if b then Some v else None) ≡ Some z → (b ≡ true) × (v ≡ z)
if_some true v z e = (refl, cc)
if_some false v z e = cc e

told_fits : (prices : List ℤ) (r : Route) (x : ℤ) → Fits r.steps r.last_most (charged r.both x +ℤ pos 1)
    → dearer prices r x ≡ Some (next_cost r x -ℤ charged r.both (price_drop prices r))
told_fits prices r x fits =
    ap (λ b. if b then Some (next_cost r x -ℤ charged r.both (price_drop prices r)) else None)
    (fits_passes r.steps r.last_most (charged r.both x +ℤ pos 1) fits)

module _ (places : ℕ) (prices : List ℤ) (r : Route) (x : ℤ) (sound : IsSoundRoute places r) (here : IsBestAt prices r x) where
  abbrev d : ℤ
  d = price_drop prices r

  way : Fits r.steps r.last_most (charged r.both x +ℤ pos 1) → (back : Bool) × IsNextWay r.both r.steps r.last_cost d x back
  way fits =
      next_way r.both r.least r.steps r.last_most r.last_cost d x sound.may_be_both here.may_carry.enough fits
      (λ y l f. here.best y (record { enough = l; fits = f }))

  rise_if : (z : ℤ) (fits : Fits r.steps r.last_most (charged r.both x +ℤ pos 1)) → next_cost r x -ℤ charged r.both d ≡ z → IsRiseTo prices r x z (way fits).0
  rise_if z fits is =
      let w = (way fits).1 in
      record {
        may = record {
          enough = omega (arith, ints, here.may_carry.enough, w.past);
          fits = subst (Fits r.steps r.last_most) (sym w.past) fits;
        };
        one_more = w.past;
        rises = omega (arith, ints, is, w.worth, ap (charge r.steps r.last_cost) w.past);
      }

  least_rise_if : (z : ℤ) → Fits r.steps r.last_most (charged r.both x +ℤ pos 1) → next_cost r x -ℤ charged r.both d ≡ z → IsLeastRise prices r x z
  least_rise_if z fits is =
      let w = (way fits).1 in
      let to = rise_if z fits is in
      let cost = charge_next r.steps r.last_cost (charged r.both x) in
      record {
        not_below = omega (arith, ints, is, cost, w.low);
        next = moved (way fits).0 x;
        may_next = to.may;
        one_more = to.one_more;
        rises = to.rises;
        least = λ y may above.
            let a = charged r.both x in
            let b = charged r.both y in
            let u = unit_cost r.steps r.last_cost a in
            let e = charged r.both d in
            let far = no_less r.steps r.last_cost a sound.rises b above in
            let each : z ≡ u -ℤ e = omega (arith, ints, is, cost) in
            omega (arith, ints, far, worth_at_most r.both d y, w.same, ap (λ q. q *ℤ (b -ℤ a)) each, sub-mul u e (b -ℤ a), mul-sub u b a, mul-sub e b a);
      }

  pub rise_to : (z : ℤ) → dearer prices r x ≡ Some z → (back : Bool) × IsRiseTo prices r x z back
  rise_to z told =
      let t = if_some (fits r.steps r.last_most (charged r.both x +ℤ pos 1)) (next_cost r x -ℤ charged r.both d) z told in
      let f = it_fits r.steps r.last_most (charged r.both x +ℤ pos 1) t.0 in
      ((way f).0, rise_if z f t.1)

  least_rise : (z : ℤ) → dearer prices r x ≡ Some z → IsLeastRise prices r x z
  least_rise z told =
      let t = if_some (fits r.steps r.last_most (charged r.both x +ℤ pos 1)) (next_cost r x -ℤ charged r.both d) z told in
      least_rise_if z (it_fits r.steps r.last_most (charged r.both x +ℤ pos 1) t.0) t.1

  none_if_loose : IsLoose prices r x → dearer prices r x ≡ Some (pos 0)
  none_if_loose loose =
      let fits = loose_fits prices r x loose in
      let w = (way fits).1 in
      let moves = loose_moves prices r x (way fits).0 loose in
      let none : next_cost r x -ℤ charged r.both d ≡ pos 0 = omega (arith, ints, moves.1, w.worth, ap (charge r.steps r.last_cost) w.past) in
      told_fits prices r x fits ∙ ap (λ v. Some v) none

told_if : (prices : List ℤ) (r : Route) (x y : ℤ) → MayCarry r y → charged r.both x <ℤ charged r.both y → (z : ℤ) × (dearer prices r x ≡ Some z)
told_if prices r x y may above =
    let fits = fits_less r.steps r.last_most (charged r.both y) (charged r.both x +ℤ pos 1) may.fits (omega (arith, ints, above)) in
    (next_cost r x -ℤ charged r.both (price_drop prices r), told_fits prices r x fits)

pub dearer_is_the_least_rise_lem : DearerIsTheLeastRise
dearer_is_the_least_rise_lem =
    record {
      least_rise = λ places prices r x z sound here told. least_rise places prices r x sound here z told;
      told = told_if;
      none_if_loose = none_if_loose;
    }

-- ---- as the code reads numbers

same_fits : (steps : List Step) (most : Option ℤ) (x : ℤ) → fits_more steps most x ≡ fits steps most (x +ℤ pos 1)
same_fits steps most x = go (fits_more steps most x) (fits steps most (x +ℤ pos 1)) refl refl
  where
    go : (a b : Bool) → fits_more steps most x ≡ a → fits steps most (x +ℤ pos 1) ≡ b → a ≡ b
    go true true e f = refl
    go false false e f = refl
    go true false e f = sym (sym f ∙ fits_passes steps most (x +ℤ pos 1) (fits_from steps most x e))
    go false true e f = sym e ∙ from_fits steps most x (it_fits steps most (x +ℤ pos 1) f)

-- the test by the cost of one unit more tells the same
pub dearer_is : (prices : List ℤ) (r : Route) (x : ℤ) → dearer_by r (price_drop prices r) x ≡ dearer prices r x
dearer_is prices r x =
    let cost : unit_cost r.steps r.last_cost (charged r.both x) ≡ next_cost r x = omega (arith, ints, charge_next r.steps r.last_cost (charged r.both x)) in
    ap (λ (b : Bool). if b then Some (unit_cost r.steps r.last_cost (charged r.both x) -ℤ charged r.both (price_drop prices r)) else None)
    (same_fits r.steps r.last_most (charged r.both x))
    ∙ ap (λ z. if fits r.steps r.last_most (charged r.both x +ℤ pos 1) then Some (z -ℤ charged r.both (price_drop prices r)) else None) cost
