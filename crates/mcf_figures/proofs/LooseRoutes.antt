-- The tests by the cost of one unit more say which routes are loose.
use Rattle.std.proofs.Common.{◌≡◌, ℕ, suc, ◌<◌, Bool, true, false, List, [], ◌∷◌, drop, drop-cons, get_or, length, refl, ap, sym, ◌∙◌, subst, arith, ℤ, pos, neg_ℤ, ◌+ℤ◌, ◌-ℤ◌, ◌≤ℤ◌, ◌<ℤ◌, if◌then◌else◌, int_lt}
use Rattle.std.specs.Prelude.{Option, Some, None, ◌↔◌}
use Rattle.std.specs.Int.{int_min}
use Rattle.std.specs.Ordering.{int_eq}
use Rattle.std.proofs.Math.IntN.{◌*ℤ◌}
use Rattle.std.proofs.lemmas.Int.{ints, clamps, by_lt_z}
use Rattle.mcf_flows.proofs.IntLaws.{mul-add, mul-one}
use Rattle.mcf_model.specs.declared.rows.Step.{Step}
use Rattle.mcf_model.specs.Model.{Fits, IsSoundRoute, MayBeBoth, Route, charge, charged, room, size}
use Rattle.mcf_model.specs.Prices.{price_drop}
use Rattle.mcf_figures.specs.Figures.{IsLoose}
use Rattle.mcf_figures.specs.Private.Units.{all_four, fits_more, is_between, is_between_both, is_loose, is_still, unit_cost}
use Rattle.mcf_figures.proofs.Wider.{times_less, times_more}

-- ---- tests of numbers

pub below : (x y : ℤ) → int_lt x y ≡ true → x <ℤ y
below x y h = grind (arith, ints)

pub is_below : (x y : ℤ) → x <ℤ y → int_lt x y ≡ true
is_below x y h = grind (arith, ints)

pub not_below : (x y : ℤ) → int_lt x y ≡ false → y ≤ℤ x
not_below x y h = grind (arith, ints)

pub is_not_below : (x y : ℤ) → y ≤ℤ x → int_lt x y ≡ false
is_not_below x y h = grind (arith, ints)

equal : (x y : ℤ) → int_eq x y ≡ true → x ≡ y
equal x y h = grind (arith, ints)

is_equal : (x y : ℤ) → x ≡ y → int_eq x y ≡ true
is_equal x y h = grind (arith, ints)

is_not_equal : (x y : ℤ) → (x ≡ y → ⊥) → int_eq x y ≡ false
is_not_equal x y h = go (int_eq x y) refl
  where
    go : (b : Bool) → int_eq x y ≡ b → int_eq x y ≡ false
    go true e = absurd (h (equal x y e))
    go false e = e

not_equal : (x y : ℤ) → int_eq x y ≡ false → x ≡ y → ⊥
not_equal x y h e = cc (sym (is_equal x y e) ∙ h)

record AreFour (a b c d : Bool) : Type 0 where
  first : a ≡ true
  second : b ≡ true
  third : c ≡ true
  fourth : d ≡ true

four : (a b c d : Bool) → all_four a b c d ≡ true → AreFour a b c d
four true true true true e = record { first = refl; second = refl; third = refl; fourth = refl }
four true true true false e = cc e
four true true false d e = cc e
four true false c d e = cc e
four false b c d e = cc e

from_four : (a b c d : Bool) → AreFour a b c d → all_four a b c d ≡ true
from_four a b c d h = rw (h.first, h.second, h.third, h.fourth) refl

-- ---- one unit more

one_more : (k x : ℤ) → k *ℤ (x +ℤ pos 1) ≡ k *ℤ x +ℤ k
one_more k x = omega (arith, ints, mul-add k x (pos 1), mul-one k)

pub charge_next : (steps : List Step) (c x : ℤ) → charge steps c (x +ℤ pos 1) ≡ charge steps c x +ℤ unit_cost steps c x
charge_next [] c x = one_more c x
charge_next (s ∷ steps) c x =
    by_lt_z x s.most
    (λ less.
    let here : int_min x s.most ≡ x = omega (arith, ints, clamps, less) in
    let there : int_min (x +ℤ pos 1) s.most ≡ x +ℤ pos 1 = omega (arith, ints, clamps, less) in
    let e1 : (x +ℤ pos 1) -ℤ (x +ℤ pos 1) ≡ pos 0 = omega (arith, ints) in
    let e2 : x -ℤ x ≡ pos 0 = omega (arith, ints) in
    rw (is_below x s.most less, here, there, e1, e2) (omega (arith, ints, one_more s.cost x)))
    (λ more.
    let here : int_min x s.most ≡ s.most = omega (arith, ints, clamps, more) in
    let there : int_min (x +ℤ pos 1) s.most ≡ s.most = omega (arith, ints, clamps, more) in
    let e1 : (x +ℤ pos 1) -ℤ s.most ≡ (x -ℤ s.most) +ℤ pos 1 = omega (arith, ints) in
    rw (is_not_below x s.most more, here, there, e1) (omega (arith, ints, charge_next steps c (x -ℤ s.most))))

pub charge_last : (steps : List Step) (c x : ℤ) → charge steps c x ≡ charge steps c (x -ℤ pos 1) +ℤ unit_cost steps c (x -ℤ pos 1)
charge_last steps c x =
    let e : (x -ℤ pos 1) +ℤ pos 1 ≡ x = omega (arith, ints) in
    sym (ap (charge steps c) e) ∙ charge_next steps c (x -ℤ pos 1)

pub fits_from : (steps : List Step) (most : Option ℤ) (x : ℤ) → fits_more steps most x ≡ true → Fits steps most (x +ℤ pos 1)
fits_from steps (Some m) x e = let h = below x (room steps m) e in omega (arith, ints, h)
fits_from steps None x e = tt

pub from_fits : (steps : List Step) (most : Option ℤ) (x : ℤ) → Fits steps most (x +ℤ pos 1) → fits_more steps most x ≡ true
from_fits steps (Some m) x h = is_below x (room steps m) (omega (arith, ints, h))
from_fits steps None x h = refl

pub fits_less : (steps : List Step) (most : Option ℤ) (x y : ℤ) → Fits steps most x → y ≤ℤ x → Fits steps most y
fits_less steps (Some m) x y h k = omega (arith, ints, h, k)
fits_less steps None x y h k = tt

-- the next unit, as a loop finds it
pub found_here : (steps : List Step) (i : ℕ) (d : Step) (c c' x y y' : ℤ) (o : Option ℤ) → i < length steps → c' ≡ c → y' ≡ y
    → o ≡ (if int_lt x (get_or steps i d).most then None else Some (x -ℤ (get_or steps i d).most)) → o ≡ None
    → unit_cost (drop i steps) c' x ≡ unit_cost steps c' y' → (get_or steps i d).cost ≡ unit_cost steps c y
found_here steps i d c c' x y y' o h same_c same_y is none before =
    go (int_lt x (get_or steps i d).most) refl ∙ ap (λ k. unit_cost steps k y') same_c ∙ ap (unit_cost steps c) same_y
  where
    next : unit_cost (get_or steps i d ∷ drop (suc i) steps) c' x ≡ unit_cost steps c' y'
    next = sym (ap (λ ss. unit_cost ss c' x) (drop-cons steps i d h)) ∙ before

    go : (b : Bool) → int_lt x (get_or steps i d).most ≡ b → (get_or steps i d).cost ≡ unit_cost steps c' y'
    go true e = rw e at next
    go false e = cc (sym none ∙ is ∙ ap (λ b. if b then None else Some (x -ℤ (get_or steps i d).most)) e)

-- ---- one direction

-- what may be carried of each amount next to x, and what it costs
module _ (prices : List ℤ) (r : Route) (x : ℤ) where
  abbrev d : ℤ
  d = price_drop prices r

  abbrev cost_of : ℤ → ℤ
  cost_of y = charge r.steps r.last_cost y

  -- amounts rise with x: so many are charged, and one more and one less
  to_loose : (y : ℤ) → charged r.both x ≡ y → charged r.both (x +ℤ pos 1) ≡ y +ℤ pos 1 → charged r.both (x -ℤ pos 1) ≡ y -ℤ pos 1
      → is_between r.steps r.last_most r.last_cost r.least y d ≡ true → IsLoose prices r x
  to_loose y e0 e1 e2 test =
      let t = four _ _ _ _ test in
      let l = below r.least y t.first in
      let fits = fits_from r.steps r.last_most y t.second in
      let n = equal (unit_cost r.steps r.last_cost y) d t.third in
      let p = equal (unit_cost r.steps r.last_cost (y -ℤ pos 1)) d t.fourth in
      record {
        may_more = record { enough = omega (arith, ints, e1, l); fits = subst (Fits r.steps r.last_most) (sym e1) fits };
        may_less = record {
          enough = omega (arith, ints, e2, l);
          fits = subst (Fits r.steps r.last_most) (sym e2) (fits_less r.steps r.last_most (y +ℤ pos 1) (y -ℤ pos 1) fits (omega (arith, ints)));
        };
        more_is = omega (arith, ints, ap cost_of e0, ap cost_of e1, charge_next r.steps r.last_cost y, n, times_more d x);
        less_is = omega (arith, ints, ap cost_of e0, ap cost_of e2, charge_last r.steps r.last_cost y, p, times_less d x);
      }

  from_loose : (y : ℤ) → charged r.both x ≡ y → charged r.both (x +ℤ pos 1) ≡ y +ℤ pos 1 → charged r.both (x -ℤ pos 1) ≡ y -ℤ pos 1
      → IsLoose prices r x → is_between r.steps r.last_most r.last_cost r.least y d ≡ true
  from_loose y e0 e1 e2 loose =
      from_four _ _ _ _ (record {
        first = is_below r.least y (omega (arith, ints, loose.may_less.enough, e2));
        second = from_fits r.steps r.last_most y (subst (Fits r.steps r.last_most) e1 loose.may_more.fits);
        third = is_equal (unit_cost r.steps r.last_cost y) d
            (omega (arith, ints, ap cost_of e0, ap cost_of e1, charge_next r.steps r.last_cost y, loose.more_is, times_more d x));
        fourth = is_equal (unit_cost r.steps r.last_cost (y -ℤ pos 1)) d
            (omega (arith, ints, ap cost_of e0, ap cost_of e2, charge_last r.steps r.last_cost y, loose.less_is, times_less d x));
      })

  -- amounts fall as x rises: on the way back
  to_loose_back : (y : ℤ) → charged r.both x ≡ y → charged r.both (x +ℤ pos 1) ≡ y -ℤ pos 1 → charged r.both (x -ℤ pos 1) ≡ y +ℤ pos 1
      → is_between r.steps r.last_most r.last_cost r.least y (neg_ℤ d) ≡ true → IsLoose prices r x
  to_loose_back y e0 e1 e2 test =
      let t = four _ _ _ _ test in
      let l = below r.least y t.first in
      let fits = fits_from r.steps r.last_most y t.second in
      let n = equal (unit_cost r.steps r.last_cost y) (neg_ℤ d) t.third in
      let p = equal (unit_cost r.steps r.last_cost (y -ℤ pos 1)) (neg_ℤ d) t.fourth in
      record {
        may_more = record {
          enough = omega (arith, ints, e1, l);
          fits = subst (Fits r.steps r.last_most) (sym e1) (fits_less r.steps r.last_most (y +ℤ pos 1) (y -ℤ pos 1) fits (omega (arith, ints)));
        };
        may_less = record { enough = omega (arith, ints, e2, l); fits = subst (Fits r.steps r.last_most) (sym e2) fits };
        more_is = omega (arith, ints, ap cost_of e0, ap cost_of e1, charge_last r.steps r.last_cost y, p, times_more d x);
        less_is = omega (arith, ints, ap cost_of e0, ap cost_of e2, charge_next r.steps r.last_cost y, n, times_less d x);
      }

  from_loose_back : (y : ℤ) → charged r.both x ≡ y → charged r.both (x +ℤ pos 1) ≡ y -ℤ pos 1 → charged r.both (x -ℤ pos 1) ≡ y +ℤ pos 1
      → IsLoose prices r x → is_between r.steps r.last_most r.last_cost r.least y (neg_ℤ d) ≡ true
  from_loose_back y e0 e1 e2 loose =
      from_four _ _ _ _ (record {
        first = is_below r.least y (omega (arith, ints, loose.may_more.enough, e1));
        second = from_fits r.steps r.last_most y (subst (Fits r.steps r.last_most) e2 loose.may_less.fits);
        third = is_equal (unit_cost r.steps r.last_cost y) (neg_ℤ d)
            (omega (arith, ints, ap cost_of e0, ap cost_of e2, charge_next r.steps r.last_cost y, loose.less_is, times_less d x));
        fourth = is_equal (unit_cost r.steps r.last_cost (y -ℤ pos 1)) (neg_ℤ d)
            (omega (arith, ints, ap cost_of e0, ap cost_of e1, charge_last r.steps r.last_cost y, loose.more_is, times_more d x));
      })

  -- nothing is carried on a route both ways
  to_loose_still : (y : ℤ) → y ≡ pos 0 → r.least ≡ pos 0 → charged r.both x ≡ y → charged r.both (x +ℤ pos 1) ≡ y +ℤ pos 1 → charged r.both (x -ℤ pos 1) ≡ y +ℤ pos 1
      → is_still r.steps r.last_most r.last_cost d ≡ true → IsLoose prices r x
  to_loose_still y z none e0 e1 e2 test =
      let t = four true (fits_more r.steps r.last_most (pos 0)) (int_eq (unit_cost r.steps r.last_cost (pos 0)) (pos 0)) (int_eq d (pos 0)) test in
      let fits = subst (λ w. Fits r.steps r.last_most (w +ℤ pos 1)) (sym z) (fits_from r.steps r.last_most (pos 0) t.second) in
      let n = equal (unit_cost r.steps r.last_cost (pos 0)) (pos 0) t.third in
      let p = equal d (pos 0) t.fourth in
      let next = subst (λ w. charge r.steps r.last_cost (w +ℤ pos 1) ≡ charge r.steps r.last_cost w +ℤ pos 0) (sym z)
      (charge_next r.steps r.last_cost (pos 0) ∙ ap (λ w. charge r.steps r.last_cost (pos 0) +ℤ w) n) in
      record {
        may_more = record { enough = omega (arith, ints, e1, none, z); fits = subst (Fits r.steps r.last_most) (sym e1) fits };
        may_less = record { enough = omega (arith, ints, e2, none, z); fits = subst (Fits r.steps r.last_most) (sym e2) fits };
        more_is = omega (arith, ints, ap cost_of e0, ap cost_of e1, next, p, times_more d x);
        less_is = omega (arith, ints, ap cost_of e0, ap cost_of e2, next, p, times_less d x);
      }

  from_loose_still : (y : ℤ) → y ≡ pos 0 → charged r.both x ≡ y → charged r.both (x +ℤ pos 1) ≡ y +ℤ pos 1 → charged r.both (x -ℤ pos 1) ≡ y +ℤ pos 1
      → IsLoose prices r x → is_still r.steps r.last_most r.last_cost d ≡ true
  from_loose_still y z e0 e1 e2 loose =
      let next = charge_next r.steps r.last_cost y in
      let up : cost_of (y +ℤ pos 1) -ℤ cost_of y ≡ d = omega (arith, ints, ap cost_of e0, ap cost_of e1, loose.more_is, times_more d x) in
      let down : cost_of (y +ℤ pos 1) -ℤ cost_of y ≡ neg_ℤ d = omega (arith, ints, ap cost_of e0, ap cost_of e2, loose.less_is, times_less d x) in
      from_four _ _ _ _ (record {
        first = refl;
        second = from_fits r.steps r.last_most (pos 0) (subst (λ w. Fits r.steps r.last_most (w +ℤ pos 1)) z (subst (Fits r.steps r.last_most) e1 loose.may_more.fits));
        third = is_equal (unit_cost r.steps r.last_cost (pos 0)) (pos 0) (subst (λ w. unit_cost r.steps r.last_cost w ≡ pos 0) z (omega (arith, ints, next, up, down)));
        fourth = is_equal d (pos 0) (omega (arith, ints, up, down));
      })

-- ---- all routes

both_back : (steps : List Step) (most : Option ℤ) (c x d : ℤ) → x <ℤ pos 0 → is_between_both steps most c x d ≡ is_between steps most c (pos 0) (neg_ℤ x) (neg_ℤ d)
both_back steps most c x d less = rw (is_not_equal x (pos 0) (λ e. omega (arith, ints, e, less)), is_below x (pos 0) less) refl

both_there : (steps : List Step) (most : Option ℤ) (c x d : ℤ) → pos 0 <ℤ x → is_between_both steps most c x d ≡ is_between steps most c (pos 0) x d
both_there steps most c x d more = rw (is_not_equal x (pos 0) (λ e. omega (arith, ints, e, more)), is_not_below x (pos 0) (omega (arith, ints, more))) refl

both_still : (steps : List Step) (most : Option ℤ) (c x d : ℤ) → x ≡ pos 0 → is_between_both steps most c x d ≡ is_still steps most c d
both_still steps most c x d none = rw (is_equal x (pos 0) none) refl

no_least : (both : Bool) (least : ℤ) (steps : List Step) (most : Option ℤ) (c : ℤ) → both ≡ true → MayBeBoth both least steps most c → least ≡ pos 0
no_least true least steps most c e h = h.0
no_least false least steps most c e h = cc e

module _ (places : ℕ) (prices : List ℤ) (r : Route) (x : ℤ) (sound : IsSoundRoute places r) where
  abbrev drop_here : ℤ
  drop_here = price_drop prices r

  one_way : r.both ≡ false → (is_between r.steps r.last_most r.last_cost r.least x drop_here ≡ true) ↔ IsLoose prices r x
  one_way e =
      let c : (z : ℤ) → charged r.both z ≡ z = λ z. ap (λ b. charged b z) e in
      (to_loose prices r x x (c x) (c (x +ℤ pos 1)) (c (x -ℤ pos 1)), from_loose prices r x x (c x) (c (x +ℤ pos 1)) (c (x -ℤ pos 1)))

  both_ways : r.both ≡ true → (is_between_both r.steps r.last_most r.last_cost x drop_here ≡ true) ↔ IsLoose prices r x
  both_ways e =
      let c : (z : ℤ) → charged r.both z ≡ size z = λ z. ap (λ b. charged b z) e in
      let none = no_least r.both r.least r.steps r.last_most r.last_cost e sound.may_be_both in
      by_lt_z x (pos 0)
      (λ less.
      let y = neg_ℤ x in
      let e0 : charged r.both x ≡ y = omega (arith, ints, clamps, c x, less) in
      let e1 : charged r.both (x +ℤ pos 1) ≡ y -ℤ pos 1 = omega (arith, ints, clamps, c (x +ℤ pos 1), less) in
      let e2 : charged r.both (x -ℤ pos 1) ≡ y +ℤ pos 1 = omega (arith, ints, clamps, c (x -ℤ pos 1), less) in
      let same : is_between_both r.steps r.last_most r.last_cost x drop_here ≡ is_between r.steps r.last_most r.last_cost r.least y (neg_ℤ drop_here) =
      both_back r.steps r.last_most r.last_cost x drop_here less ∙ ap (λ l. is_between r.steps r.last_most r.last_cost l y (neg_ℤ drop_here)) (sym none) in
      (λ t. to_loose_back prices r x y e0 e1 e2 (sym same ∙ t), λ l. same ∙ from_loose_back prices r x y e0 e1 e2 l))
      (λ not_less. by_lt_z (pos 0) x
      (λ more.
      let e0 : charged r.both x ≡ x = omega (arith, ints, clamps, c x, more) in
      let e1 : charged r.both (x +ℤ pos 1) ≡ x +ℤ pos 1 = omega (arith, ints, clamps, c (x +ℤ pos 1), more) in
      let e2 : charged r.both (x -ℤ pos 1) ≡ x -ℤ pos 1 = omega (arith, ints, clamps, c (x -ℤ pos 1), more) in
      let same : is_between_both r.steps r.last_most r.last_cost x drop_here ≡ is_between r.steps r.last_most r.last_cost r.least x drop_here =
      both_there r.steps r.last_most r.last_cost x drop_here more ∙ ap (λ l. is_between r.steps r.last_most r.last_cost l x drop_here) (sym none) in
      (λ t. to_loose prices r x x e0 e1 e2 (sym same ∙ t), λ l. same ∙ from_loose prices r x x e0 e1 e2 l))
      (λ not_more.
      let z : x ≡ pos 0 = omega (arith, ints, not_less, not_more) in
      let e0 : charged r.both x ≡ x = omega (arith, ints, clamps, c x, z) in
      let e1 : charged r.both (x +ℤ pos 1) ≡ x +ℤ pos 1 = omega (arith, ints, clamps, c (x +ℤ pos 1), z) in
      let e2 : charged r.both (x -ℤ pos 1) ≡ x +ℤ pos 1 = omega (arith, ints, clamps, c (x -ℤ pos 1), z) in
      let same = both_still r.steps r.last_most r.last_cost x drop_here z in
      (λ t. to_loose_still prices r x x z none e0 e1 e2 (sym same ∙ t), λ l. same ∙ from_loose_still prices r x x z e0 e1 e2 l)))

  pub loose_iff : (is_loose r drop_here x ≡ true) ↔ IsLoose prices r x
  loose_iff = go r.both refl
    where
      go : (b : Bool) → r.both ≡ b
          → ((if b then is_between_both r.steps r.last_most r.last_cost x drop_here else is_between r.steps r.last_most r.last_cost r.least x drop_here) ≡ true) ↔ IsLoose prices r x
      go true e = both_ways e
      go false e = one_way e

-- ---- as the code reads numbers

pub back_case : (steps : List Step) (most : Option ℤ) (c x x' d d' : ℤ) (none below b : Bool) → none ≡ int_eq x (pos 0) → below ≡ int_lt x (pos 0) → none ≡ false
    → below ≡ true → x' ≡ neg_ℤ x → d' ≡ neg_ℤ d → b ≡ is_between steps most c (pos 0) x' d' → b ≡ is_between_both steps most c x d
back_case steps most c x x' d d' none below b z l not_zero is_below e f is =
    is ∙ ap (λ y. is_between steps most c (pos 0) y d') e ∙ ap (λ y. is_between steps most c (pos 0) (neg_ℤ x) y) f
    ∙ sym (rw (sym z ∙ not_zero, sym l ∙ is_below) refl)

pub there_case : (steps : List Step) (most : Option ℤ) (c x x' d d' : ℤ) (none below b : Bool) → none ≡ int_eq x (pos 0) → below ≡ int_lt x (pos 0) → none ≡ false
    → below ≡ false → x' ≡ x → d' ≡ d → b ≡ is_between steps most c (pos 0) x' d' → b ≡ is_between_both steps most c x d
there_case steps most c x x' d d' none below b z l not_zero not_below e f is =
    is ∙ ap (λ y. is_between steps most c (pos 0) y d') e ∙ ap (λ y. is_between steps most c (pos 0) x y) f
    ∙ sym (rw (sym z ∙ not_zero, sym l ∙ not_below) refl)

pub still_case : (steps : List Step) (most : Option ℤ) (c x d d' : ℤ) (none b : Bool) → none ≡ int_eq x (pos 0) → none ≡ true → d' ≡ d
    → b ≡ is_still steps most c d' → b ≡ is_between_both steps most c x d
still_case steps most c x d d' none b z is_zero f is =
    is ∙ ap (is_still steps most c) f ∙ sym (rw (sym z ∙ is_zero) refl)

pub both_case : (r : Route) (x x' d d' : ℤ) (b : Bool) → r.both ≡ true → x' ≡ x → d' ≡ d → b ≡ is_between_both r.steps r.last_most r.last_cost x' d'
    → b ≡ is_loose r d x
both_case r x x' d d' b e f g is =
    is ∙ ap (λ y. is_between_both r.steps r.last_most r.last_cost y d') f ∙ ap (λ y. is_between_both r.steps r.last_most r.last_cost x y) g
    ∙ sym (ap (λ t. if t then is_between_both r.steps r.last_most r.last_cost x d else is_between r.steps r.last_most r.last_cost r.least x d) e)
