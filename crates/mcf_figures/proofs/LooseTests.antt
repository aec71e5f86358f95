-- The test of a loose route says which routes are loose.
use Rattle.std.proofs.Common.{◌≡◌, Bool, true, false, List, refl, arith, ℤ, pos, ◌+ℤ◌, ◌-ℤ◌}
use Rattle.std.specs.Prelude.{Option, Some, None, ◌&&◌, int_le}
use Rattle.std.specs.Ordering.{int_eq}
use Rattle.std.proofs.lemmas.Int.{ints}
use Rattle.mcf_flows.proofs.IntLaws.{at_most, at_most_passes}
use Rattle.mcf_model.specs.declared.rows.Step.{Step}
use Rattle.mcf_model.specs.Model.{Fits, MayCarry, Route, charged, room}
use Rattle.mcf_model.specs.Prices.{reduced_route_cost}
use Rattle.mcf_figures.specs.Figures.{IsLoose, costs_the_same, fits, is_loose, may_carry}

both : (a b : Bool) → (a && b) ≡ true → (a ≡ true) × (b ≡ true)
both true true e = (refl, refl)
both true false e = cc e
both false b e = cc e

from_both : (a b : Bool) → a ≡ true → b ≡ true → (a && b) ≡ true
from_both a b e f = rw (e, f) refl

equal : (x y : ℤ) → int_eq x y ≡ true → x ≡ y
equal x y h = grind (arith, ints)

is_equal : (x y : ℤ) → x ≡ y → int_eq x y ≡ true
is_equal x y h = grind (arith, ints)

pub fits_passes : (steps : List Step) (most : Option ℤ) (x : ℤ) → Fits steps most x → fits steps most x ≡ true
fits_passes steps (Some m) x h = at_most_passes x (room steps m) h
fits_passes steps None x h = refl

pub it_fits : (steps : List Step) (most : Option ℤ) (x : ℤ) → fits steps most x ≡ true → Fits steps most x
it_fits steps (Some m) x e = at_most x (room steps m) e
it_fits steps None x e = tt

may_passes : (r : Route) (x : ℤ) → MayCarry r x → may_carry r x ≡ true
may_passes r x m =
    from_both (int_le r.least (charged r.both x)) (fits r.steps r.last_most (charged r.both x)) (at_most_passes r.least (charged r.both x) m.enough)
    (fits_passes r.steps r.last_most (charged r.both x) m.fits)

it_may : (r : Route) (x : ℤ) → may_carry r x ≡ true → MayCarry r x
it_may r x e =
    let b = both (int_le r.least (charged r.both x)) (fits r.steps r.last_most (charged r.both x)) e in
    record { enough = at_most r.least (charged r.both x) b.0; fits = it_fits r.steps r.last_most (charged r.both x) b.1 }

module _ (prices : List ℤ) (r : Route) (x : ℤ) where
  abbrev may_both : Bool
  may_both = may_carry r (x +ℤ pos 1) && may_carry r (x -ℤ pos 1)

  abbrev same_both : Bool
  same_both = costs_the_same prices r (x +ℤ pos 1) x && costs_the_same prices r (x -ℤ pos 1) x

  pub loose_passes : IsLoose prices r x → is_loose prices r x ≡ true
  loose_passes loose =
      from_both may_both same_both
      (from_both (may_carry r (x +ℤ pos 1)) (may_carry r (x -ℤ pos 1)) (may_passes r (x +ℤ pos 1) loose.may_more) (may_passes r (x -ℤ pos 1) loose.may_less))
      (from_both (costs_the_same prices r (x +ℤ pos 1) x) (costs_the_same prices r (x -ℤ pos 1) x)
      (is_equal (reduced_route_cost prices r (x +ℤ pos 1)) (reduced_route_cost prices r x) loose.more_is)
      (is_equal (reduced_route_cost prices r (x -ℤ pos 1)) (reduced_route_cost prices r x) loose.less_is))

  pub it_is_loose : is_loose prices r x ≡ true → IsLoose prices r x
  it_is_loose e =
      let b = both may_both same_both e in
      let may = both (may_carry r (x +ℤ pos 1)) (may_carry r (x -ℤ pos 1)) b.0 in
      let same = both (costs_the_same prices r (x +ℤ pos 1) x) (costs_the_same prices r (x -ℤ pos 1) x) b.1 in
      record {
        may_more = it_may r (x +ℤ pos 1) may.0;
        may_less = it_may r (x -ℤ pos 1) may.1;
        more_is = equal (reduced_route_cost prices r (x +ℤ pos 1)) (reduced_route_cost prices r x) same.0;
        less_is = equal (reduced_route_cost prices r (x -ℤ pos 1)) (reduced_route_cost prices r x) same.1;
      }

  pub tight_fails : ¬ IsLoose prices r x → is_loose prices r x ≡ false
  tight_fails tight = go (is_loose prices r x) refl
    where
      go : (b : Bool) → is_loose prices r x ≡ b → is_loose prices r x ≡ false
      go true e = absurd (tight (it_is_loose e))
      go false e = e
