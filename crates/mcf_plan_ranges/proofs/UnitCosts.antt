-- The cost of one unit more, as a loop over the steps finds it.
use Rattle.std.proofs.Common.{◌≡◌, ℕ, suc, ◌+◌, ◌<◌, ◌≤◌, Bool, true, false, List, [], ◌∷◌, length, drop, drop-cons, get_or, ap, sym, ◌∙◌, refl, arith, add-one, ℤ, pos, neg_ℤ, ◌+ℤ◌, ◌-ℤ◌, ◌≤ℤ◌, ◌<ℤ◌, if◌then◌else◌, int_lt, Option, Some, None}
use lib.Signed.{le_z}
use Rattle.std.proofs.lemmas.Int.{ints, clamps}
use Rattle.std.proofs.lemmas.List.{drop_all}
use Rattle.mcf_model.specs.declared.rows.Step.{Step}
use Rattle.mcf_model.specs.Model.{Route, charge, charged, route_cost}
use Rattle.mcf_plan_ranges.proofs.Convex.{charge_past, charge_within, one_more}
use Rattle.mcf_plan_ranges.proofs.Dearer.{below, not_below}

-- the cost of one unit more than x
abbrev pub unit : List Step → ℤ → ℤ → ℤ
unit steps c x = charge steps c (x +ℤ pos 1) -ℤ charge steps c x

unit_within : (s : Step) (steps : List Step) (c x : ℤ) → x <ℤ s.most → unit (s ∷ steps) c x ≡ s.cost
unit_within s steps c x h =
    let a = charge_within s steps c x (omega (arith, ints, h)) in
    let b = charge_within s steps c (x +ℤ pos 1) (omega (arith, ints, h)) in
    omega (arith, ints, a, b, one_more s.cost x)

unit_past : (s : Step) (steps : List Step) (c x : ℤ) → s.most ≤ℤ x → unit (s ∷ steps) c x ≡ unit steps c (x -ℤ s.most)
unit_past s steps c x h =
    let a = charge_past s steps c x (omega (arith, ints, h)) in
    let b = charge_past s steps c (x +ℤ pos 1) (omega (arith, ints, h)) in
    let e = ap (charge steps c) (let same : (x +ℤ pos 1) -ℤ s.most ≡ (x -ℤ s.most) +ℤ pos 1 = omega (arith, ints) in same) in
    omega (arith, ints, a, b, e)

module _ (steps : List Step) (i : ℕ) (d : Step) (c c' x y y' : ℤ) (same_c : c' ≡ c) (same_y : y' ≡ y)
    (before : unit (drop i steps) c' x ≡ unit steps c' y') where
  total : unit (drop i steps) c' x ≡ unit steps c y
  total = before ∙ ap (λ k. unit steps k y') same_c ∙ ap (unit steps c) same_y

  module _ (o : Option ℤ) (h : i < length steps) (is : o ≡ (if int_lt x (get_or steps i d).most then None else Some (x -ℤ (get_or steps i d).most))) where
    at : unit (get_or steps i d ∷ drop (suc i) steps) c' x ≡ unit (drop i steps) c' x
    at = sym (ap (λ ss. unit ss c' x) (drop-cons steps i d h))

    -- the unit is of this step
    pub found_here : o ≡ None → (get_or steps i d).cost ≡ unit steps c y
    found_here none = go (int_lt x (get_or steps i d).most) refl
      where
        go : (b : Bool) → int_lt x (get_or steps i d).most ≡ b → (get_or steps i d).cost ≡ unit steps c y
        go true e = sym (unit_within (get_or steps i d) (drop (suc i) steps) c' x (below x (get_or steps i d).most e)) ∙ at ∙ total
        go false e = cc (sym none ∙ is ∙ ap (λ b. if b then None else Some (x -ℤ (get_or steps i d).most)) e)

    -- or of a later one
    pub found_later : (left : ℤ) → o ≡ Some left → unit (drop (i + 1) steps) c' left ≡ unit steps c' y'
    found_later left some = go (int_lt x (get_or steps i d).most) refl
      where
        go : (b : Bool) → int_lt x (get_or steps i d).most ≡ b → unit (drop (i + 1) steps) c' left ≡ unit steps c' y'
        go true e = cc (sym some ∙ is ∙ ap (λ b. if b then None else Some (x -ℤ (get_or steps i d).most)) e)
        go false e =
            let f : Some left ≡ Some (x -ℤ (get_or steps i d).most) =
            sym some ∙ is ∙ ap (λ b. if b then None else Some (x -ℤ (get_or steps i d).most)) e in
            let l : left ≡ x -ℤ (get_or steps i d).most = cc f in
            rw add-one (ap (unit (drop (suc i) steps) c') l
            ∙ sym (unit_past (get_or steps i d) (drop (suc i) steps) c' x (not_below x (get_or steps i d).most e)) ∙ at ∙ before)

  -- or of the last
  pub found_last : length steps ≤ i → c ≡ unit steps c y
  found_last h =
      let none : unit (drop i steps) c' x ≡ unit [] c' x = ap (λ ss. unit ss c' x) (drop_all i steps h) in
      omega (arith, ints, none, total, same_c, one_more c' x)

pub saved_is : (steps : List Step) (c a b u : ℤ) → b ≡ a -ℤ pos 1 → u ≡ unit steps c b → pos 0 -ℤ u ≡ charge steps c (a -ℤ pos 1) -ℤ charge steps c a
saved_is steps c a b u e is =
    let back : b +ℤ pos 1 ≡ a = omega (arith, ints, e) in
    omega (arith, ints, is, ap (charge steps c) back, ap (charge steps c) e)

-- a test that holds
pub from_le : (x y : ℤ) → le_z x y ≡ true → x ≤ℤ y
from_le x y h = grind (arith, ints)

-- one unit less on a route both ways, where nothing goes there
pub less_is : (r : Route) (a s u : ℤ) → r.both ≡ true → a ≤ℤ pos 0 → s ≡ neg_ℤ a → u ≡ unit r.steps r.last_cost s
    → u ≡ route_cost r (a -ℤ pos 1) -ℤ route_cost r a
less_is r a s u both h e is =
    let here : charged r.both a ≡ s = ap (λ b. charged b a) both ∙ omega (arith, ints, clamps, h, e) in
    let next : charged r.both (a -ℤ pos 1) ≡ s +ℤ pos 1 = ap (λ b. charged b (a -ℤ pos 1)) both ∙ omega (arith, ints, clamps, h, e) in
    omega (arith, ints, is, ap (charge r.steps r.last_cost) here, ap (charge r.steps r.last_cost) next)
