-- The amounts of least reduced cost of a route one way are those of its span.
use Rattle.std.proofs.Common.{◌≡◌, ℕ, Bool, false, List, [], ◌∷◌, refl, ap, sym, subst, arith, ℤ, pos, ◌+ℤ◌, ◌-ℤ◌, ◌≤ℤ◌, ◌<ℤ◌, if◌then◌else◌, int_lt}
use Rattle.std.specs.Prelude.{Option, Some, None, option_map, int_le}
use Rattle.std.specs.Int.{int_max}
use Rattle.std.proofs.Math.IntN.{◌*ℤ◌}
use Rattle.std.proofs.lemmas.Int.{ints, clamps, by_lt_z}
use Rattle.mcf_flows.specs.Network.{at_node}
use Rattle.mcf_model.specs.declared.rows.Step.{Step}
use Rattle.mcf_model.specs.Faults.{first_cost}
use Rattle.mcf_model.specs.Model.{Adds, CostAtLeast, Fits, IsLimited, Rises, Route, charge}
use Rattle.mcf_model.specs.Prices.{IsBestAt}
use Rattle.mcf_unit_ranges.specs.Spans.{room_below, room_up_to}
use Rattle.mcf_unit_ranges.proofs.CheapRooms.{IsAtMost, past_from, past_to, up_fits, up_from, up_to}
use Rattle.mcf_unit_ranges.proofs.UnitCosts.{at_least, fits_less, from_first, is_below, is_not_below, is_not_up_to, is_up_to, no_less_above, no_less_below, unit_cost, unit_less, unit_more}

pub at_most_last : (k : ℤ) (steps : List Step) (c : ℤ) → CostAtLeast k steps c → k ≤ℤ c
at_most_last k [] c h = h
at_most_last k (s ∷ steps) c h = at_most_last k steps c h.1

-- no unit costs more than one of the last step
unit_most : (steps : List Step) (c x : ℤ) → Rises steps c → unit_cost steps c x ≤ℤ c
unit_most [] c x h = omega (arith, ints)
unit_most (s ∷ steps) c x h =
    by_lt_z x s.most
    (λ less. rw (is_below x s.most less) (at_most_last s.cost steps c h.0))
    (λ more. rw (is_not_below x s.most more) (unit_most steps c (x -ℤ s.most) h.1))

-- ---- limits

at_most_least : (least x : ℤ) (o : Option ℤ) → x ≤ℤ least → IsAtMost x (option_map (λ y. int_max least y) o)
at_most_least least x (Some y) h = omega (arith, ints, clamps, h)
at_most_least least x None h = tt

at_most_either : (least x : ℤ) (o : Option ℤ) → IsAtMost x o → IsAtMost x (option_map (λ y. int_max least y) o)
at_most_either least x (Some y) h = omega (arith, ints, clamps, h)
at_most_either least x None h = tt

at_most_other : (least x : ℤ) (o : Option ℤ) → least <ℤ x → IsAtMost x (option_map (λ y. int_max least y) o) → IsAtMost x o
at_most_other least x (Some y) above h = omega (arith, ints, clamps, h, above)
at_most_other least x None above h = tt

-- ---- a route one way

module _ (prices : List ℤ) (tail head : ℕ) (least : ℤ) (steps : List Step) (most : Option ℤ) (c : ℤ) where
  -- the route, one way or both ways
  abbrev pub made : Bool → Route
  made both = record { tail = tail; head = head; least = least; steps = steps; last_most = most; last_cost = c; both = both }

  abbrev pub drop : ℤ
  drop = at_node prices tail -ℤ at_node prices head

  abbrev pub low : ℤ
  low = if int_lt (first_cost steps c) drop then int_max least (room_below drop steps c most) else least

  abbrev pub high : Option ℤ
  high = if int_le (first_cost steps c) drop then option_map (λ x. int_max least x) (room_up_to drop steps c most) else Some least

  module _ (rises : Rises steps c) (adds : Adds steps most) where
    -- the amounts next to one of least reduced cost
    next_up : (x : ℤ) → IsBestAt prices (made false) x → Fits steps most (x +ℤ pos 1) → drop ≤ℤ unit_cost steps c x
    next_up x best fits =
        let enough = best.may_carry.enough in
        let le = best.best (x +ℤ pos 1) (record { enough = omega (arith, ints, enough); fits = fits }) in
        omega (arith, ints, le, unit_more steps c drop x rises)

    next_down : (x : ℤ) → IsBestAt prices (made false) x → least <ℤ x → unit_cost steps c (x -ℤ pos 1) ≤ℤ drop
    next_down x best above =
        let le = best.best (x -ℤ pos 1) (record {
          enough = omega (arith, ints, above);
          fits = fits_less steps most x (x -ℤ pos 1) best.may_carry.fits (omega (arith, ints));
        }) in
        omega (arith, ints, le, unit_less steps c drop x rises)

    -- a route whose last units cost less than the drop has a limit
    pub limited : (x : ℤ) → IsBestAt prices (made false) x → c <ℤ drop → IsLimited most
    limited x best less = go most refl
      where
        go : (o : Option ℤ) → most ≡ o → IsLimited o
        go (Some m) e = tt
        go None e =
            let up = next_up x best (subst (λ o. Fits steps o (x +ℤ pos 1)) (sym e) tt) in
            absurd (omega (arith, ints, up, unit_most steps c x rises, less))

    pub to_low : (x : ℤ) → IsBestAt prices (made false) x → low ≤ℤ x
    to_low x best =
        let enough = best.may_carry.enough in
        by_lt_z (first_cost steps c) drop
        (λ less.
        let past = past_from drop c most steps x adds (limited x best) less (next_up x best) in
        rw (is_below (first_cost steps c) drop less) (omega (arith, ints, clamps, enough, past)))
        (λ more. rw (is_not_below (first_cost steps c) drop more) enough)

    pub to_high : (x : ℤ) → IsBestAt prices (made false) x → IsAtMost x high
    to_high x best =
        by_lt_z drop (first_cost steps c)
        (λ dear. rw (is_not_up_to (first_cost steps c) drop dear) (by_lt_z least x
        (λ above. let down = next_down x best above in
        let up = at_least (first_cost steps c) steps c (x -ℤ pos 1) (from_first (first_cost steps c) steps c rises (omega (arith, ints))) in
        absurd (omega (arith, ints, down, up, dear)))
        (λ no_more. no_more)))
        (λ cheap. rw (is_up_to (first_cost steps c) drop cheap) (by_lt_z least x
        (λ above. at_most_either least x (room_up_to drop steps c most)
        (up_from drop c most steps x rises adds cheap best.may_carry.fits (next_down x best above)))
        (λ no_more. at_most_least least x (room_up_to drop steps c most) no_more)))

    -- what an amount of the span keeps
    module _ (x : ℤ) (from_low : low ≤ℤ x) (from_high : IsAtMost x high) (lim : c <ℤ drop → IsLimited most) (fits_least : Fits steps most least) where
      enough : least ≤ℤ x
      enough =
          by_lt_z (first_cost steps c) drop
          (λ less. let h : int_max least (room_below drop steps c most) ≤ℤ x = rw (is_below (first_cost steps c) drop less) at from_low in
          omega (arith, ints, clamps, h))
          (λ more. rw (is_not_below (first_cost steps c) drop more) at from_low)

      -- above the least amount, the first unit is cheap enough, and there is room
      room_there : least <ℤ x → (first_cost steps c ≤ℤ drop) × IsAtMost x (room_up_to drop steps c most)
      room_there above =
          by_lt_z drop (first_cost steps c)
          (λ dear. let h : x ≤ℤ least = rw (is_not_up_to (first_cost steps c) drop dear) at from_high in absurd (omega (arith, ints, h, above)))
          (λ cheap. let h : IsAtMost x (option_map (λ y. int_max least y) (room_up_to drop steps c most)) = rw (is_up_to (first_cost steps c) drop cheap) at from_high in
          (cheap, at_most_other least x (room_up_to drop steps c most) above h))

      fits_here : Fits steps most x
      fits_here =
          by_lt_z least x
          (λ above. let r = room_there above in up_fits drop c most steps x adds r.0 r.1)
          (λ no_more. fits_less steps most least x fits_least no_more)

      worth_next : Fits steps most (x +ℤ pos 1) → drop ≤ℤ unit_cost steps c x
      worth_next fits =
          by_lt_z (first_cost steps c) drop
          (λ less. let h : int_max least (room_below drop steps c most) ≤ℤ x = rw (is_below (first_cost steps c) drop less) at from_low in
          past_to drop c most steps x rises adds lim less (omega (arith, ints, clamps, h)) fits)
          (λ more. at_least drop steps c x (from_first drop steps c rises more))

      pub from_span : IsBestAt prices (made false) x
      from_span =
          record {
            may_carry = record { enough = enough; fits = fits_here };
            best = λ y may. by_lt_z x y
                (λ less. no_less_above steps c drop x rises y (worth_next (fits_less steps most y (x +ℤ pos 1) may.fits (omega (arith, ints, less)))) (omega (arith, ints, less)))
                (λ more. by_lt_z y x
                (λ below. let least_y = may.enough in
                let r = room_there (omega (arith, ints, below, least_y)) in
                no_less_below steps c drop x rises y (up_to drop c most steps x r.0 r.1) more)
                (λ same. let e : y ≡ x = omega (arith, ints, same, more) in
                omega (arith, ints, ap (λ w. charge steps c w -ℤ drop *ℤ w) e)));
          }
