-- What may stay and be missing, and what routes for it may carry; and the supplies of a planner's
-- model.
use Rattle.std.proofs.Common.{◌≡◌, ℕ, suc, ◌+◌, ◌-◌, ◌≤◌, Bool, true, false, ◌&&◌, List, [], ◌∷◌, length, map, get_or, refl, ap, ◌∙◌, arith, ℤ, pos, ◌≤ℤ◌}
use Rattle.std.specs.Prelude.{Option, Some, None, option_map, int_lt}
use Rattle.std.specs.List.{AllZip}
use Rattle.std.specs.Option.{is_some}
use Rattle.std.proofs.lemmas.Int.{ints, clamps}
use Rattle.std.proofs.lemmas.List.{get_or-map, get_or-append_right, get_or_append_left, length-map}
use Rattle.std.proofs.lemmas.List.Folds.{list_any_at}
use Rattle.std.proofs.Common.{length-append}
use Rattle.mcf_flows.specs.Network.{IsNode, at_node, when}
use Rattle.mcf_model.specs.Model.{Fits, MayCarry, Route}
use Rattle.mcf_model.proofs.FaultTests.{not_below}
use Rattle.mcf_places.specs.declared.places.Bounds.{Bounds}
use Rattle.mcf_places.specs.declared.places.Place.{Place}
use Rattle.mcf_places.specs.Models.{entry_supply, exit_supply, from_exit, gate_of, hub_of, hub_supply, place_at, plain_route, route_if, some_bounds, supplies_of, with_exits}
use Rattle.mcf_places.specs.Planners.{IsAtMost, KeepsBounds, given, wanted}
use Rattle.mcf_places.proofs.MadeRoutes.{IfRoute, NoneElse}

-- ---- routes to the hub and from the gate

-- what stays or is missing may be carried
pub side_carries : (u t : Bool) (tail head : ℕ) (high cost z : ℤ) → pos 0 ≤ℤ z → z ≤ℤ when u high → (t ≡ false → high ≡ pos 0)
    → IfRoute (route_if (u && t) (plain_route tail head (pos 0) (Some high) cost)) (λ r. MayCarry r z)
    × NoneElse (route_if (u && t) (plain_route tail head (pos 0) (Some high) cost)) z
side_carries true true tail head high cost z a b e = (record { enough = a; fits = b }, tt)
side_carries true false tail head high cost z a b e = (tt, omega (arith, ints, a, b, e refl))
side_carries false true tail head high cost z a b e = (tt, omega (arith, ints, a, b))
side_carries false false tail head high cost z a b e = (tt, omega (arith, ints, a, b))

-- what is carried may stay or be missing
pub side_carried : (u t : Bool) (tail head : ℕ) (high cost z : ℤ) → pos 0 ≤ℤ high
    → IfRoute (route_if (u && t) (plain_route tail head (pos 0) (Some high) cost)) (λ r. MayCarry r z)
    → NoneElse (route_if (u && t) (plain_route tail head (pos 0) (Some high) cost)) z → (pos 0 ≤ℤ z) × (z ≤ℤ when u high)
side_carried true true tail head high cost z h i n = (i.enough, i.fits)
side_carried true false tail head high cost z h i n = (omega (arith, ints, n), omega (arith, ints, n, h))
side_carried false true tail head high cost z h i n = (omega (arith, ints, n), omega (arith, ints, n))
side_carried false false tail head high cost z h i n = (omega (arith, ints, n), omega (arith, ints, n))

pub gives_none : (p : Place) → int_lt (pos 0) p.supply ≡ false → given p ≡ pos 0
gives_none p e = omega (arith, ints, clamps, not_below (pos 0) p.supply e)

pub wants_none : (p : Place) → int_lt p.supply (pos 0) ≡ false → wanted p ≡ pos 0
wants_none p e = omega (arith, ints, clamps, not_below p.supply (pos 0) e)

-- ---- routes from entries to exits

at_most : (o : Option ℤ) (z : ℤ) → IsAtMost o z → Fits [] o z
at_most (Some m) z h = h
at_most None z h = tt

from_fits : (o : Option ℤ) (z : ℤ) → Fits [] o z → IsAtMost o z
from_fits (Some m) z h = h
from_fits None z h = tt

module _ (ps : List Place) (j : ℕ) (z : ℤ) where
  abbrev made : Option Bounds → Option Route
  made o = option_map (λ (b : Bounds). plain_route j (length ps + 2 + j) b.least b.most b.cost) o

  pub through_carries : (o : Option Bounds) → KeepsBounds o z → IfRoute (made o) (λ r. MayCarry r z)
  through_carries (Some b) h = record { enough = h.0; fits = at_most b.most z h.1 }
  through_carries None h = tt

  pub through_carried : (o : Option Bounds) → IfRoute (made o) (λ r. MayCarry r z) → KeepsBounds o z
  through_carried (Some b) h = (h.enough, from_fits b.most z h.fits)
  through_carried None h = tt

-- ---- the planner's routes

pub exits_carry : (ps : List Place) (rs : List Route) (xs : List ℤ) → AllZip MayCarry rs xs → AllZip MayCarry (map (from_exit ps) rs) xs
exits_carry ps [] [] h = h
exits_carry ps [] (x ∷ xs) h = h
exits_carry ps (r ∷ rs) [] h = h
exits_carry ps (r ∷ rs) (x ∷ xs) h = (record { enough = (h.0).enough; fits = (h.0).fits }, exits_carry ps rs xs h.1)

pub exits_carried : (ps : List Place) (rs : List Route) (xs : List ℤ) → AllZip MayCarry (map (from_exit ps) rs) xs → AllZip MayCarry rs xs
exits_carried ps [] [] h = h
exits_carried ps [] (x ∷ xs) h = h
exits_carried ps (r ∷ rs) [] h = h
exits_carried ps (r ∷ rs) (x ∷ xs) h = (record { enough = (h.0).enough; fits = (h.0).fits }, exits_carried ps rs xs h.1)

-- ---- supplies

module _ (ps : List Place) where
  abbrev entries : List ℤ
  entries = map (λ p. entry_supply p.through p) ps

  abbrev exits : List ℤ
  exits = map (λ p. exit_supply p.through p) (with_exits (some_bounds ps) ps)

  abbrev no_place : Place
  no_place = record { supply = pos 0; through = None; penalty = None }

  entries_long : length entries ≡ length ps
  entries_long = length-map ps (λ p. entry_supply p.through p)

  pub supplies_long : length (supplies_of ps) ≡ length ps + 2 + length (with_exits (some_bounds ps) ps)
  supplies_long =
      length-append entries (hub_supply ps ∷ pos 0 ∷ exits)
      ∙ omega (arith, entries_long, length-map (with_exits (some_bounds ps) ps) (λ p. exit_supply p.through p))

  pub exits_few : length (with_exits (some_bounds ps) ps) ≤ length ps
  exits_few = go (some_bounds ps)
    where
      go : (b : Bool) → length (with_exits b ps) ≤ length ps
      go true = omega arith
      go false = omega arith

  -- a place with bounds has an exit
  pub has_exit : (w : ℕ) → IsNode (length ps) w → is_some (place_at ps w).through ≡ true → length (with_exits (some_bounds ps) ps) ≡ length ps
  has_exit w n e = ap (λ b. length (with_exits b ps)) (list_any_at (λ p. is_some p.through) ps (w - 1) no_place (omega (arith, n)) e)

  pub supply_of_entry : (w : ℕ) → IsNode (length ps) w → at_node (supplies_of ps) w ≡ entry_supply (place_at ps w).through (place_at ps w)
  supply_of_entry w n =
      get_or_append_left entries (hub_supply ps ∷ pos 0 ∷ exits) (pos 0) (w - 1) (omega (arith, n, entries_long))
      ∙ get_or-map (λ p. entry_supply p.through p) ps (w - 1) no_place (pos 0) (omega (arith, n))

  pub supply_of_hub : at_node (supplies_of ps) (hub_of ps) ≡ hub_supply ps
  supply_of_hub =
      let e : hub_of ps - 1 - length ps ≡ 0 = omega arith in
      get_or-append_right entries (hub_supply ps ∷ pos 0 ∷ exits) (length ps) (hub_of ps - 1) (pos 0) entries_long (omega arith)
      ∙ ap (λ k. get_or (hub_supply ps ∷ pos 0 ∷ exits) k (pos 0)) e

  pub supply_of_gate : at_node (supplies_of ps) (gate_of ps) ≡ pos 0
  supply_of_gate =
      let e : gate_of ps - 1 - length ps ≡ 1 = omega arith in
      get_or-append_right entries (hub_supply ps ∷ pos 0 ∷ exits) (length ps) (gate_of ps - 1) (pos 0) entries_long (omega arith)
      ∙ ap (λ k. get_or (hub_supply ps ∷ pos 0 ∷ exits) k (pos 0)) e

  pub supply_of_exit : (w : ℕ) → 1 ≤ w → w ≤ length (with_exits (some_bounds ps) ps)
      → at_node (supplies_of ps) (length ps + 2 + w) ≡ exit_supply (place_at ps w).through (place_at ps w)
  supply_of_exit w a b =
      let e : length ps + 2 + w - 1 - length ps ≡ suc (suc (w - 1)) = omega (arith, a) in
      get_or-append_right entries (hub_supply ps ∷ pos 0 ∷ exits) (length ps) (length ps + 2 + w - 1) (pos 0) entries_long (omega (arith, a))
      ∙ ap (λ k. get_or (hub_supply ps ∷ pos 0 ∷ exits) k (pos 0)) e
      ∙ go (some_bounds ps) b
    where
      go : (c : Bool) → w ≤ length (with_exits c ps)
          → get_or (map (λ p. exit_supply p.through p) (with_exits c ps)) (w - 1) (pos 0) ≡ exit_supply (place_at ps w).through (place_at ps w)
      go true h = get_or-map (λ p. exit_supply p.through p) ps (w - 1) no_place (pos 0) (omega (arith, a, h))
      go false h = absurd (omega (arith, a, h))
