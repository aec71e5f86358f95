-- Sets that cut a problem's model, told as sets of the problem's places.
use Rattle.std.proofs.Common.{◌≡◌, ℕ, suc, ◌+◌, ◌<◌, ◌≤◌, Bool, true, false, ◌&&◌, List, [], ◌∷◌, IsTrue, length, refl, ap, sym, ◌∙◌, subst, arith, ℤ, pos, ◌+ℤ◌, ◌≤ℤ◌}
use Rattle.std.specs.Prelude.{◌||◌, Option, Some, None, not, option_map, int_lt}
use Rattle.std.specs.List.{All}
use Rattle.std.specs.Option.{is_some}
use Rattle.std.proofs.lemmas.Int.{ints, clamps}
use Rattle.mcf_flows.specs.Network.{IsNode, when}
use Rattle.mcf_model.specs.Bottlenecks.{IsLimitedAcross, into, least_across, limit_or_zero, most_across, out_of, route_room, route_sum}
use Rattle.mcf_model.specs.Model.{IsSoundRoute, Route}
use Rattle.mcf_model.proofs.FaultTests.{or_false}
use Rattle.mcf_places.specs.declared.places.Bounds.{Bounds}
use Rattle.mcf_places.specs.declared.places.Place.{Place}
use Rattle.mcf_places.specs.Models.{exit_by, exit_of, from_exit, gate_of, hub_of, model_of, place_at, plain_route, route_if}
use Rattle.mcf_places.specs.PlannerBottlenecks.{PlaceSet, leads_in, leads_out, passes_in, passes_out, through_least, through_most}
use Rattle.mcf_places.specs.PlannerLaws.{IsSound, ReturnsFreely, has_bounds}
use Rattle.mcf_places.specs.Planners.{Planner, given, missing_cost, place_sum, wanted}
use Rattle.mcf_places.proofs.Ends.{M, S, T}
use Rattle.mcf_places.proofs.MadeRoutes.{term_if}
use Rattle.mcf_places.proofs.PlaceCuts.{route_sum-same, when-none, whole_routes}
use Rattle.mcf_places.proofs.PlaceSums.{each_all, each_from, place_sum-same, place_sum-zero}
use Rattle.mcf_places.proofs.Sides.{gives_none, wants_none}

-- ---- tests

pub and_true : (b : Bool) → (b && true) ≡ b
and_true true = refl
and_true false = refl

guarded : (b x y : Bool) → (b ≡ true → x ≡ y) → (b && x) ≡ (b && y)
guarded true x y h = h refl
guarded false x y h = refl

freely : (b t h : Bool) → (b && (t || h)) ≡ false → b ≡ true → (t ≡ false) × (h ≡ false)
freely true t h e k = or_false t h e
freely false t h e k = cc k

plain_exit : (n v : ℕ) (o : Option Bounds) → is_some o ≡ false → exit_by n v o ≡ v
plain_exit n v (Some b) e = cc e
plain_exit n v None e = refl

-- a test of places agrees with one of the model's places, there and back
pub record Agrees (places : List Place) (d c : ℕ → ℕ → Bool) (r : Route) : Type 0 where
  pub forth : d r.tail r.head ≡ c (exit_of places r.tail) r.head
  pub back : r.both ≡ true → d r.head r.tail ≡ c r.head (exit_of places r.tail)

module _ (places : List Place) (d c : ℕ → ℕ → Bool) (r : Route) (h : Agrees places d c r) where
  pub own_most : most_across c (from_exit places r) ≡ most_across d r
  own_most =
      omega (
        arith,
        ints,
        ap (λ b. when b (route_room r)) h.forth,
        ap (λ b. when b (route_room r)) (guarded r.both (d r.head r.tail) (c r.head (exit_of places r.tail)) h.back),
      )

  pub own_least : least_across c (from_exit places r) ≡ least_across d r
  own_least = ap (λ b. when b r.least) (sym h.forth)

  crossing_same : (c (exit_of places r.tail) r.head || (r.both && c r.head (exit_of places r.tail))) ≡ (d r.tail r.head || (r.both && d r.head r.tail))
  crossing_same =
      ap (λ b. b || (r.both && c r.head (exit_of places r.tail))) (sym h.forth)
      ∙ ap (λ b. d r.tail r.head || b) (sym (guarded r.both (d r.head r.tail) (c r.head (exit_of places r.tail)) h.back))

  pub own_limited : IsLimitedAcross c (from_exit places r) → IsLimitedAcross d r
  own_limited f k = f (subst IsTrue (sym crossing_same) k)

  pub own_limited_back : IsLimitedAcross d r → IsLimitedAcross c (from_exit places r)
  own_limited_back f k = f (subst IsTrue crossing_same k)

-- ---- a set of the model's places, and the same set of places

pub record IsTold (P : Planner) (set : ℕ → Bool) (s : PlaceSet) : Type 0 where
  pub hub : set (hub_of P.places) ≡ false
  pub entries : (v : ℕ) → IsNode (length P.places) v → s.entries v ≡ set v
  pub exits : (v : ℕ) → IsNode (length P.places) v → s.exits v ≡ set (exit_of P.places v)

module _ (P : Planner) (sound : IsSound P) (set : ℕ → Bool) (s : PlaceSet) (told : IsTold P set s) where
  abbrev n : ℕ
  n = length P.places

  -- where a route is used both ways, its ends have no bounds
  module _ (r : Route) (is : IsSoundRoute n r) (free : ReturnsFreely P.places r) (b : r.both ≡ true) where
    head_exit : s.exits r.head ≡ set r.head
    head_exit =
        told.exits r.head is.head_is_place
        ∙ ap set (plain_exit n r.head (place_at P.places r.head).through (freely r.both (has_bounds P.places r.tail) (has_bounds P.places r.head) free b).1)

    tail_entry : s.entries r.tail ≡ set (exit_of P.places r.tail)
    tail_entry =
        told.entries r.tail is.tail_is_place
        ∙ ap set (sym (plain_exit n r.tail (place_at P.places r.tail).through (freely r.both (has_bounds P.places r.tail) (has_bounds P.places r.head) free b).0))

  abbrev pub IsOwn : Route → Type 0
  IsOwn r = IsSoundRoute n r × ReturnsFreely P.places r

  pub agrees_out : (r : Route) → IsOwn r → Agrees P.places (leads_out s) (out_of set) r
  agrees_out r k =
      record {
        forth = ap (λ b. b && not (s.entries r.head)) (told.exits r.tail k.0.tail_is_place)
            ∙ ap (λ b. set (exit_of P.places r.tail) && not b) (told.entries r.head k.0.head_is_place);
        back = λ b. ap (λ z. z && not (s.entries r.tail)) (head_exit r k.0 k.1 b) ∙ ap (λ z. set r.head && not z) (tail_entry r k.0 k.1 b);
      }

  pub agrees_in : (r : Route) → IsOwn r → Agrees P.places (leads_in s) (into set) r
  agrees_in r k =
      record {
        forth = ap (λ b. s.entries r.head && not b) (told.exits r.tail k.0.tail_is_place)
            ∙ ap (λ b. b && not (set (exit_of P.places r.tail))) (told.entries r.head k.0.head_is_place);
        back = λ b. ap (λ z. s.entries r.tail && not z) (head_exit r k.0 k.1 b) ∙ ap (λ z. z && not (set r.head)) (tail_entry r k.0 k.1 b);
      }

  pub all_own : All IsOwn P.routes
  all_own k x l = (sound.routes k x l, sound.return_freely k x l)

-- ---- the routes that are made for places

-- through a place
module _ (n j : ℕ) (b : Bool) (c : ℕ → ℕ → Bool) where
  abbrev made : Option Bounds → Option Route
  made o = option_map (λ (b : Bounds). plain_route j (n + 2 + j) b.least b.most b.cost) o

  pub through_most_is : (o : Option Bounds) → (is_some o ≡ true → c j (n + 2 + j) ≡ b) → term_if (made o) (most_across c) ≡ when b (through_most o)
  through_most_is (Some w) f = omega (arith, ints, ap (λ z. when z (limit_or_zero w.most)) (f refl))
  through_most_is None f = sym (when-none b)

  pub through_least_is : (o : Option Bounds) → (is_some o ≡ true → c j (n + 2 + j) ≡ b) → term_if (made o) (least_across c) ≡ when b (through_least o)
  through_least_is (Some w) f = ap (λ z. when z w.least) (f refl)
  through_least_is None f = sym (when-none b)

-- to the hub, and from the gate
module _ (tail head : ℕ) (high cost : ℤ) (c : ℕ → ℕ → Bool) where
  abbrev side : Bool → Bool → Option Route
  side u t = route_if (u && t) (plain_route tail head (pos 0) (Some high) cost)

  pub side_most : (u t e : Bool) → c tail head ≡ e → (t ≡ false → high ≡ pos 0) → term_if (side u t) (most_across c) ≡ when u (when e high)
  side_most true true e is none = omega (arith, ints, ap (λ b. when b high) is)
  side_most true false e is none = sym (ap (when e) (none refl) ∙ when-none e)
  side_most false t e is none = refl

  pub side_least : (u t : Bool) → term_if (side u t) (least_across c) ≡ pos 0
  side_least true true = when-none (c tail head)
  side_least true false = refl
  side_least false t = refl

  pub side_some : (u t : Bool) → pos 0 ≤ℤ high → pos 0 ≤ℤ term_if (side u t) (most_across c)
  side_some true true h = go (c tail head)
    where
      go : (b : Bool) → pos 0 ≤ℤ (when b high +ℤ pos 0)
      go true = omega (arith, ints, h)
      go false = omega (arith, ints)
  side_some true false h = omega (arith, ints)
  side_some false t h = omega (arith, ints)

-- ---- sums

pub when_sum : (b : Bool) (t : ℕ → Place → ℤ) (v : ℕ) (ps : List Place) → place_sum (λ j p. when b (t j p)) v ps ≡ when b (place_sum t v ps)
when_sum true t v ps = refl
when_sum false t v ps = place_sum-zero (λ j p. pos 0) v ps (each_all (λ j p. pos 0 ≡ pos 0) v ps (λ j p a b. refl))

module _ (P : Planner) (sound : IsSound P) (set : ℕ → Bool) (s : PlaceSet) (told : IsTold P set s) where
  abbrev no_place : Place
  no_place = record { supply = pos 0; through = None; penalty = None }

  abbrev node_of : (w : ℕ) → 1 ≤ w → w < 1 + length P.places → IsNode (length P.places) w
  node_of w a b = (a, omega (arith, b))

  exit_at : (w : ℕ) → IsNode (length P.places) w → is_some (place_at P.places w).through ≡ true → s.exits w ≡ set (length P.places + 2 + w)
  exit_at w k some = told.exits w k ∙ ap set (go (place_at P.places w).through some)
    where
      go : (o : Option Bounds) → is_some o ≡ true → exit_by (length P.places) w o ≡ length P.places + 2 + w
      go (Some b) e = refl
      go None e = cc e

  -- what passes through places
  pub out_through : (w : ℕ) → IsNode (length P.places) w → is_some (place_at P.places w).through ≡ true
      → out_of set w (length P.places + 2 + w) ≡ passes_out s w
  out_through w k some =
      ap (λ b. b && not (set (length P.places + 2 + w))) (sym (told.entries w k)) ∙ ap (λ b. s.entries w && not b) (sym (exit_at w k some))

  pub in_through : (w : ℕ) → IsNode (length P.places) w → is_some (place_at P.places w).through ≡ true
      → into set w (length P.places + 2 + w) ≡ passes_in s w
  in_through w k some =
      ap (λ b. b && not (set w)) (sym (exit_at w k some)) ∙ ap (λ b. s.exits w && not b) (sym (told.entries w k))

  module _ (c : ℕ → ℕ → Bool) (b : ℕ → Bool)
      (is : (w : ℕ) → IsNode (length P.places) w → is_some (place_at P.places w).through ≡ true → c w (length P.places + 2 + w) ≡ b w) where
    pub throughs_most : place_sum (λ j p. term_if (T P j p) (most_across c)) 1 P.places ≡ place_sum (λ j p. when (b j) (through_most p.through)) 1 P.places
    throughs_most =
        place_sum-same (λ j p. term_if (T P j p) (most_across c)) (λ j p. when (b j) (through_most p.through)) 1 P.places
        (each_from (λ j p. term_if (T P j p) (most_across c) ≡ when (b j) (through_most p.through)) 1 P.places no_place
        (λ w x y. through_most_is (length P.places) w (b w) c (place_at P.places w).through (is w (node_of w x y))))

    pub throughs_least : place_sum (λ j p. term_if (T P j p) (least_across c)) 1 P.places ≡ place_sum (λ j p. when (b j) (through_least p.through)) 1 P.places
    throughs_least =
        place_sum-same (λ j p. term_if (T P j p) (least_across c)) (λ j p. when (b j) (through_least p.through)) 1 P.places
        (each_from (λ j p. term_if (T P j p) (least_across c) ≡ when (b j) (through_least p.through)) 1 P.places no_place
        (λ w x y. through_least_is (length P.places) w (b w) c (place_at P.places w).through (is w (node_of w x y))))

  -- nothing has to stay or to be missing
  sides_least : (c : ℕ → ℕ → Bool) → (place_sum (λ j p. term_if (S P j p) (least_across c)) 1 P.places ≡ pos 0)
      × (place_sum (λ j p. term_if (M P j p) (least_across c)) 1 P.places ≡ pos 0)
  sides_least c = (
    place_sum-zero (λ j p. term_if (S P j p) (least_across c)) 1 P.places
        (each_all (λ j p. term_if (S P j p) (least_across c) ≡ pos 0) 1 P.places
        (λ j p a b. side_least j (hub_of P.places) (given p) (pos 0) c P.policy.unused (int_lt (pos 0) p.supply))),
    place_sum-zero (λ j p. term_if (M P j p) (least_across c)) 1 P.places
        (each_all (λ j p. term_if (M P j p) (least_across c) ≡ pos 0) 1 P.places
        (λ j p a b. side_least (gate_of P.places) (exit_by (length P.places) j p.through) (wanted p) (missing_cost P.policy p) c P.policy.short (int_lt p.supply (pos 0)))),
  )

  -- the least that crosses
  pub least_of : (d c : ℕ → ℕ → Bool) (b : ℕ → Bool) (most : ℤ) → ((r : Route) → IsOwn P sound set s told r → Agrees P.places d c r)
      → ((w : ℕ) → IsNode (length P.places) w → is_some (place_at P.places w).through ≡ true → c w (length P.places + 2 + w) ≡ b w)
      → route_sum (least_across c) (model_of most P).routes
      ≡ route_sum (least_across d) P.routes +ℤ place_sum (λ j p. when (b j) (through_least p.through)) 1 P.places
  least_of d c b most agrees is =
      let sides = sides_least c in
      omega (
        arith,
        ints,
        whole_routes (least_across c) most P,
        route_sum-same (λ r. least_across c (from_exit P.places r)) (least_across d) (IsOwn P sound set s told)
            (λ r k. own_least P.places d c r (agrees r k)) P.routes (all_own P sound set s told),
        throughs_least c b is,
        sides,
        when-none (c (hub_of P.places) (gate_of P.places)),
      )

  pub own_most_of : (d c : ℕ → ℕ → Bool) → ((r : Route) → IsOwn P sound set s told r → Agrees P.places d c r)
      → route_sum (λ r. most_across c (from_exit P.places r)) P.routes ≡ route_sum (most_across d) P.routes
  own_most_of d c agrees =
      route_sum-same (λ r. most_across c (from_exit P.places r)) (most_across d) (IsOwn P sound set s told)
      (λ r k. own_most P.places d c r (agrees r k)) P.routes (all_own P sound set s told)

  -- what may stay, where the set sends
  pub stays_out : place_sum (λ j p. term_if (S P j p) (most_across (out_of set))) 1 P.places
      ≡ when P.policy.unused (place_sum (λ j p. when (s.entries j) (given p)) 1 P.places)
  stays_out =
      place_sum-same (λ j p. term_if (S P j p) (most_across (out_of set))) (λ j p. when P.policy.unused (when (s.entries j) (given p))) 1 P.places
      (each_from (λ j p. term_if (S P j p) (most_across (out_of set)) ≡ when P.policy.unused (when (s.entries j) (given p))) 1 P.places no_place
      (λ w a b. let p = place_at P.places w in
      side_most w (hub_of P.places) (given p) (pos 0) (out_of set) P.policy.unused (int_lt (pos 0) p.supply) (s.entries w)
      (ap (λ z. set w && not z) told.hub ∙ and_true (set w) ∙ sym (told.entries w (node_of w a b))) (gives_none p)))
      ∙ when_sum P.policy.unused (λ j p. when (s.entries j) (given p)) 1 P.places

  -- nothing comes in from what stays
  pub stays_in : place_sum (λ j p. term_if (S P j p) (most_across (into set))) 1 P.places ≡ pos 0
  stays_in =
      place_sum-zero (λ j p. term_if (S P j p) (most_across (into set))) 1 P.places
      (each_all (λ j p. term_if (S P j p) (most_across (into set)) ≡ pos 0) 1 P.places
      (λ j p a b. side_most j (hub_of P.places) (given p) (pos 0) (into set) P.policy.unused (int_lt (pos 0) p.supply) false
      (ap (λ z. z && not (set j)) told.hub) (gives_none p) ∙ when-none P.policy.unused))

  -- what is missing takes nothing from the set
  pub missing_out : pos 0 ≤ℤ place_sum (λ j p. term_if (M P j p) (most_across (out_of set))) 1 P.places
  missing_out = go 1 P.places
    where
      go : (v : ℕ) (ps : List Place) → pos 0 ≤ℤ place_sum (λ j p. term_if (M P j p) (most_across (out_of set))) v ps
      go v [] = omega (arith, ints)
      go v (p ∷ ps) =
          let low : pos 0 ≤ℤ wanted p = omega (arith, ints, clamps) in
          omega (
            arith,
            ints,
            side_some (gate_of P.places) (exit_by (length P.places) v p.through) (wanted p) (missing_cost P.policy p) (out_of set) P.policy.short (int_lt p.supply (pos 0)) low,
            go (suc v) ps,
          )

  pub missing_out_none : set (gate_of P.places) ≡ false → place_sum (λ j p. term_if (M P j p) (most_across (out_of set))) 1 P.places ≡ pos 0
  missing_out_none e =
      place_sum-zero (λ j p. term_if (M P j p) (most_across (out_of set))) 1 P.places
      (each_all (λ j p. term_if (M P j p) (most_across (out_of set)) ≡ pos 0) 1 P.places
      (λ j p a b. side_most (gate_of P.places) (exit_by (length P.places) j p.through) (wanted p) (missing_cost P.policy p) (out_of set) P.policy.short (int_lt p.supply (pos 0)) false
      (ap (λ z. z && not (set (exit_by (length P.places) j p.through))) e) (wants_none p) ∙ when-none P.policy.short))

  -- what may be missing, where the set takes and the gate isn't in it
  pub missing_in : set (gate_of P.places) ≡ false → place_sum (λ j p. term_if (M P j p) (most_across (into set))) 1 P.places
      ≡ when P.policy.short (place_sum (λ j p. when (s.exits j) (wanted p)) 1 P.places)
  missing_in e =
      place_sum-same (λ j p. term_if (M P j p) (most_across (into set))) (λ j p. when P.policy.short (when (s.exits j) (wanted p))) 1 P.places
      (each_from (λ j p. term_if (M P j p) (most_across (into set)) ≡ when P.policy.short (when (s.exits j) (wanted p))) 1 P.places no_place
      (λ w a b. let p = place_at P.places w in
      side_most (gate_of P.places) (exit_of P.places w) (wanted p) (missing_cost P.policy p) (into set) P.policy.short (int_lt p.supply (pos 0)) (s.exits w)
      (ap (λ z. set (exit_of P.places w) && not z) e ∙ and_true (set (exit_of P.places w))
      ∙ sym (told.exits w (node_of w a b))) (wants_none p)))
      ∙ when_sum P.policy.short (λ j p. when (s.exits j) (wanted p)) 1 P.places

  pub missing_in_some : pos 0 ≤ℤ place_sum (λ j p. term_if (M P j p) (most_across (into set))) 1 P.places
  missing_in_some = go 1 P.places
    where
      go : (v : ℕ) (ps : List Place) → pos 0 ≤ℤ place_sum (λ j p. term_if (M P j p) (most_across (into set))) v ps
      go v [] = omega (arith, ints)
      go v (p ∷ ps) =
          let low : pos 0 ≤ℤ wanted p = omega (arith, ints, clamps) in
          omega (
            arith,
            ints,
            side_some (gate_of P.places) (exit_by (length P.places) v p.through) (wanted p) (missing_cost P.policy p) (into set) P.policy.short (int_lt p.supply (pos 0)) low,
            go (suc v) ps,
          )
