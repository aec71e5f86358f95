-- All amounts of a problem together: more than any plan brings to a place.
use Rattle.std.proofs.Common.{◌≡◌, ℕ, suc, eqb, Bool, true, false, ◌&&◌, List, [], ◌∷◌, map, refl, ap, arith, ℤ, pos, neg_ℤ, ◌+ℤ◌, ◌≤ℤ◌}
use Rattle.std.specs.Prelude.{cond, filter, not, Option, Some, None}
use Rattle.std.specs.List.{All, AllZip}
use Rattle.std.proofs.lemmas.Int.{ints, clamps}
use Rattle.std.proofs.lemmas.List.Elements.{All-head, All-tail}
use Rattle.mcf_flows.specs.Network.{when}
use Rattle.mcf_model.specs.declared.rows.Step.{Step}
use Rattle.mcf_model.specs.Bottlenecks.{limit_or_zero, route_sum}
use Rattle.mcf_model.specs.Model.{Fits, IsLimited, MayCarry, Route, arriving, charged, room, size}
use Rattle.mcf_places.specs.declared.places.Bounds.{Bounds}
use Rattle.mcf_places.specs.declared.places.Place.{Place}
use Rattle.mcf_places.specs.Planners.{EachPlace, IsBalancedAt, IsPlan, Plan, Planner, given, passes, place_sum}
use Rattle.mcf_places.specs.Throughput.{bounds_span, place_span, route_span, steps_span, throughput, ways_span}
use Rattle.mcf_places.specs.Ways.{is_bounded, is_returning, way_back, way_there, ways_of}
use Rattle.mcf_places.proofs.PlaceCuts.{route_sum-append, route_sum-map}
use Rattle.mcf_places.proofs.PlaceSums.{each_map}

-- ---- no span is below 0

pub size_low : (x : ℤ) → pos 0 ≤ℤ size x
size_low x = omega (arith, ints, clamps)

pub steps_low : (steps : List Step) → pos 0 ≤ℤ steps_span steps
steps_low [] = omega (arith, ints)
steps_low (s ∷ steps) = omega (arith, ints, size_low s.most, steps_low steps)

pub route_low : (r : Route) → pos 0 ≤ℤ route_span r
route_low r = omega (arith, ints, size_low r.least, size_low (limit_or_zero r.last_most), steps_low r.steps)

pub way_low : (b : Bool) (z : ℤ) → pos 0 ≤ℤ z → pos 0 ≤ℤ when b z
way_low true z h = h
way_low false z h = omega (arith, ints)

pub ways_low : (r : Route) → pos 0 ≤ℤ ways_span r
ways_low r = omega (arith, ints, route_low r, way_low r.both (route_span r) (route_low r))

pub routes_low : (rs : List Route) → pos 0 ≤ℤ route_sum ways_span rs
routes_low [] = omega (arith, ints)
routes_low (r ∷ rs) = omega (arith, ints, ways_low r, routes_low rs)

pub bounds_low : (o : Option Bounds) → pos 0 ≤ℤ bounds_span o
bounds_low (Some b) = omega (arith, ints, size_low b.least, size_low (limit_or_zero b.most))
bounds_low None = omega (arith, ints)

pub place_low : (p : Place) → pos 0 ≤ℤ place_span p
place_low p = omega (arith, ints, size_low p.supply, bounds_low p.through)

pub places_low : (v : ℕ) (ps : List Place) → pos 0 ≤ℤ place_sum (λ j p. place_span p) v ps
places_low v [] = omega (arith, ints)
places_low v (p ∷ ps) = omega (arith, ints, place_low p, places_low (suc v) ps)

pub throughput_low : (ps : List Place) (rs : List Route) → pos 0 ≤ℤ throughput ps rs
throughput_low ps rs = omega (arith, ints, places_low 1 ps, routes_low rs)

-- ---- what arrives at a place

pub room_high : (steps : List Step) (m : ℤ) → room steps m ≤ℤ (size m +ℤ steps_span steps)
room_high [] m = omega (arith, ints, clamps)
room_high (s ∷ steps) m =
    let one : s.most ≤ℤ size s.most = omega (arith, ints, clamps) in
    omega (arith, ints, one, room_high steps m)

pub room_low : (steps : List Step) (m : ℤ) → neg_ℤ (size m +ℤ steps_span steps) ≤ℤ room steps m
room_low [] m = omega (arith, ints, clamps)
room_low (s ∷ steps) m =
    let one : neg_ℤ (size s.most) ≤ℤ s.most = omega (arith, ints, clamps) in
    omega (arith, ints, one, room_low steps m)

charged_high : (b : Bool) (x : ℤ) → x ≤ℤ charged b x
charged_high true x = omega (arith, ints, clamps)
charged_high false x = omega (arith, ints)

carries_high : (r : Route) (x : ℤ) → IsLimited r.last_most → MayCarry r x → x ≤ℤ ways_span r
carries_high r x limited h =
    omega (
      arith,
      ints,
      charged_high r.both x,
      go r.last_most limited h.fits,
      size_low r.least,
      way_low r.both (route_span r) (route_low r),
    )
  where
    go : (o : Option ℤ) → IsLimited o → Fits r.steps o (charged r.both x) → charged r.both x ≤ℤ (size (limit_or_zero o) +ℤ steps_span r.steps)
    go (Some m) l f = omega (arith, ints, f, room_high r.steps m)
    go None l f = absurd l

pub when_high : (b : Bool) (x z : ℤ) → x ≤ℤ z → pos 0 ≤ℤ z → when b x ≤ℤ z
when_high true x z h k = h
when_high false x z h k = k

arriving_high : (rs : List Route) (xs : List ℤ) (v : ℕ) → All (λ r. IsLimited r.last_most) rs → AllZip MayCarry rs xs → arriving rs xs v ≤ℤ route_sum ways_span rs
arriving_high [] xs v l h = omega (arith, ints)
arriving_high (r ∷ rs) [] v l h = absurd h
arriving_high (r ∷ rs) (x ∷ xs) v l h =
    omega (
      arith,
      ints,
      when_high (eqb r.head v) x (ways_span r) (carries_high r x (All-head (λ r. IsLimited r.last_most) r rs l) h.0) (ways_low r),
      arriving_high rs xs v (All-tail (λ r. IsLimited r.last_most) r rs l) h.1,
    )

parts_below : (v : ℕ) (ps : List Place) → EachPlace (λ j p. place_span p ≤ℤ place_sum (λ i q. place_span q) v ps) v ps
parts_below v [] = tt
parts_below v (p ∷ ps) = (
  omega (arith, ints, places_low (suc v) ps),
  each_map (λ j q. place_span q ≤ℤ place_sum (λ i r. place_span r) (suc v) ps) (λ j q. place_span q ≤ℤ place_sum (λ i r. place_span r) v (p ∷ ps))
      (λ j q k. omega (arith, ints, k, place_low p)) (suc v) ps (parts_below (suc v) ps),
)

pub each_both : (R S T : ℕ → Place → Type 0) → ((j : ℕ) (p : Place) → R j p → S j p → T j p) → (v : ℕ) (ps : List Place)
    → EachPlace R v ps → EachPlace S v ps → EachPlace T v ps
each_both R S T f v [] a b = tt
each_both R S T f v (p ∷ ps) a b = (f v p a.0 b.0, each_both R S T f (suc v) ps a.1 b.1)

-- no more than all amounts passes through a place
pub passes_high : (P : Planner) (x : Plan) → All (λ r. IsLimited r.last_most) P.routes → IsPlan P x
    → EachPlace (λ v p. passes P x v p ≤ℤ throughput P.places P.routes) 1 P.places
passes_high P x limited h =
    each_both (IsBalancedAt P x) (λ j p. place_span p ≤ℤ place_sum (λ i q. place_span q) 1 P.places)
    (λ v p. passes P x v p ≤ℤ throughput P.places P.routes)
    (λ v p b k. let some : given p ≤ℤ size p.supply = omega (arith, ints, clamps) in
    omega (arith, ints, some, b.stays_some, k, bounds_low p.through, arriving_high P.routes x.carries v limited h.may_carry)) 1 P.places h.balanced
    (parts_below 1 P.places)

-- ---- the ways of routes have the amounts of the routes

module _ (places : List Place) where
  there_span : (a b : Bool) (z : ℤ) → when (a && b) z +ℤ when (a && not b) z ≡ when a z
  there_span false b z = omega (arith, ints)
  there_span true true z = omega (arith, ints)
  there_span true false z = omega (arith, ints)

  spans : (rs : List Route)
      → route_sum (λ r. ways_span (way_there places r)) rs +ℤ route_sum (λ r. ways_span (way_back r)) (filter (is_returning places) rs)
      ≡ route_sum ways_span rs
  spans [] = omega (arith, ints)
  spans (r ∷ rs) = go (is_returning places r) refl (spans rs)
    where
      go : (b : Bool) → is_returning places r ≡ b
          → route_sum (λ r. ways_span (way_there places r)) rs +ℤ route_sum (λ r. ways_span (way_back r)) (filter (is_returning places) rs) ≡ route_sum ways_span rs
          → ways_span (way_there places r) +ℤ route_sum (λ r. ways_span (way_there places r)) rs
          +ℤ route_sum (λ r. ways_span (way_back r)) (cond b (r ∷ filter (is_returning places) rs) (filter (is_returning places) rs))
          ≡ ways_span r +ℤ route_sum ways_span rs
      go true e later =
          omega (arith, ints, later, ap (λ t. when t (route_span r)) e, there_span r.both (is_bounded places r.tail r.head) (route_span r))
      go false e later =
          omega (arith, ints, later, ap (λ t. when t (route_span r)) e, there_span r.both (is_bounded places r.tail r.head) (route_span r))

  pub ways_throughput : (rs : List Route) → throughput places (ways_of places rs) ≡ throughput places rs
  ways_throughput rs =
      omega (
        arith,
        ints,
        route_sum-append ways_span (map (way_there places) rs) (map way_back (filter (is_returning places) rs)),
        route_sum-map ways_span (way_there places) rs,
        route_sum-map ways_span way_back (filter (is_returning places) rs),
        spans rs,
      )
