-- Places that are a bottleneck are one in finer units, too.
use Rattle.std.proofs.Common.{◌≡◌, ℕ, suc, Bool, true, false, ◌&&◌, IsTrue, List, [], ◌∷◌, map, refl, ap, sym, ◌∙◌, arith, ℤ, pos, ◌+ℤ◌, ◌-ℤ◌, ◌≤ℤ◌, ◌<ℤ◌}
use Rattle.std.specs.Prelude.{Option, Some, None, option_map}
use Rattle.std.proofs.Math.IntN.{◌*ℤ◌}
use Rattle.std.proofs.lemmas.Int.{ints}
use Rattle.std.proofs.lemmas.List.Elements.{All-map}
use Rattle.mcf_flows.specs.declared.problem.Side.{Side}
use Rattle.mcf_flows.specs.declared.problem.Side.TheVariants.{Send, Take}
use Rattle.mcf_flows.specs.Network.{when}
use Rattle.mcf_flows.proofs.IntLaws.{mul-add, mul-mono_lt, mul-sub, mul-zero}
use Rattle.mcf_model.specs.declared.rows.Step.{Step}
use Rattle.mcf_model.specs.Bottlenecks.{IsLimitedAcross, least_across, limit_or_zero, most_across, route_room, route_sum}
use Rattle.mcf_model.specs.Model.{IsLimited, Route, room}
use Rattle.mcf_model.specs.Scaling.{scaled_route, scaled_step}
use Rattle.mcf_model.proofs.FaultTests.{all_of}
use Rattle.mcf_places.specs.declared.places.Bounds.{Bounds}
use Rattle.mcf_places.specs.declared.places.Place.{Place}
use Rattle.mcf_places.specs.FinerPlanners.{finer, finer_bounds, finer_place}
use Rattle.mcf_places.specs.PlannerBottlenecks.{IsPlannerBottleneck, IsStuck, IsWhole, PlaceSet, given_in, leads_in, leads_out, passes_in, passes_out, through_least, through_most, wanted_in}
use Rattle.mcf_places.specs.PlannerFaults.{IsLimitedThrough}
use Rattle.mcf_places.specs.Planners.{EachPlace, Planner, given, place_sum, wanted}
use Rattle.mcf_places.proofs.FinerModels.{given_times, wanted_times}

module _ (k : ℤ) (k1 : pos 1 ≤ℤ k) where
  pub when_times : (b : Bool) (z : ℤ) → when b (k *ℤ z) ≡ k *ℤ when b z
  when_times true z = refl
  when_times false z = sym (mul-zero k)

  -- ---- routes

  pub limit_times : (o : Option ℤ) → limit_or_zero (option_map (λ m. k *ℤ m) o) ≡ k *ℤ limit_or_zero o
  limit_times (Some m) = refl
  limit_times None = sym (mul-zero k)

  room_times : (steps : List Step) (last : ℤ) → room (map (scaled_step k) steps) (k *ℤ last) ≡ k *ℤ room steps last
  room_times [] last = refl
  room_times (s ∷ steps) last = omega (arith, ints, room_times steps last, mul-add k s.most (room steps last))

  route_room_times : (r : Route) → route_room (scaled_route k r) ≡ k *ℤ route_room r
  route_room_times r = ap (room (map (scaled_step k) r.steps)) (limit_times r.last_most) ∙ room_times r.steps (limit_or_zero r.last_most)

  most_times : (crosses : ℕ → ℕ → Bool) (r : Route) → most_across crosses (scaled_route k r) ≡ k *ℤ most_across crosses r
  most_times crosses r =
      let there = crosses r.tail r.head in
      let back = r.both && crosses r.head r.tail in
      let one = ap (when there) (route_room_times r) ∙ when_times there (route_room r) in
      let other = ap (when back) (route_room_times r) ∙ when_times back (route_room r) in
      omega (arith, ints, one, other, mul-add k (when there (route_room r)) (when back (route_room r)))

  pub sum_times : (t s : Route → ℤ) → ((r : Route) → s (scaled_route k r) ≡ k *ℤ t r) → (rs : List Route)
      → route_sum s (map (scaled_route k) rs) ≡ k *ℤ route_sum t rs
  sum_times t s each [] = sym (mul-zero k)
  sum_times t s each (r ∷ rs) = omega (arith, ints, each r, sum_times t s each rs, mul-add k (t r) (route_sum t rs))

  limited_times : (o : Option ℤ) → IsLimited o → IsLimited (option_map (λ m. k *ℤ m) o)
  limited_times (Some m) h = tt
  limited_times None h = h

  across_times : (crosses : ℕ → ℕ → Bool) (r : Route) → IsLimitedAcross crosses r → IsLimitedAcross crosses (scaled_route k r)
  across_times crosses r h = λ is. limited_times r.last_most (h is)

  -- ---- places

  most_through : (o : Option Bounds) → through_most (option_map (finer_bounds k) o) ≡ k *ℤ through_most o
  most_through (Some b) = limit_times b.most
  most_through None = sym (mul-zero k)

  least_through : (o : Option Bounds) → through_least (option_map (finer_bounds k) o) ≡ k *ℤ through_least o
  least_through (Some b) = refl
  least_through None = sym (mul-zero k)

  pub places_times : (t s : ℕ → Place → ℤ) → ((j : ℕ) (p : Place) → s j (finer_place k p) ≡ k *ℤ t j p) → (v : ℕ) (ps : List Place)
      → place_sum s v (map (finer_place k) ps) ≡ k *ℤ place_sum t v ps
  places_times t s each v [] = sym (mul-zero k)
  places_times t s each v (p ∷ ps) = omega (arith, ints, each v p, places_times t s each (suc v) ps, mul-add k (t v p) (place_sum t (suc v) ps))

  each_times : (R : ℕ → Place → Type 0) → ((j : ℕ) (p : Place) → R j p → R j (finer_place k p)) → (v : ℕ) (ps : List Place)
      → EachPlace R v ps → EachPlace R v (map (finer_place k) ps)
  each_times R keep v [] h = tt
  each_times R keep v (p ∷ ps) h = (keep v p h.0, each_times R keep (suc v) ps h.1)

  whole_times : (set : PlaceSet) (v : ℕ) (o : Option Bounds) → IsWhole set v o → IsWhole set v (option_map (finer_bounds k) o)
  whole_times set v (Some b) h = tt
  whole_times set v None h = h

  through_limited : (o : Option Bounds) → IsLimitedThrough o → IsLimitedThrough (option_map (finer_bounds k) o)
  through_limited (Some b) h = limited_times b.most h
  through_limited None h = h

  given_in_times : (set : PlaceSet) (ps : List Place) → given_in set (map (finer_place k) ps) ≡ k *ℤ given_in set ps
  given_in_times set ps =
      places_times (λ v p. when (set.entries v) (given p)) (λ v p. when (set.entries v) (given p))
      (λ j p. ap (when (set.entries j)) (given_times k k1 p) ∙ when_times (set.entries j) (given p)) 1 ps

  wanted_in_times : (set : PlaceSet) (ps : List Place) → wanted_in set (map (finer_place k) ps) ≡ k *ℤ wanted_in set ps
  wanted_in_times set ps =
      places_times (λ v p. when (set.exits v) (wanted p)) (λ v p. when (set.exits v) (wanted p))
      (λ j p. ap (when (set.exits j)) (wanted_times k k1 p) ∙ when_times (set.exits j) (wanted p)) 1 ps

  -- ---- stuck places

  scaled_less : (a b c d : ℤ) → (a +ℤ (b +ℤ c)) <ℤ d → (k *ℤ a +ℤ (k *ℤ b +ℤ k *ℤ c)) <ℤ (k *ℤ d)
  scaled_less a b c d less =
      let more = mul-mono_lt k (a +ℤ (b +ℤ c)) d (omega (arith, ints, k1)) less in
      omega (arith, ints, more, mul-add k a (b +ℤ c), mul-add k b c)

  stuck_times : (P : Planner) (set : PlaceSet) (away here : ℕ → ℕ → Bool) (through_away through_here : ℕ → Bool) (must may must2 may2 : ℤ)
      → must2 ≡ k *ℤ must → may2 ≡ k *ℤ may → IsStuck P set away here through_away through_here must may
      → IsStuck (finer k P) set away here through_away through_here must2 may2
  stuck_times P set away here through_away through_here must may must2 may2 musts mays h =
      let mosts = sum_times (most_across away) (most_across away) (most_times away) P.routes in
      let leasts = sum_times (least_across here) (least_across here) (λ r. when_times (here r.tail r.head) r.least) P.routes in
      let passing = places_times (λ v p. when (through_away v) (through_most p.through)) (λ v p. when (through_away v) (through_most p.through))
      (λ j p. ap (when (through_away j)) (most_through p.through) ∙ when_times (through_away j) (through_most p.through)) 1 P.places in
      let coming = places_times (λ v p. when (through_here v) (through_least p.through)) (λ v p. when (through_here v) (through_least p.through))
      (λ j p. ap (when (through_here j)) (least_through p.through) ∙ when_times (through_here j) (through_least p.through)) 1 P.places in
      let A = route_sum (most_across away) P.routes in
      let B = place_sum (λ v p. when (through_away v) (through_most p.through)) 1 P.places in
      let C = route_sum (least_across here) P.routes in
      let D = place_sum (λ v p. when (through_here v) (through_least p.through)) 1 P.places in
      let less = scaled_less A B may (must +ℤ (C +ℤ D)) h.short in
      record {
        whole = each_times (λ v p. IsWhole set v p.through) (λ j p w. whole_times set j p.through w) 1 P.places h.whole;
        routes_limited = All-map (IsLimitedAcross away) (scaled_route k) P.routes
            (all_of (IsLimitedAcross away) (λ r. IsLimitedAcross away (scaled_route k r)) P.routes (λ r l. across_times away r l) h.routes_limited);
        places_limited = each_times (λ v p. IsTrue (through_away v) → IsLimitedThrough p.through)
            (λ j p l is. through_limited p.through (l is)) 1 P.places h.places_limited;
        short = omega (arith, ints, less, mosts, leasts, passing, coming, musts, mays, mul-add k must (C +ℤ D), mul-add k C D);
      }

  pub bottleneck_times : (P : Planner) (set : PlaceSet) (side : Side) → IsPlannerBottleneck P set side → IsPlannerBottleneck (finer k P) set side
  bottleneck_times P set Send h =
      let gives = given_in_times set P.places in
      let wants = wanted_in_times set P.places in
      stuck_times P set (leads_out set) (leads_in set) (passes_out set) (passes_in set) (given_in set P.places -ℤ wanted_in set P.places)
      (when P.policy.unused (given_in set P.places)) _ _ (omega (arith, ints, gives, wants, mul-sub k (given_in set P.places) (wanted_in set P.places)))
      (ap (when P.policy.unused) gives ∙ when_times P.policy.unused (given_in set P.places)) h
  bottleneck_times P set Take h =
      let gives = given_in_times set P.places in
      let wants = wanted_in_times set P.places in
      stuck_times P set (leads_in set) (leads_out set) (passes_in set) (passes_out set) (wanted_in set P.places -ℤ given_in set P.places)
      (when P.policy.short (wanted_in set P.places)) _ _ (omega (arith, ints, gives, wants, mul-sub k (wanted_in set P.places) (given_in set P.places)))
      (ap (when P.policy.short) wants ∙ when_times P.policy.short (wanted_in set P.places)) h
