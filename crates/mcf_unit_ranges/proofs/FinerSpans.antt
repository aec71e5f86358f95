-- The span of a route in finer units is its span, in finer units.
use Rattle.std.proofs.Common.{◌≡◌, ℕ, Bool, true, false, List, [], ◌∷◌, map, refl, ap, sym, ◌∙◌, subst, arith, ℤ, pos, neg_ℤ, ◌+ℤ◌, ◌-ℤ◌, ◌≤ℤ◌, if◌then◌else◌, int_lt}
use Rattle.std.specs.Prelude.{Option, Some, None, int_le, option_map}
use Rattle.std.specs.Int.{int_max, int_min}
use Rattle.std.proofs.Math.IntN.{◌*ℤ◌, *ℤ_comm}
use Rattle.std.proofs.lemmas.Int.{ints, clamps, by_lt_z}
use Rattle.mcf_flows.proofs.IntLaws.{mul-add, mul-mono, mul-neg, mul-sub, mul-zero, mul_at_least_zero}
use Rattle.mcf_model.specs.declared.rows.Step.{Step}
use Rattle.mcf_model.specs.Bottlenecks.{limit_or_zero}
use Rattle.mcf_model.specs.Faults.{first_cost}
use Rattle.mcf_model.specs.Model.{Adds, AreRooms, CostAtLeast, Fits, IsLimited, IsRoom, IsSoundRoute, MayBeBoth, MayCarry, Rises, Route, charge, charged, room, route_cost, size}
use Rattle.mcf_model.specs.Prices.{IsBestAt, price_drop, reduced_route_cost}
use Rattle.mcf_model.specs.Scaling.{scaled_route, scaled_step}
use Rattle.mcf_unit_ranges.specs.Spans.{goes_back, highest, lowest, room_below, room_up_to, span, span_of, turned}
use Rattle.mcf_unit_ranges.proofs.Products.{mul-assoc}
use Rattle.mcf_unit_ranges.proofs.SpanLaws.{HasBest, has_best, of_span, span_amount, to_span, twice}

module _ (k : ℤ) (k0 : pos 0 ≤ℤ k) where
  abbrev times : ℤ → ℤ
  times x = k *ℤ x

  pub max_times : (x y : ℤ) → int_max (k *ℤ x) (k *ℤ y) ≡ k *ℤ int_max x y
  max_times x y =
      by_lt_z x y
      (λ less. let e : int_max x y ≡ y = omega (arith, ints, clamps, less) in
      let h = mul-mono k x y k0 (omega (arith, ints, less)) in rw e (omega (arith, ints, clamps, h)))
      (λ more. let e : int_max x y ≡ x = omega (arith, ints, clamps, more) in
      let h = mul-mono k y x k0 more in rw e (omega (arith, ints, clamps, h)))

  min_times : (x m : ℤ) → int_min (k *ℤ x) (k *ℤ m) ≡ k *ℤ int_min x m
  min_times x m =
      by_lt_z x m
      (λ less. let e : int_min x m ≡ x = omega (arith, ints, clamps, less) in
      let h = mul-mono k x m k0 (omega (arith, ints, less)) in rw e (omega (arith, ints, clamps, h)))
      (λ more. let e : int_min x m ≡ m = omega (arith, ints, clamps, more) in
      let h = mul-mono k m x k0 more in rw e (omega (arith, ints, clamps, h)))

  pub size_times : (x : ℤ) → size (k *ℤ x) ≡ k *ℤ size x
  size_times x = ap (λ z. int_max (k *ℤ x) z) (sym (mul-neg k x)) ∙ max_times x (neg_ℤ x)

  pub charged_times : (both : Bool) (x : ℤ) → charged both (k *ℤ x) ≡ k *ℤ charged both x
  charged_times true x = size_times x
  charged_times false x = refl

  -- ---- what a route keeps

  costs_finer : (c : ℤ) (steps : List Step) (last : ℤ) → CostAtLeast c steps last → CostAtLeast c (map (scaled_step k) steps) last
  costs_finer c [] last h = h
  costs_finer c (s ∷ steps) last h = (h.0, costs_finer c steps last h.1)

  rises_finer : (steps : List Step) (last : ℤ) → Rises steps last → Rises (map (scaled_step k) steps) last
  rises_finer [] last h = tt
  rises_finer (s ∷ steps) last h = (costs_finer s.cost steps last h.0, rises_finer steps last h.1)

  room_finer : (o : Option ℤ) → IsRoom o → IsRoom (option_map (λ m. k *ℤ m) o)
  room_finer (Some m) h = mul_at_least_zero k m k0 h
  room_finer None h = tt

  rooms_finer : (steps : List Step) (o : Option ℤ) → AreRooms steps o → AreRooms (map (scaled_step k) steps) (option_map (λ m. k *ℤ m) o)
  rooms_finer [] o h = room_finer o h
  rooms_finer (s ∷ steps) o h = (mul_at_least_zero k s.most k0 h.0, rooms_finer steps o h.1)

  adds_finer : (steps : List Step) (o : Option ℤ) → Adds steps o → Adds (map (scaled_step k) steps) (option_map (λ m. k *ℤ m) o)
  adds_finer [] o h = tt
  adds_finer (s ∷ steps) o h = rooms_finer steps o h

  both_finer : (b : Bool) (least : ℤ) (steps : List Step) (o : Option ℤ) (last : ℤ) → MayBeBoth b least steps o last
      → MayBeBoth b (k *ℤ least) (map (scaled_step k) steps) (option_map (λ m. k *ℤ m) o) last
  both_finer true least steps o last h = (ap (λ z. k *ℤ z) h.0 ∙ mul-zero k, costs_finer (pos 0) steps last h.1, rooms_finer steps o h.2)
  both_finer false least steps o last h = tt

  pub route_finer : (n : ℕ) (r : Route) → IsSoundRoute n r → IsSoundRoute n (scaled_route k r)
  route_finer n r h =
      record {
        tail_is_place = h.tail_is_place;
        head_is_place = h.head_is_place;
        rises = rises_finer r.steps r.last_cost h.rises;
        adds = adds_finer r.steps r.last_most h.adds;
        may_be_both = both_finer r.both r.least r.steps r.last_most r.last_cost h.may_be_both;
      }

  -- ---- the span

  module _ (z c : ℤ) (most : Option ℤ) where
    abbrev finer_most : Option ℤ
    finer_most = option_map (λ m. k *ℤ m) most

    limit_finer : (o : Option ℤ) → limit_or_zero (option_map (λ m. k *ℤ m) o) ≡ k *ℤ limit_or_zero o
    limit_finer (Some m) = refl
    limit_finer None = sym (mul-zero k)

    below_finer : (steps : List Step) → room_below z (map (scaled_step k) steps) c finer_most ≡ k *ℤ room_below z steps c most
    below_finer [] = go (int_lt c z)
      where
        go : (b : Bool) → (if b then limit_or_zero finer_most else pos 0) ≡ k *ℤ (if b then limit_or_zero most else pos 0)
        go true = limit_finer most
        go false = sym (mul-zero k)
    below_finer (s ∷ steps) = go (int_lt s.cost z) (below_finer steps)
      where
        go : (b : Bool) → room_below z (map (scaled_step k) steps) c finer_most ≡ k *ℤ room_below z steps c most → (if b then k *ℤ s.most +ℤ room_below z (map (scaled_step k) steps) c finer_most else pos 0)
            ≡ k *ℤ (if b then s.most +ℤ room_below z steps c most else pos 0)
        go true e = ap (λ w. k *ℤ s.most +ℤ w) e ∙ sym (mul-add k s.most (room_below z steps c most))
        go false e = sym (mul-zero k)

    sum_finer : (x : ℤ) (o : Option ℤ) → option_map (λ y. k *ℤ x +ℤ y) (option_map (λ m. k *ℤ m) o) ≡ option_map (λ m. k *ℤ m) (option_map (λ y. x +ℤ y) o)
    sum_finer x (Some y) = ap Some (sym (mul-add k x y))
    sum_finer x None = refl

    up_finer : (steps : List Step) → room_up_to z (map (scaled_step k) steps) c finer_most ≡ option_map (λ m. k *ℤ m) (room_up_to z steps c most)
    up_finer [] = go (int_le c z)
      where
        go : (b : Bool) → (if b then finer_most else Some (pos 0)) ≡ option_map (λ m. k *ℤ m) (if b then most else Some (pos 0))
        go true = refl
        go false = ap Some (sym (mul-zero k))
    up_finer (s ∷ steps) = go (int_le s.cost z) (up_finer steps)
      where
        go : (b : Bool) → room_up_to z (map (scaled_step k) steps) c finer_most ≡ option_map (λ m. k *ℤ m) (room_up_to z steps c most) → (if b then option_map (λ x. k *ℤ s.most +ℤ x) (room_up_to z (map (scaled_step k) steps) c finer_most) else Some (pos 0))
            ≡ option_map (λ m. k *ℤ m) (if b then option_map (λ x. s.most +ℤ x) (room_up_to z steps c most) else Some (pos 0))
        go true e = ap (option_map (λ x. k *ℤ s.most +ℤ x)) e ∙ sum_finer s.most (room_up_to z steps c most)
        go false e = ap Some (sym (mul-zero k))

    first_finer : (steps : List Step) → first_cost (map (scaled_step k) steps) c ≡ first_cost steps c
    first_finer [] = refl
    first_finer (s ∷ steps) = refl

    max_finer : (least : ℤ) (o : Option ℤ) → option_map (λ x. int_max (k *ℤ least) x) (option_map (λ m. k *ℤ m) o) ≡ option_map (λ m. k *ℤ m) (option_map (λ x. int_max least x) o)
    max_finer least (Some y) = ap Some (max_times least y)
    max_finer least None = refl

  lowest_finer : (z : ℤ) (r : Route) → lowest z (scaled_route k r) ≡ k *ℤ lowest z r
  lowest_finer z r =
      ap (λ f. if int_lt f z then int_max (k *ℤ r.least) (room_below z (map (scaled_step k) r.steps) r.last_cost (option_map (λ m. k *ℤ m) r.last_most)) else k *ℤ r.least)
      (first_finer z r.last_cost r.last_most r.steps)
      ∙ go (int_lt (first_cost r.steps r.last_cost) z)
    where
      go : (b : Bool) → (if b then int_max (k *ℤ r.least) (room_below z (map (scaled_step k) r.steps) r.last_cost (option_map (λ m. k *ℤ m) r.last_most)) else k *ℤ r.least)
          ≡ k *ℤ (if b then int_max r.least (room_below z r.steps r.last_cost r.last_most) else r.least)
      go true = ap (λ w. int_max (k *ℤ r.least) w) (below_finer z r.last_cost r.last_most r.steps) ∙ max_times r.least (room_below z r.steps r.last_cost r.last_most)
      go false = refl

  highest_finer : (z : ℤ) (r : Route) → highest z (scaled_route k r) ≡ option_map (λ m. k *ℤ m) (highest z r)
  highest_finer z r =
      ap (λ f. if int_le f z then option_map (λ x. int_max (k *ℤ r.least) x) (room_up_to z (map (scaled_step k) r.steps) r.last_cost (option_map (λ m. k *ℤ m) r.last_most))
      else Some (k *ℤ r.least)) (first_finer z r.last_cost r.last_most r.steps)
      ∙ go (int_le (first_cost r.steps r.last_cost) z)
    where
      go : (b : Bool) → (if b then option_map (λ x. int_max (k *ℤ r.least) x) (room_up_to z (map (scaled_step k) r.steps) r.last_cost (option_map (λ m. k *ℤ m) r.last_most))
          else Some (k *ℤ r.least))
          ≡ option_map (λ m. k *ℤ m) (if b then option_map (λ x. int_max r.least x) (room_up_to z r.steps r.last_cost r.last_most) else Some r.least)
      go true = ap (option_map (λ x. int_max (k *ℤ r.least) x)) (up_finer z r.last_cost r.last_most r.steps) ∙ max_finer z r.last_cost r.last_most r.least (room_up_to z r.steps r.last_cost r.last_most)
      go false = refl

  span_of_finer : (prices : List ℤ) (r : Route) → span_of prices (scaled_route k r) ≡ scaled_route k (span_of prices r)
  span_of_finer prices r =
      let z = price_drop prices r in
      let part : ℤ → Option ℤ → Route = λ least most. record (span_of prices r) { least = least; last_most = most } in
      ap (λ l. part l (highest z (scaled_route k r))) (lowest_finer z r) ∙ ap (part (k *ℤ lowest z r)) (highest_finer z r)

  pub span_finer : (prices : List ℤ) (r : Route) → span prices (scaled_route k r) ≡ scaled_route k (span prices r)
  span_finer prices r = go (goes_back prices r)
    where
      go : (b : Bool) → span_of prices (if b then turned (scaled_route k r) else scaled_route k r) ≡ scaled_route k (span_of prices (if b then turned r else r))
      go true = span_of_finer prices (turned r)
      go false = span_of_finer prices r

  -- ---- amounts of least reduced cost

  room_of : (steps : List Step) (m : ℤ) → room (map (scaled_step k) steps) (k *ℤ m) ≡ k *ℤ room steps m
  room_of [] m = refl
  room_of (s ∷ steps) m = ap (λ w. k *ℤ s.most +ℤ w) (room_of steps m) ∙ sym (mul-add k s.most (room steps m))

  fits_finer : (steps : List Step) (o : Option ℤ) (x : ℤ) → Fits steps o x → Fits (map (scaled_step k) steps) (option_map (λ m. k *ℤ m) o) (k *ℤ x)
  fits_finer steps (Some m) x h = omega (arith, ints, mul-mono k x (room steps m) k0 h, room_of steps m)
  fits_finer steps None x h = tt

  pub may_finer : (r : Route) (x : ℤ) → MayCarry r x → MayCarry (scaled_route k r) (k *ℤ x)
  may_finer r x may =
      let e = charged_times r.both x in
      record {
        enough = omega (arith, ints, e, mul-mono k r.least (charged r.both x) k0 may.enough);
        fits = subst (Fits (map (scaled_step k) r.steps) (option_map (λ m. k *ℤ m) r.last_most)) (sym e) (fits_finer r.steps r.last_most (charged r.both x) may.fits);
      }

  limited_finer : (o : Option ℤ) → IsLimited o → IsLimited (option_map (λ m. k *ℤ m) o)
  limited_finer (Some m) h = tt
  limited_finer None h = h

  pub has_finer : (prices : List ℤ) (r : Route) → HasBest prices r → HasBest prices (scaled_route k r)
  has_finer prices r has =
      record {
        limited = λ low. limited_finer r.last_most (has.limited low);
        fits_least = fits_finer r.steps r.last_most r.least has.fits_least;
      }

  amount_finer : (prices : List ℤ) (r : Route) (x : ℤ) → span_amount prices (scaled_route k r) (k *ℤ x) ≡ k *ℤ span_amount prices r x
  amount_finer prices r x = go (goes_back prices r)
    where
      go : (b : Bool) → (if b then neg_ℤ (k *ℤ x) else k *ℤ x) ≡ k *ℤ (if b then neg_ℤ x else x)
      go true = sym (mul-neg k x)
      go false = refl

  pub best_finer : (n : ℕ) (prices : List ℤ) (r : Route) (x : ℤ) → IsSoundRoute n r → IsBestAt prices r x → IsBestAt prices (scaled_route k r) (k *ℤ x)
  best_finer n prices r x sound best =
      let it = may_finer (span prices r) (span_amount prices r x) (to_span n prices r sound x best) in
      let there : MayCarry (span prices (scaled_route k r)) (k *ℤ span_amount prices r x) =
      subst (λ s. MayCarry s (k *ℤ span_amount prices r x)) (sym (span_finer prices r)) it in
      subst (IsBestAt prices (scaled_route k r)) (amount_finer prices r (span_amount prices r x) ∙ ap times (twice prices r x))
      (of_span n prices (scaled_route k r) (route_finer n r sound) (has_finer prices r (has_best n prices r sound x best)) (k *ℤ span_amount prices r x) there)

  -- ---- what it costs

  charge_finer : (steps : List Step) (c x : ℤ) → charge (map (scaled_step k) steps) c (k *ℤ x) ≡ k *ℤ charge steps c x
  charge_finer [] c x = *ℤ_comm c (k *ℤ x) ∙ mul-assoc k x c ∙ ap times (*ℤ_comm x c)
  charge_finer (s ∷ steps) c x =
      let part = int_min x s.most in
      let e = min_times x s.most in
      let rest : (k *ℤ x -ℤ int_min (k *ℤ x) (k *ℤ s.most)) ≡ k *ℤ (x -ℤ part) = omega (arith, ints, e, mul-sub k x part) in
      let first : s.cost *ℤ int_min (k *ℤ x) (k *ℤ s.most) ≡ k *ℤ (s.cost *ℤ part) =
      ap (λ w. s.cost *ℤ w) e ∙ *ℤ_comm s.cost (k *ℤ part) ∙ mul-assoc k part s.cost ∙ ap times (*ℤ_comm part s.cost) in
      let later = ap (charge (map (scaled_step k) steps) c) rest ∙ charge_finer steps c (x -ℤ part) in
      omega (arith, ints, first, later, mul-add k (s.cost *ℤ part) (charge steps c (x -ℤ part)))

  pub reduced_finer : (prices : List ℤ) (r : Route) (x : ℤ) → reduced_route_cost prices (scaled_route k r) (k *ℤ x) ≡ k *ℤ reduced_route_cost prices r x
  reduced_finer prices r x =
      let z = price_drop prices r in
      let worth : z *ℤ (k *ℤ x) ≡ k *ℤ (z *ℤ x) = *ℤ_comm z (k *ℤ x) ∙ mul-assoc k x z ∙ ap times (*ℤ_comm x z) in
      let cost = ap (charge (map (scaled_step k) r.steps) r.last_cost) (charged_times r.both x) ∙ charge_finer r.steps r.last_cost (charged r.both x) in
      omega (arith, ints, worth, cost, mul-sub k (route_cost r x) (z *ℤ x))
