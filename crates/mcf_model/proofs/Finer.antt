-- A model in finer units: its network, and what shows a flow there.
use Rattle.std.proofs.Common.{◌≡◌, ℕ, zero, suc, ◌-◌, eqb, Bool, true, false, List, [], ◌∷◌, ◌++◌, map, take, drop, refl, ap, sym, ◌∙◌, arith, ℤ, pos, ◌-ℤ◌, ◌≤ℤ◌}
use Rattle.std.specs.Prelude.{Option, Some, None, option_map, slice_index_or}
use Rattle.std.specs.Int.{int_min}
use Rattle.std.specs.List.{All}
use Rattle.std.proofs.Math.IntN.{◌*ℤ◌}
use Rattle.std.proofs.lemmas.Int.{ints, clamps, by_lt_z}
use Rattle.std.proofs.lemmas.List.{map-append}
use Rattle.std.proofs.lemmas.List.Elements.{All-cons, All-head, All-tail}
use Rattle.mcf_flows.specs.declared.arc.Arc.{Arc}
use Rattle.mcf_flows.specs.Network.{at_node, flow_sum, when}
use Rattle.mcf_flows.specs.Flow.{IsWithinBounds, Shows, net}
use Rattle.mcf_flows.proofs.IntLaws.{mul-add, mul-sub, mul-zero, mul-mono}
use Rattle.mcf_model.specs.declared.rows.Step.{Step}
use Rattle.mcf_model.specs.Model.{Adds, AreRooms, CostAtLeast, IsSoundRoute, MayBeBoth, Rises, Route}
use Rattle.mcf_model.specs.Arcs.{added, arcs_of, back, back_length, last_cap, plan_of, there, way, way_back, way_length}
use Rattle.mcf_model.specs.Scaling.{scaled_route, scaled_step}

module _ (k : ℤ) (k0 : pos 0 ≤ℤ k) where
  abbrev pub times : ℤ → ℤ
  times x = k *ℤ x

  abbrev pub scaled_arc : Arc → Arc
  scaled_arc a = record { src = a.src; dst = a.dst; low = k *ℤ a.low; cap = k *ℤ a.cap; cost = a.cost }

  min_times : (x m : ℤ) → int_min (k *ℤ x) (k *ℤ m) ≡ k *ℤ int_min x m
  min_times x m =
      by_lt_z x m
      (λ less. let e : int_min x m ≡ x = omega (arith, ints, clamps, less) in
      let h = mul-mono k x m k0 (omega (arith, ints, less)) in rw e (omega (arith, ints, clamps, h)))
      (λ more. let e : int_min x m ≡ m = omega (arith, ints, clamps, more) in
      let h = mul-mono k m x k0 more in rw e (omega (arith, ints, clamps, h)))

  -- ---- the arcs

  scaled_way : (tail head : ℕ) (least : ℤ) (steps : List Step) (cap c : ℤ)
      → way tail head (k *ℤ least) (map (scaled_step k) steps) (k *ℤ cap) c ≡ map scaled_arc (way tail head least steps cap c)
  scaled_way tail head least [] cap c = refl
  scaled_way tail head least (s ∷ steps) cap c =
      let e = min_times least s.most in
      let rest : (k *ℤ least -ℤ int_min (k *ℤ least) (k *ℤ s.most)) ≡ k *ℤ (least -ℤ int_min least s.most) =
      omega (arith, ints, e, mul-sub k least (int_min least s.most)) in
      ap (λ l. record { src = tail; dst = head; low = l; cap = k *ℤ s.most; cost = s.cost }
      ∷ way tail head (k *ℤ least -ℤ int_min (k *ℤ least) (k *ℤ s.most)) (map (scaled_step k) steps) (k *ℤ cap) c) e
      ∙ ap (λ z. record { src = tail; dst = head; low = k *ℤ int_min least s.most; cap = k *ℤ s.most; cost = s.cost }
      ∷ way tail head z (map (scaled_step k) steps) (k *ℤ cap) c) rest
      ∙ ap (λ xs. record { src = tail; dst = head; low = k *ℤ int_min least s.most; cap = k *ℤ s.most; cost = s.cost } ∷ xs)
      (scaled_way tail head (least -ℤ int_min least s.most) steps cap c)

  scaled_cap : (reach : ℤ) (most : Option ℤ) → last_cap (k *ℤ reach) (option_map (λ m. k *ℤ m) most) ≡ k *ℤ last_cap reach most
  scaled_cap reach (Some m) = refl
  scaled_cap reach None = refl

  scaled_back : (both : Bool) (tail head : ℕ) (steps : List Step) (cap c : ℤ)
      → way_back both tail head (map (scaled_step k) steps) (k *ℤ cap) c ≡ map scaled_arc (way_back both tail head steps cap c)
  scaled_back true tail head steps cap c =
      ap (λ z. way head tail z (map (scaled_step k) steps) (k *ℤ cap) c) (sym (mul-zero k)) ∙ scaled_way head tail (pos 0) steps cap c
  scaled_back false tail head steps cap c = refl

  pub scaled_arcs : (reach : ℤ) (routes : List Route) → arcs_of (k *ℤ reach) (map (scaled_route k) routes) ≡ map scaled_arc (arcs_of reach routes)
  scaled_arcs reach [] = refl
  scaled_arcs reach (r ∷ routes) =
      let cap = last_cap reach r.last_most in
      let e1 = ap (λ z. way r.tail r.head (k *ℤ r.least) (map (scaled_step k) r.steps) z r.last_cost) (scaled_cap reach r.last_most)
      ∙ scaled_way r.tail r.head r.least r.steps cap r.last_cost in
      let e2 = ap (λ z. way_back r.both r.tail r.head (map (scaled_step k) r.steps) z r.last_cost) (scaled_cap reach r.last_most)
      ∙ scaled_back r.both r.tail r.head r.steps cap r.last_cost in
      ap (λ xs. xs ++ (back (k *ℤ reach) (scaled_route k r) ++ arcs_of (k *ℤ reach) (map (scaled_route k) routes))) e1
      ∙ ap (λ xs. map scaled_arc (there reach r) ++ (xs ++ arcs_of (k *ℤ reach) (map (scaled_route k) routes))) e2
      ∙ ap (λ xs. map scaled_arc (there reach r) ++ (map scaled_arc (back reach r) ++ xs)) (scaled_arcs reach routes)
      ∙ ap (λ xs. map scaled_arc (there reach r) ++ xs) (sym (map-append scaled_arc (back reach r) (arcs_of reach routes)))
      ∙ sym (map-append scaled_arc (there reach r) (back reach r ++ arcs_of reach routes))

  -- ---- flows

  pub scaled_bounds : (arcs : List Arc) (flow : List ℤ) → IsWithinBounds arcs flow → IsWithinBounds (map scaled_arc arcs) (map times flow)
  scaled_bounds [] [] h = tt
  scaled_bounds [] (f ∷ flow) h = absurd h
  scaled_bounds (a ∷ arcs) [] h = absurd h
  scaled_bounds (a ∷ arcs) (f ∷ flow) h =
      ((mul-mono k a.low f k0 h.0.0, mul-mono k f a.cap k0 h.0.1), scaled_bounds arcs flow h.1)

  pub scaled_shows : (prices : List ℤ) (arcs : List Arc) (flow : List ℤ) → Shows arcs prices flow → Shows (map scaled_arc arcs) prices (map times flow)
  scaled_shows prices [] [] h = tt
  scaled_shows prices [] (f ∷ flow) h = absurd h
  scaled_shows prices (a ∷ arcs) [] h = absurd h
  scaled_shows prices (a ∷ arcs) (f ∷ flow) h =
      (((λ x. ap times (h.0.0 x)), (λ x. ap times (h.0.1 x))), scaled_shows prices arcs flow h.1)

  when_times : (b : Bool) (f : ℤ) → when b (k *ℤ f) ≡ k *ℤ when b f
  when_times true f = refl
  when_times false f = sym (mul-zero k)

  scaled_sum : (t : Arc → Bool) (arcs : List Arc) (flow : List ℤ) → ((a : Arc) → t (scaled_arc a) ≡ t a)
      → flow_sum (λ a f. when (t a) f) (map scaled_arc arcs) (map times flow) ≡ k *ℤ flow_sum (λ a f. when (t a) f) arcs flow
  scaled_sum t [] flow e = sym (mul-zero k)
  scaled_sum t (a ∷ arcs) [] e = sym (mul-zero k)
  scaled_sum t (a ∷ arcs) (f ∷ flow) e =
      omega (
        arith,
        ints,
        ap (λ b. when b (k *ℤ f)) (e a),
        when_times (t a) f,
        scaled_sum t arcs flow e,
        mul-add k (when (t a) f) (flow_sum (λ a f. when (t a) f) arcs flow),
      )

  pub scaled_net : (arcs : List Arc) (flow : List ℤ) (v : ℕ) → net (map scaled_arc arcs) (map times flow) v ≡ k *ℤ net arcs flow v
  scaled_net arcs flow v =
      omega (
        arith,
        ints,
        scaled_sum (λ a. eqb a.src v) arcs flow (λ a. refl),
        scaled_sum (λ a. eqb a.dst v) arcs flow (λ a. refl),
        mul-sub k (flow_sum (λ a f. when (eqb a.src v) f) arcs flow) (flow_sum (λ a f. when (eqb a.dst v) f) arcs flow),
      )

  pub scaled_supply : (xs : List ℤ) (v : ℕ) → at_node (map times xs) v ≡ k *ℤ at_node xs v
  scaled_supply xs v = at xs (v - 1)
    where
      at : (xs : List ℤ) (i : ℕ) → slice_index_or (map times xs) i (pos 0) ≡ k *ℤ slice_index_or xs i (pos 0)
      at [] i = sym (mul-zero k)
      at (x ∷ xs) zero = refl
      at (x ∷ xs) (suc i) = at xs i

  -- ---- what the model keeps

  same_costs : (c : ℤ) (steps : List Step) (last : ℤ) → CostAtLeast c steps last → CostAtLeast c (map (scaled_step k) steps) last
  same_costs c [] last h = h
  same_costs c (s ∷ steps) last h = (h.0, same_costs c steps last h.1)

  same_rises : (steps : List Step) (last : ℤ) → Rises steps last → Rises (map (scaled_step k) steps) last
  same_rises [] last h = h
  same_rises (s ∷ steps) last h = (same_costs s.cost steps last h.0, same_rises steps last h.1)

  not_negative : (x : ℤ) → pos 0 ≤ℤ x → pos 0 ≤ℤ (k *ℤ x)
  not_negative x h = omega (arith, ints, mul-mono k (pos 0) x k0 h, mul-zero k)

  same_rooms : (steps : List Step) (most : Option ℤ) → AreRooms steps most → AreRooms (map (scaled_step k) steps) (option_map (λ m. k *ℤ m) most)
  same_rooms [] (Some m) h = not_negative m h
  same_rooms [] None h = h
  same_rooms (s ∷ steps) most h = (not_negative s.most h.0, same_rooms steps most h.1)

  same_adds : (steps : List Step) (most : Option ℤ) → Adds steps most → Adds (map (scaled_step k) steps) (option_map (λ m. k *ℤ m) most)
  same_adds [] most h = h
  same_adds (s ∷ steps) most h = same_rooms steps most h

  same_both : (both : Bool) (least : ℤ) (steps : List Step) (most : Option ℤ) (c : ℤ) → MayBeBoth both least steps most c
      → MayBeBoth both (k *ℤ least) (map (scaled_step k) steps) (option_map (λ m. k *ℤ m) most) c
  same_both false least steps most c h = tt
  same_both true least steps most c h = (ap times h.0 ∙ mul-zero k, same_costs (pos 0) steps c h.1, same_rooms steps most h.2)

  pub scaled_sound : (places : ℕ) (routes : List Route) → All (IsSoundRoute places) routes → All (IsSoundRoute places) (map (scaled_route k) routes)
  scaled_sound places [] h = λ i d x. absurd (omega arith)
  scaled_sound places (r ∷ routes) h =
      let s = All-head (IsSoundRoute places) r routes h in
      All-cons (IsSoundRoute places) (scaled_route k r) (map (scaled_route k) routes)
      (record {
        tail_is_place = s.tail_is_place;
        head_is_place = s.head_is_place;
        rises = same_rises r.steps r.last_cost s.rises;
        adds = same_adds r.steps r.last_most s.adds;
        may_be_both = same_both r.both r.least r.steps r.last_most r.last_cost s.may_be_both;
      })
      (scaled_sound places routes (All-tail (IsSoundRoute places) r routes h))

  -- ---- the plan

  length-scaled : (steps : List Step) → way_length (map (scaled_step k) steps) ≡ way_length steps
  length-scaled [] = refl
  length-scaled (s ∷ steps) = ap suc (length-scaled steps)

  back-scaled : (both : Bool) (steps : List Step) → back_length both (map (scaled_step k) steps) ≡ back_length both steps
  back-scaled true steps = length-scaled steps
  back-scaled false steps = refl

  take-times : (n : ℕ) (xs : List ℤ) → take n (map times xs) ≡ map times (take n xs)
  take-times zero xs = refl
  take-times (suc n) [] = refl
  take-times (suc n) (x ∷ xs) = ap (λ ys. (k *ℤ x) ∷ ys) (take-times n xs)

  drop-times : (n : ℕ) (xs : List ℤ) → drop n (map times xs) ≡ map times (drop n xs)
  drop-times zero xs = refl
  drop-times (suc n) [] = refl
  drop-times (suc n) (x ∷ xs) = drop-times n xs

  added-times : (xs : List ℤ) → added (map times xs) ≡ k *ℤ added xs
  added-times [] = sym (mul-zero k)
  added-times (x ∷ xs) = omega (arith, ints, added-times xs, mul-add k x (added xs))

  pub scaled_plan : (routes : List Route) (flow : List ℤ) → plan_of (map (scaled_route k) routes) (map times flow) ≡ map times (plan_of routes flow)
  scaled_plan [] flow = refl
  scaled_plan (r ∷ routes) flow =
      let w = way_length r.steps in
      let b = back_length r.both r.steps in
      let rest = drop-times w flow in
      let first : added (take w (map times flow)) ≡ k *ℤ added (take w flow) = ap added (take-times w flow) ∙ added-times (take w flow) in
      let home : added (take b (drop w (map times flow))) ≡ k *ℤ added (take b (drop w flow)) =
      ap (λ xs. added (take b xs)) rest ∙ ap added (take-times b (drop w flow)) ∙ added-times (take b (drop w flow)) in
      let value : (added (take w (map times flow)) -ℤ added (take b (drop w (map times flow)))) ≡ k *ℤ (added (take w flow) -ℤ added (take b (drop w flow))) =
      omega (arith, ints, first, home, mul-sub k (added (take w flow)) (added (take b (drop w flow)))) in
      rw (length-scaled r.steps, back-scaled r.both r.steps)
      (ap (λ x. x ∷ plan_of (map (scaled_route k) routes) (drop b (drop w (map times flow)))) value
      ∙ ap (λ xs. (k *ℤ (added (take w flow) -ℤ added (take b (drop w flow)))) ∷ xs)
      (ap (λ ys. plan_of (map (scaled_route k) routes) (drop b ys)) rest ∙ ap (plan_of (map (scaled_route k) routes)) (drop-times b (drop w flow))
      ∙ scaled_plan routes (drop b (drop w flow))))
