-- Bottlenecks of a problem's model, told of the problem's places.
use Rattle.std.proofs.Common.{◌≡◌, ℕ, suc, ◌+◌, ◌-◌, Bool, true, false, ◌&&◌, List, [], ◌∷◌, ◌++◌, IsTrue, get_or, length, map, refl, ap, sym, ◌∙◌, subst, arith, ℤ, pos, ◌≤ℤ◌}
use Rattle.std.specs.Prelude.{Option, Some, None, not, option_map}
use Rattle.std.specs.List.{range_with_len}
use Rattle.std.proofs.lemmas.Int.{ints}
use Rattle.std.proofs.lemmas.List.{length-map}
use Rattle.std.proofs.lemmas.List.FromFn.{get_or-map-range_with_len, length-map-range_with_len, map-range_with_len_more}
use Rattle.mcf_flows.specs.declared.problem.Side.{Side}
use Rattle.mcf_flows.specs.declared.problem.Side.TheVariants.{Send, Take}
use Rattle.mcf_flows.specs.Blocking.{in_list, in_table}
use Rattle.mcf_flows.specs.Network.{IsNode, when}
use Rattle.mcf_model.specs.declared.planning.Bottleneck.{Bottleneck}
use Rattle.mcf_model.specs.Bottlenecks.{IsBottleneck, IsLimitedAcross, least_across, limit_or_zero, most_across, route_sum}
use Rattle.mcf_model.specs.Model.{Route}
use Rattle.mcf_places.specs.declared.places.Bounds.{Bounds}
use Rattle.mcf_places.specs.declared.places.Place.{Place}
use Rattle.mcf_places.specs.declared.told.PlannerBottleneck.{PlannerBottleneck}
use Rattle.mcf_places.specs.Answers.{HasNoPlannerPlan, IsToldBottleneck, set_in}
use Rattle.mcf_places.specs.FinerPlanners.{finer}
use Rattle.mcf_places.specs.Models.{exit_of, hub_of, model_of, supplies_of}
use Rattle.mcf_places.specs.PlannerBottlenecks.{IsPlannerBottleneck, IsStuck, IsWhole, PlaceSet, PlannerBottlenecksHaveNoPlan, through_least, through_most}
use Rattle.mcf_places.specs.PlannerFaults.{IsLimitedThrough}
use Rattle.mcf_places.specs.PlannerLaws.{IsSound}
use Rattle.mcf_places.specs.Planners.{IsPlan, Plan, Planner, all_wanted, given, place_sum, wanted}
use Rattle.mcf_places.specs.Shortage.{free_bounds, free_place, free_route, shortage_of}
use Rattle.mcf_model.specs.Complements.{side_told, turned_if}
use Rattle.mcf_places.specs.Told.{entries_told, exits_told}
use Rattle.mcf_places.proofs.FinerCuts.{bottleneck_times}
use Rattle.mcf_places.proofs.FinerModels.{sound_finer}
use Rattle.mcf_places.proofs.PlaceCuts.{route_sum-map}
use Rattle.mcf_places.proofs.PlannerCuts.{told_send, told_take, turned_send, turned_take, unmapped}
use Rattle.mcf_places.proofs.ProperModels.{exit_is_place}
use Rattle.mcf_places.proofs.Shortages.{each_unmapped, free_room, place_sum-map, plan_free}
use Rattle.mcf_places.proofs.Sides.{supplies_long}

-- ---- what the tables say

module _ (P : Planner) (found : Bottleneck) (made : PlannerBottleneck) (table : List Bool) (turned : Bool)
    (marks : (v : ℕ) → IsNode (length (supplies_of P.places)) v → in_table table v ≡ in_list found.places.items v)
    (turned_is : turned ≡ in_table table (hub_of P.places))
    (entries_are : made.entries.items ≡ entries_told turned table P.places) (exits_are : made.exits.items ≡ exits_told turned table P.places)
    (side_is : made.side ≡ side_told turned found.side) where
  hub_told : turned ≡ in_list found.places.items (hub_of P.places)
  hub_told = turned_is ∙ marks (hub_of P.places) (omega arith, omega (arith, supplies_long P.places))

  entry_is_node : (v : ℕ) → IsNode (length P.places) v → IsNode (length (supplies_of P.places)) v
  entry_is_node v k = (k.0, omega (arith, k, supplies_long P.places))

  read_at : (f : ℕ → Bool) (items : List Bool) → items ≡ map f (range_with_len 1 (length P.places)) → (v : ℕ) → IsNode (length P.places) v → in_table items v ≡ f v
  read_at f items e v k =
      ap (λ xs. get_or xs (v - 1) false) e
      ∙ get_or-map-range_with_len f 1 (length P.places) (v - 1) v false (omega (arith, k)) (omega (arith, k))

  pub told_is : IsToldBottleneck P found made
  told_is =
      record {
        entry_by_place = ap length entries_are ∙ length-map-range_with_len (λ v. turned_if turned (in_table table v)) 1 (length P.places);
        exit_by_place = ap length exits_are ∙ length-map-range_with_len (λ v. turned_if turned (in_table table (exit_of P.places v))) 1 (length P.places);
        entries = λ v k. read_at (λ v. turned_if turned (in_table table v)) made.entries.items entries_are v k
            ∙ ap (turned_if turned) (marks v (entry_is_node v k)) ∙ ap (λ t. turned_if t (in_list found.places.items v)) hub_told;
        exits = λ v k. read_at (λ v. turned_if turned (in_table table (exit_of P.places v))) made.exits.items exits_are v k
            ∙ ap (turned_if turned) (marks (exit_of P.places v) (exit_is_place (pos 0) P v k))
            ∙ ap (λ t. turned_if t (in_list found.places.items (exit_of P.places v))) hub_told;
        side = side_is ∙ ap (λ t. side_told t found.side) hub_told;
      }

-- one more test of a list
pub test_more : (f : ℕ → Bool) (old more : List Bool) (i : ℕ) (b : Bool) → old ≡ map f (range_with_len 1 i) → more ≡ old ++ b ∷ [] → b ≡ f (i + 1)
    → more ≡ map f (range_with_len 1 (i + 1))
test_more f old more i b e is b_is =
    is ∙ ap (λ xs. xs ++ b ∷ []) e ∙ ap (λ y. map f (range_with_len 1 i) ++ y ∷ []) b_is ∙ sym (map-range_with_len_more f 1 i (i + 1) (omega arith))

-- the entry of a table for a place
pub test_at : (table : List Bool) (i : ℕ) → get_or table i false ≡ in_table table (i + 1)
test_at table i = let e : i ≡ i + 1 - 1 = omega arith in ap (λ j. get_or table j false) e

-- ---- what they mean

pub told_bottleneck : (most : ℤ) (P : Planner) (found : Bottleneck) (made : PlannerBottleneck) → IsSound P → most ≡ when P.policy.short (all_wanted P.places)
    → IsBottleneck (model_of most P) (in_list found.places.items) found.side → IsToldBottleneck P found made → IsPlannerBottleneck P (set_in made) made.side
told_bottleneck most P found made sound e h told =
    go (in_list found.places.items (hub_of P.places)) refl told.entries told.exits found.side h made.side told.side
  where
    go : (t : Bool) → in_list found.places.items (hub_of P.places) ≡ t
        → ((v : ℕ) → IsNode (length P.places) v → in_table made.entries.items v ≡ turned_if t (in_list found.places.items v))
        → ((v : ℕ) → IsNode (length P.places) v → in_table made.exits.items v ≡ turned_if t (in_list found.places.items (exit_of P.places v)))
        → (side : Side) → IsBottleneck (model_of most P) (in_list found.places.items) side → (got : Side) → got ≡ side_told t side
        → IsPlannerBottleneck P (set_in made) got
    go false hub entries exits Send k got is =
        subst (IsPlannerBottleneck P (set_in made)) (sym is)
        (told_send most P sound (in_list found.places.items) (set_in made) (record { hub = hub; entries = entries; exits = exits }) k)
    go false hub entries exits Take k got is =
        subst (IsPlannerBottleneck P (set_in made)) (sym is)
        (told_take most P sound (in_list found.places.items) (set_in made) (record { hub = hub; entries = entries; exits = exits }) e k)
    go true hub entries exits Send k got is =
        subst (IsPlannerBottleneck P (set_in made)) (sym is)
        (told_take most P sound (λ v. not (in_list found.places.items v)) (set_in made) (record { hub = ap not hub; entries = entries; exits = exits }) e
        (turned_send most P (in_list found.places.items) k))
    go true hub entries exits Take k got is =
        subst (IsPlannerBottleneck P (set_in made)) (sym is)
        (told_send most P sound (λ v. not (in_list found.places.items v)) (set_in made) (record { hub = ap not hub; entries = entries; exits = exits })
        (turned_take most P (in_list found.places.items) k))

-- ---- a bottleneck where only what is missing costs something

module _ (P : Planner) (s : PlaceSet) where
  whole_unfree : (v : ℕ) (o : Option Bounds) → IsWhole s v (option_map free_bounds o) → IsWhole s v o
  whole_unfree v (Some b) h = h
  whole_unfree v None h = h

  limited_unfree : (o : Option Bounds) → IsLimitedThrough (option_map free_bounds o) → IsLimitedThrough o
  limited_unfree (Some b) h = h
  limited_unfree None h = h

  most_free : (o : Option Bounds) → through_most (option_map free_bounds o) ≡ through_most o
  most_free (Some b) = refl
  most_free None = refl

  least_free : (o : Option Bounds) → through_least (option_map free_bounds o) ≡ through_least o
  least_free (Some b) = refl
  least_free None = refl

  across_free : (d : ℕ → ℕ → Bool) (rs : List Route) → route_sum (most_across d) (map free_route rs) ≡ route_sum (most_across d) rs
  across_free d [] = refl
  across_free d (r ∷ rs) =
      omega (
        arith,
        ints,
        ap (when (d r.tail r.head)) (free_room r.steps (limit_or_zero r.last_most)),
        ap (when (r.both && d r.head r.tail)) (free_room r.steps (limit_or_zero r.last_most)),
        across_free d rs,
      )

  through_free_sum : (t : Option Bounds → ℤ) (b : ℕ → Bool) → ((o : Option Bounds) → t (option_map free_bounds o) ≡ t o) → (v : ℕ) (ps : List Place)
      → place_sum (λ j p. when (b j) (t p.through)) v (map free_place ps) ≡ place_sum (λ j p. when (b j) (t p.through)) v ps
  through_free_sum t b e v [] = refl
  through_free_sum t b e v (p ∷ ps) = omega (arith, ints, ap (when (b v)) (e p.through), through_free_sum t b e (suc v) ps)

  stuck_unfree : (away here : ℕ → ℕ → Bool) (through_away through_here : ℕ → Bool) (must may must' may' : ℤ) → must' ≡ must → may' ≡ may
      → IsStuck (shortage_of P) s away here through_away through_here must' may' → IsStuck P s away here through_away through_here must may
  stuck_unfree away here ta th must may must' may' e f h =
      record {
        whole = each_unmapped (λ v p. IsWhole s v p.through) (λ v p. IsWhole s v p.through) free_place (λ v p k. whole_unfree v p.through k) 1 P.places h.whole;
        routes_limited = unmapped (IsLimitedAcross away) free_route P.routes h.routes_limited;
        places_limited = each_unmapped (λ v p. IsTrue (ta v) → IsLimitedThrough p.through) (λ v p. IsTrue (ta v) → IsLimitedThrough p.through) free_place
            (λ v p k t. limited_unfree p.through (k t)) 1 P.places h.places_limited;
        short = omega (
          arith,
          ints,
          h.short,
          e,
          f,
          across_free away P.routes,
          route_sum-map (least_across here) free_route P.routes,
          through_free_sum through_most ta most_free 1 P.places,
          through_free_sum through_least th least_free 1 P.places,
        );
      }

  pub bottleneck_unfree : (side : Side) → IsPlannerBottleneck (shortage_of P) s side → IsPlannerBottleneck P s side
  bottleneck_unfree side h =
      let g = place_sum-map (λ v p. when (s.entries v) (given p)) free_place 1 P.places in
      let w = place_sum-map (λ v p. when (s.exits v) (wanted p)) free_place 1 P.places in
      go side h g w
    where
      go : (side : Side) → IsPlannerBottleneck (shortage_of P) s side
          → place_sum (λ v p. when (s.entries v) (given p)) 1 (map free_place P.places) ≡ place_sum (λ v p. when (s.entries v) (given p)) 1 P.places
          → place_sum (λ v p. when (s.exits v) (wanted p)) 1 (map free_place P.places) ≡ place_sum (λ v p. when (s.exits v) (wanted p)) 1 P.places
          → IsPlannerBottleneck P s side
      go Send h g w = stuck_unfree _ _ _ _ _ _ _ _ (omega (arith, ints, g, w)) (ap (when P.policy.unused) g) h
      go Take h g w = stuck_unfree _ _ _ _ _ _ _ _ (omega (arith, ints, g, w)) (ap (when P.policy.short) w) h

-- a bottleneck excludes plans in finer units, too
pub none_finer : PlannerBottlenecksHaveNoPlan → (P : Planner) (made : PlannerBottleneck) → IsSound P → IsPlannerBottleneck P (set_in made) made.side
    → (k : ℤ) (x : Plan) → pos 1 ≤ℤ k → ¬ IsPlan (finer k P) x
none_finer law P made sound stuck k x k1 =
    law (finer k P) (set_in made) made.side x (sound_finer k k1 P sound) (bottleneck_times k k1 P (set_in made) made.side stuck)

pub no_plan_unfree : PlannerBottlenecksHaveNoPlan → (P : Planner) (made : PlannerBottleneck) → IsSound P → HasNoPlannerPlan (shortage_of P) made
    → HasNoPlannerPlan P made
no_plan_unfree law P made sound h =
    let stuck = bottleneck_unfree P (set_in made) made.side h.is_bottleneck in
    record {
      entry_by_place = h.entry_by_place ∙ length-map P.places free_place;
      exit_by_place = h.exit_by_place ∙ length-map P.places free_place;
      is_bottleneck = stuck;
      none = λ x is. h.none x (plan_free P x is);
      none_in_finer_units = λ k x k1. none_finer law P made sound stuck k x k1;
    }
