-- From what is told of the model of a problem to what is told of the problem.
use Rattle.std.proofs.Common.{◌≡◌, ℕ, zero, suc, ◌-◌, List, [], ◌∷◌, ◌++◌, length, map, get_or, refl, ap, sym, ◌∙◌, subst, arith, ℤ, pos, ◌≤ℤ◌, length-append}
use Rattle.std.specs.Prelude.{Option, Some, None, IfSome, ◌↔◌, ◌&&◌, ◌||◌, false, option_map}
use Rattle.std.specs.List.{All}
use Rattle.std.specs.Option.{is_some}
use Rattle.std.proofs.lemmas.List.{length-map}
use Rattle.mcf_flows.specs.Network.{IsNode}
use Rattle.mcf_model.specs.Model.{IsSoundRoute, Model, Route}
use Rattle.mcf_model.specs.Tables.{IsRouteNumber}
use Rattle.mcf_figures.specs.FigureLaws.{IsPriced}
use Rattle.mcf_places.specs.declared.answering.LeastPlannerPlan.{LeastPlannerPlan}
use Rattle.mcf_places.specs.declared.places.Bounds.{Bounds}
use Rattle.mcf_places.specs.declared.places.Place.{Place}
use Rattle.mcf_places.specs.Answers.{IsShownIn}
use Rattle.mcf_places.specs.LimitedPlanners.{limit_for, limited, limited_bounds, limited_place}
use Rattle.mcf_places.specs.Models.{entry_supply, exit_by, exit_of, exit_supply, from_exit, gate_route, hub_supply, missings, model_of, place_at, some_bounds, stayings, throughs, with_exits}
use Rattle.mcf_places.specs.PlannerLaws.{IsSound, ReturnsFreely, SoundPlannersHaveSoundModels, has_bounds}
use Rattle.mcf_places.specs.Planners.{Planner}
use Rattle.mcf_unit_ranges.specs.PlannerUnits.{IsRouteRange, IsUnitsRangeBetween, RouteSavingsAreTheModels, UnitsAreTheModels}
use Rattle.mcf_unit_ranges.specs.Told.{IsRangeAt, IsRoomRangeAt}
use Rattle.mcf_unit_ranges.specs.UnitRanges.{HoldsFor, SavingHoldsFor}

-- ---- limits

-- the place with a number, among places that are mapped
mapped : (f : Place → Place) (p : Place) (places : List Place) (i : ℕ) → f p ≡ p → get_or (map f places) i p ≡ f (get_or places i p)
mapped f p [] i e = sym e
mapped f p (q ∷ places) zero e = refl
mapped f p (q ∷ places) (suc i) e = mapped f p places i e

through_limited : (limit : Option ℤ) (places : List Place) (v : ℕ)
    → (place_at (map (limited_place limit) places) v).through ≡ option_map (limited_bounds limit) (place_at places v).through
through_limited limit places v =
    ap (λ (p : Place). p.through) (mapped (limited_place limit) (record { supply = pos 0; through = None; penalty = None }) places (v - 1) refl)

limited_some : (limit : Option ℤ) (o : Option Bounds) → is_some (option_map (limited_bounds limit) o) ≡ is_some o
limited_some limit (Some b) = refl
limited_some limit None = refl

bounds_still : (limit : Option ℤ) (places : List Place) (v : ℕ) → has_bounds (map (limited_place limit) places) v ≡ has_bounds places v
bounds_still limit places v = ap is_some (through_limited limit places v) ∙ limited_some limit (place_at places v).through

freely_still : (limit : Option ℤ) (places : List Place) (r : Route) → ReturnsFreely places r ≡ ReturnsFreely (map (limited_place limit) places) r
freely_still limit places r =
    ap (λ b. (r.both && (b || has_bounds places r.head)) ≡ false) (sym (bounds_still limit places r.tail))
    ∙ ap (λ b. (r.both && (has_bounds (map (limited_place limit) places) r.tail || b)) ≡ false) (sym (bounds_still limit places r.head))

as_many : (P : Planner) → length (limited P).places ≡ length P.places
as_many P = length-map P.places (limited_place (limit_for P))

sound_limited : (P : Planner) → IsSound P → IsSound (limited P)
sound_limited P h =
    record {
      routes = subst (λ n. All (IsSoundRoute n) P.routes) (sym (as_many P)) h.routes;
      return_freely = λ i d k. subst (λ (T : Type 0). T) (freely_still (limit_for P) P.places (get_or P.routes i d)) (h.return_freely i d k);
    }

exit_limited : (limit : Option ℤ) (n v : ℕ) (o : Option Bounds) → exit_by n v (option_map (limited_bounds limit) o) ≡ exit_by n v o
exit_limited limit n v (Some b) = refl
exit_limited limit n v None = refl

pub same_exit : (P : Planner) (v : ℕ) → exit_of (limited P).places v ≡ exit_of P.places v
same_exit P v =
    ap (λ n. exit_by n v (place_at (limited P).places v).through) (as_many P) ∙ ap (exit_by (length P.places) v) (through_limited (limit_for P) P.places v)
    ∙ exit_limited (limit_for P) (length P.places) v (place_at P.places v).through

-- ---- room on a route

module _ (P : Planner) (p : LeastPlannerPlan) (sound : IsSound P) (shown : IsShownIn (limited P) p) where
  abbrev prices : List ℤ
  prices = p.shown.prices.items

  abbrev carries : List ℤ
  carries = p.shown.carries.items

  priced : IsPriced p.shown.model prices carries
  priced = record { is_plan = shown.is_plan; shown = shown.shown }

  pub is_number : (k : ℕ) → IsNode (length P.routes) k → IsRouteNumber p.shown.model k
  is_number k hk =
      let Q = limited P in
      let own = map (from_exit Q.places) Q.routes in
      let others = throughs Q ++ (stayings Q ++ (missings Q ++ gate_route shown.most Q ∷ [])) in
      subst (λ m. IsRouteNumber m k) (sym shown.model_is) (hk.0, omega (arith, hk.1, length-append own others, length-map Q.routes (from_exit Q.places)))

  pub route_range : RouteSavingsAreTheModels → (k : ℕ) (o : Option ℤ) → IsNode (length P.routes) k → IsRoomRangeAt p.shown.model prices k o → IsRouteRange (limited P) p k o
  route_range law k o hk range most e d d0 =
      let there : IsPriced (model_of most (limited P)) prices carries = subst (λ m. IsPriced m prices carries) e priced in
      let its = subst (λ m. SavingHoldsFor m prices carries k d ↔ IfSome o (λ z. d ≤ℤ z)) e (range carries priced d d0) in
      let same = law most (limited P) prices carries k d (sound_limited P sound) there hk d0 in
      ((λ s. its.0 (same.0 s)), (λ le. same.1 (its.1 le)))

  -- ---- units between two places

  pub enters : (v : ℕ) → IsNode (length P.places) v → IsNode (length p.shown.model.supplies) v
  enters v h =
      let places = (limited P).places in
      let there : IsNode (length (model_of shown.most (limited P)).supplies) v = (
        h.0,
        omega (
          arith,
          h.1,
          as_many P,
          length-map places (λ (p : Place). entry_supply p.through p),
          length-append (map (λ (p : Place). entry_supply p.through p) places)
              (hub_supply places ∷ pos 0 ∷ map (λ (p : Place). exit_supply p.through p) (with_exits (some_bounds places) places)),
        ),
      ) in
      subst (λ (m : Model). IsNode (length m.supplies) v) (sym shown.model_is) there

  pub leaves : SoundPlannersHaveSoundModels → (v : ℕ) → IsNode (length P.places) v → IsNode (length p.shown.model.supplies) (exit_of P.places v)
  leaves models v h =
      let here : IsNode (length (limited P).places) v = (h.0, omega (arith, h.1, as_many P)) in
      subst (λ (m : Model). IsNode (length m.supplies) (exit_of P.places v)) (sym shown.model_is)
      (subst (λ x. IsNode (length (model_of shown.most (limited P)).supplies) x) (same_exit P v) (models.exit_is_place shown.most (limited P) v here))

  pub units_between : UnitsAreTheModels → (u w : ℕ) (o : Option ℤ) → IsNode (length P.places) u → IsNode (length P.places) w
      → IsRangeAt p.shown.model prices u (exit_of P.places w) o → IsUnitsRangeBetween (limited P) p u w o
  units_between law u w o hu hw range most e d d0 =
      let there : IsPriced (model_of most (limited P)) prices carries = subst (λ m. IsPriced m prices carries) e priced in
      let first = subst (λ m. HoldsFor m prices carries u (exit_of P.places w) d ↔ IfSome o (λ z. d ≤ℤ z)) e (range carries priced d d0) in
      let its = subst (λ x. HoldsFor (model_of most (limited P)) prices carries u x d ↔ IfSome o (λ z. d ≤ℤ z)) (sym (same_exit P w)) first in
      let same = law most (limited P) prices carries u w d (sound_limited P sound) there (hu.0, omega (arith, hu.1, as_many P)) (hw.0, omega (arith, hw.1, as_many P)) in
      ((λ s. its.0 (same.0 s)), (λ le. same.1 (its.1 le)))
