-- The origins of a model's arcs are rows of the table of routes.
use Rattle.std.proofs.Common.{◌≡◌, ℕ, zero, suc, ◌+◌, ◌-◌, ◌<◌, ◌≤◌, Bool, true, false, List, [], ◌∷◌, length, get_or, refl, arith}
use Rattle.std.specs.Prelude.{if◌then◌else◌, nat_le, replicate, ℤ, Option, Some, None}
use Rattle.std.specs.List.{All}
use Rattle.std.proofs.lemmas.List.Elements.{All-append, All-cons, All-replicate}
use Rattle.mcf_flows.specs.Network.{IsNode}
use Rattle.mcf_model.specs.Model.{Route}
use Rattle.mcf_places.specs.declared.origins.Origin.{Origin}
use Rattle.mcf_places.specs.declared.origins.Origin.TheVariants.{OfAll, OfPenalty, OfPlace, OfRoute}
use Rattle.mcf_places.specs.declared.places.Place.{Place}
use Rattle.mcf_places.specs.declared.places.Policy.{Policy}
use Rattle.mcf_places.specs.declared.rows.Kind.{Kind}
use Rattle.mcf_places.specs.declared.rows.Kind.TheVariants.{Through, Stay, Missing}
use Rattle.mcf_places.specs.Kinds.{kind_has}
use Rattle.mcf_places.specs.Origins.{IsRowOrigin, arc_count, arc_origins, kind_origin, one_if, penalty_origin, place_origins, route_origins, row_of, row_origin}
use Rattle.mcf_places.specs.PlannerFaults.{IsProperPlanner}
use Rattle.mcf_places.specs.Planners.{Planner, row_count}

-- a route that is named is one of so many
abbrev IsRouteOrigin : ℕ → Origin → Type 0
IsRouteOrigin n (OfRoute v) = IsNode n v
IsRouteOrigin n (OfPlace v) = Unit {0}
IsRouteOrigin n (OfPenalty v) = Unit {0}
IsRouteOrigin n OfAll = Unit {0}

item_all : {X : Type 0} (Q : X → Type 0) (xs : List X) (i : ℕ) (d : X) → All Q xs → Q d → Q (get_or xs i d)
item_all Q [] i d h k = k
item_all Q (x ∷ xs) zero d h k = h 0 d (omega arith)
item_all Q (x ∷ xs) (suc i) d h k = item_all Q xs i d (λ j e l. h (suc j) e (omega (arith, l))) k

routes_inside : (n v : ℕ) (rs : List Route) → 1 ≤ v → v + length rs ≤ n + 1 → All (IsRouteOrigin n) (route_origins v rs)
routes_inside n v [] a b = λ k d l. absurd (omega arith)
routes_inside n v (r ∷ rs) a b =
    All-append (IsRouteOrigin n) (replicate (arc_count r) (OfRoute v)) (route_origins (suc v) rs)
    (All-replicate (IsRouteOrigin n) (arc_count r) (OfRoute v) (a, omega (arith, b))) (routes_inside n (suc v) rs (omega arith) (omega (arith, b)))

penalty_inside : (n v : ℕ) (o : Option ℤ) → IsRouteOrigin n (penalty_origin v o)
penalty_inside n v (Some penalty) = tt
penalty_inside n v None = tt

kind_inside : (n : ℕ) (kind : Kind) (v : ℕ) (p : Place) → IsRouteOrigin n (kind_origin kind v p)
kind_inside n Through v p = tt
kind_inside n Stay v p = tt
kind_inside n Missing v p = penalty_inside n v p.penalty

places_inside : (n : ℕ) (kind : Kind) (policy : Policy) (v : ℕ) (ps : List Place) → All (IsRouteOrigin n) (place_origins kind policy v ps)
places_inside n kind policy v [] = λ k d l. absurd (omega arith)
places_inside n kind policy v (p ∷ ps) =
    All-append (IsRouteOrigin n) (replicate (one_if (kind_has kind policy p)) (kind_origin kind v p)) (place_origins kind policy (suc v) ps)
    (All-replicate (IsRouteOrigin n) (one_if (kind_has kind policy p)) (kind_origin kind v p) (kind_inside n kind v p))
    (places_inside n kind policy (suc v) ps)

module _ (P : Planner) where
  abbrev Q : Origin → Type 0
  Q = IsRouteOrigin (length P.routes)

  arcs_inside : All Q (arc_origins P)
  arcs_inside =
      All-append Q (route_origins 1 P.routes) _ (routes_inside (length P.routes) 1 P.routes (omega arith) (omega arith))
      (All-append Q (place_origins Through P.policy 1 P.places) _ (places_inside (length P.routes) Through P.policy 1 P.places)
      (All-append Q (place_origins Stay P.policy 1 P.places) _ (places_inside (length P.routes) Stay P.policy 1 P.places)
      (All-append Q (place_origins Missing P.policy 1 P.places) (OfAll ∷ [])
      (places_inside (length P.routes) Missing P.policy 1 P.places) (All-cons Q OfAll [] tt (λ k d l. absurd (omega arith))))))

  row_inside : IsProperPlanner P → (v : ℕ) → IsNode (length P.routes) v → IsNode (row_count P) (row_of P v)
  row_inside proper v h = go (nat_le v (row_count P)) refl
    where
      go : (b : Bool) → nat_le v (row_count P) ≡ b → IsNode (row_count P) (if b then v else get_or P.returning (v - row_count P - 1) 0)
      go true e = (h.0, grind arith)
      go false e =
          let above : row_count P < v = grind arith in
          proper.returning_rows (v - row_count P - 1) 0 (omega (arith, above, h, proper.few_returning))

  in_rows : IsProperPlanner P → (o : Origin) → Q o → IsRowOrigin P (row_origin P o)
  in_rows proper (OfRoute v) h = row_inside proper v h
  in_rows proper (OfPlace v) h = tt
  in_rows proper (OfPenalty v) h = tt
  in_rows proper OfAll h = tt

  pub arc_in_rows : IsProperPlanner P → (i : ℕ) → IsRowOrigin P (row_origin P (get_or (arc_origins P) i OfAll))
  arc_in_rows proper i = in_rows proper (get_or (arc_origins P) i OfAll) (item_all Q (arc_origins P) i OfAll arcs_inside tt)
