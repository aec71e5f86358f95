-- Sums over the routes and the places of a problem's model that a set cuts.
use Rattle.std.proofs.Common.{◌≡◌, ℕ, zero, suc, ◌+◌, Bool, true, false, List, [], ◌∷◌, ◌++◌, length, map, refl, ap, sym, ◌∙◌, arith, ℤ, pos, neg_ℤ, ◌+ℤ◌, ◌-ℤ◌}
use Rattle.std.specs.Prelude.{Option, Some, None, not}
use Rattle.std.specs.List.{All}
use Rattle.std.specs.Option.{is_some}
use Rattle.std.proofs.lemmas.Int.{ints, clamps}
use Rattle.std.proofs.lemmas.List.Elements.{All-head, All-tail}
use Rattle.mcf_flows.specs.Blocking.{supply_in}
use Rattle.mcf_flows.specs.Network.{IsNode, at_node, node_sum, when}
use Rattle.mcf_flows.proofs.NodeSums.{node_sum-add, node_sum-same}
use Rattle.mcf_model.specs.Bottlenecks.{route_sum}
use Rattle.mcf_model.specs.Model.{Route}
use Rattle.mcf_model.proofs.FaultTests.{or_false}
use Rattle.mcf_places.specs.declared.places.Bounds.{Bounds}
use Rattle.mcf_places.specs.declared.places.Place.{Place}
use Rattle.mcf_places.specs.Models.{entry_supply, exit_by, exit_of, exit_supply, from_exit, gate_of, gate_route, hub_of, hub_supply, missings, model_of, place_at, routes_by, some_bounds, stayings, supplies_of, throughs, with_exits, with_first}
use Rattle.mcf_places.specs.Planners.{EachPlace, Planner, given, place_sum, wanted}
use Rattle.mcf_places.proofs.Ends.{M, S, T}
use Rattle.mcf_places.proofs.MadeRoutes.{term_if}
use Rattle.mcf_places.proofs.PlaceSums.{each_from, each_map, place_sum-add, place_sum-same, place_sum-sub, place_sum-zero}
use Rattle.mcf_places.proofs.Sides.{supplies_long, supply_of_entry, supply_of_exit, supply_of_gate, supply_of_hub}

-- ---- sums over the model's routes

module _ (t : Route → ℤ) where
  pub route_sum-append : (rs more : List Route) → route_sum t (rs ++ more) ≡ route_sum t rs +ℤ route_sum t more
  route_sum-append [] more = omega (arith, ints)
  route_sum-append (r ∷ rs) more = omega (arith, ints, route_sum-append rs more)

  pub route_sum-map : (f : Route → Route) (rs : List Route) → route_sum t (map f rs) ≡ route_sum (λ r. t (f r)) rs
  route_sum-map f [] = refl
  route_sum-map f (r ∷ rs) = ap (λ z. t (f r) +ℤ z) (route_sum-map f rs)

  pub route_sum-same : (s : Route → ℤ) (R : Route → Type 0) → ((r : Route) → R r → t r ≡ s r) → (rs : List Route) → All R rs → route_sum t rs ≡ route_sum s rs
  route_sum-same s R e [] h = refl
  route_sum-same s R e (r ∷ rs) h = omega (arith, ints, e r (All-head R r rs h), route_sum-same s R e rs (All-tail R r rs h))

  pub route_sum-by : (make : ℕ → Place → Option Route) (v : ℕ) (ps : List Place)
      → route_sum t (routes_by make v ps) ≡ place_sum (λ j p. term_if (make j p) t) v ps
  route_sum-by make v [] = refl
  route_sum-by make v (p ∷ ps) = go (make v p) (route_sum-by make (suc v) ps)
    where
      go : (o : Option Route) → route_sum t (routes_by make (suc v) ps) ≡ place_sum (λ j q. term_if (make j q) t) (suc v) ps
          → route_sum t (with_first o (routes_by make (suc v) ps)) ≡ term_if o t +ℤ place_sum (λ j q. term_if (make j q) t) (suc v) ps
      go (Some r) later = ap (λ z. t r +ℤ z) later
      go None later = omega (arith, ints, later)

  pub whole_routes : (most : ℤ) (P : Planner) → route_sum t (model_of most P).routes
      ≡ route_sum (λ r. t (from_exit P.places r)) P.routes
      +ℤ (place_sum (λ j p. term_if (T P j p) t) 1 P.places
      +ℤ (place_sum (λ j p. term_if (S P j p) t) 1 P.places
      +ℤ (place_sum (λ j p. term_if (M P j p) t) 1 P.places +ℤ t (gate_route most P))))
  whole_routes most P =
      let G = gate_route most P ∷ [] in
      omega (
        arith,
        ints,
        route_sum-append (map (from_exit P.places) P.routes) (throughs P ++ (stayings P ++ (missings P ++ G))),
        route_sum-map (from_exit P.places) P.routes,
        route_sum-append (throughs P) (stayings P ++ (missings P ++ G)),
        route_sum-append (stayings P) (missings P ++ G),
        route_sum-append (missings P) G,
        route_sum-by (T P) 1 P.places,
        route_sum-by (S P) 1 P.places,
        route_sum-by (M P) 1 P.places,
      )

-- ---- sums over the model's places

node_sum-front : (f : ℕ → ℤ) (n : ℕ) → node_sum f (suc n) ≡ f 1 +ℤ node_sum (λ v. f (suc v)) n
node_sum-front f zero = omega (arith, ints)
node_sum-front f (suc n) = omega (arith, ints, node_sum-front f n)

nodes_are_places : (f : ℕ → ℤ) (ps : List Place) → node_sum f (length ps) ≡ place_sum (λ j p. f j) 1 ps
nodes_are_places f ps = go f 0 ps (λ v. let e : v ≡ 0 + v = omega arith in ap f e)
  where
    go : (g : ℕ → ℤ) (k : ℕ) (ps : List Place) → ((v : ℕ) → g v ≡ f (k + v)) → node_sum g (length ps) ≡ place_sum (λ j p. f j) (suc k) ps
    go g k [] e = refl
    go g k (p ∷ ps) e =
        let here : k + 1 ≡ suc k = omega arith in
        let later = go (λ v. g (suc v)) (suc k) ps (λ v. let next : k + suc v ≡ suc k + v = omega arith in e (suc v) ∙ ap f next) in
        omega (arith, ints, node_sum-front g (length ps), e 1, ap f here, later)

node_sum-split : (f : ℕ → ℤ) (a b : ℕ) → node_sum f (a + b) ≡ node_sum f a +ℤ node_sum (λ v. f (a + v)) b
node_sum-split f a zero = let e : a + 0 ≡ a = omega arith in omega (arith, ints, ap (node_sum f) e)
node_sum-split f a (suc b) =
    let e : a + suc b ≡ suc (a + b) = omega arith in
    omega (arith, ints, ap (node_sum f) e, ap f e, node_sum-split f a b)

-- a sum over all places of the model
pub whole_nodes : (f : ℕ → ℤ) (ps : List Place) → node_sum f (length (supplies_of ps))
    ≡ place_sum (λ j p. f j) 1 ps
    +ℤ (f (hub_of ps) +ℤ (f (gate_of ps) +ℤ place_sum (λ j p. f (length ps + 2 + j)) 1 (with_exits (some_bounds ps) ps)))
whole_nodes f ps =
    let m = length (with_exits (some_bounds ps) ps) in
    let one : length ps + 2 ≡ suc (length ps + 1) = omega arith in
    let two : length ps + 1 ≡ suc (length ps) = omega arith in
    let hub : f (length ps + 1) ≡ f (suc (length ps)) = ap f two in
    let gate : f (length ps + 2) ≡ f (suc (length ps + 1)) = ap f one in
    omega (
      arith,
      ints,
      ap (node_sum f) (supplies_long ps),
      node_sum-split f (length ps + 2) m,
      ap (node_sum f) one,
      ap (node_sum f) two,
      hub,
      gate,
      nodes_are_places f ps,
      nodes_are_places (λ v. f (length ps + 2 + v)) (with_exits (some_bounds ps) ps),
    )

-- ---- supplies

pub when-none : (b : Bool) → when b (pos 0) ≡ pos 0
when-none true = refl
when-none false = refl

when_parts : (e x : Bool) (o : Option Bounds) (p : Place) → (is_some o ≡ false → x ≡ e)
    → when e (entry_supply o p) +ℤ when x (exit_supply o p) ≡ when e (given p) -ℤ when x (wanted p)
when_parts true true (Some b) p h = omega (arith, ints)
when_parts true false (Some b) p h = omega (arith, ints)
when_parts false true (Some b) p h = omega (arith, ints)
when_parts false false (Some b) p h = omega (arith, ints)
when_parts true true None p h = omega (arith, ints, clamps)
when_parts true false None p h = cc (h refl)
when_parts false true None p h = cc (h refl)
when_parts false false None p h = omega (arith, ints)

unbounded : (ps : List Place) → some_bounds ps ≡ false → (v : ℕ) → EachPlace (λ j p. is_some p.through ≡ false) v ps
unbounded [] e v = tt
unbounded (p ∷ ps) e v = let both = or_false (is_some p.through) (some_bounds ps) e in (both.0, unbounded ps both.1 (suc v))

no_exit_supply : (o : Option Bounds) (p : Place) (b : Bool) → is_some o ≡ false → when b (exit_supply o p) ≡ pos 0
no_exit_supply (Some c) p b e = cc e
no_exit_supply None p true e = refl
no_exit_supply None p false e = refl

module _ (ps : List Place) (set : ℕ → Bool) where
  abbrev no_place : Place
  no_place = record { supply = pos 0; through = None; penalty = None }

  exits_sum : place_sum (λ j p. when (set (length ps + 2 + j)) (at_node (supplies_of ps) (length ps + 2 + j))) 1 (with_exits (some_bounds ps) ps)
      ≡ place_sum (λ j p. when (set (length ps + 2 + j)) (exit_supply p.through p)) 1 ps
  exits_sum = go (some_bounds ps) refl
    where
      go : (b : Bool) → some_bounds ps ≡ b
          → place_sum (λ j p. when (set (length ps + 2 + j)) (at_node (supplies_of ps) (length ps + 2 + j))) 1 (with_exits b ps)
          ≡ place_sum (λ j p. when (set (length ps + 2 + j)) (exit_supply p.through p)) 1 ps
      go true e =
          place_sum-same (λ j p. when (set (length ps + 2 + j)) (at_node (supplies_of ps) (length ps + 2 + j)))
          (λ j p. when (set (length ps + 2 + j)) (exit_supply p.through p)) 1 ps
          (each_from
          (λ j p. when (set (length ps + 2 + j)) (at_node (supplies_of ps) (length ps + 2 + j)) ≡ when (set (length ps + 2 + j)) (exit_supply p.through p)) 1
          ps no_place
          (λ w a b. let long : length (with_exits (some_bounds ps) ps) ≡ length ps = ap (λ c. length (with_exits c ps)) e in
          ap (when (set (length ps + 2 + w))) (supply_of_exit ps w a (omega (arith, b, long)))))
      go false e =
          sym (place_sum-zero (λ j p. when (set (length ps + 2 + j)) (exit_supply p.through p)) 1 ps
          (each_map (λ j p. is_some p.through ≡ false) (λ j p. when (set (length ps + 2 + j)) (exit_supply p.through p) ≡ pos 0)
          (λ j p none. no_exit_supply p.through p (set (length ps + 2 + j)) none) 1 ps (unbounded ps e 1)))

  entries_sum : place_sum (λ j p. when (set j) (at_node (supplies_of ps) j)) 1 ps ≡ place_sum (λ j p. when (set j) (entry_supply p.through p)) 1 ps
  entries_sum =
      place_sum-same (λ j p. when (set j) (at_node (supplies_of ps) j)) (λ j p. when (set j) (entry_supply p.through p)) 1 ps
      (each_from (λ j p. when (set j) (at_node (supplies_of ps) j) ≡ when (set j) (entry_supply p.through p)) 1 ps no_place
      (λ w a b. ap (when (set w)) (supply_of_entry ps w (a, omega (arith, b)))))

  -- the supply of a set, by entries and exits
  pub supply_by_places : supply_in (supplies_of ps) set
      ≡ place_sum (λ j p. when (set j) (entry_supply p.through p)) 1 ps
      +ℤ (when (set (hub_of ps)) (hub_supply ps) +ℤ place_sum (λ j p. when (set (length ps + 2 + j)) (exit_supply p.through p)) 1 ps)
  supply_by_places =
      let none : when (set (gate_of ps)) (at_node (supplies_of ps) (gate_of ps)) ≡ pos 0 =
      ap (when (set (gate_of ps))) (supply_of_gate ps) ∙ when-none (set (gate_of ps)) in
      omega (
        arith,
        ints,
        whole_nodes (λ v. when (set v) (at_node (supplies_of ps) v)) ps,
        ap (when (set (hub_of ps))) (supply_of_hub ps),
        none,
        entries_sum,
        exits_sum,
      )

  pub supply_told : (E X : ℕ → Bool) → set (hub_of ps) ≡ false → ((v : ℕ) → IsNode (length ps) v → E v ≡ set v)
      → ((v : ℕ) → IsNode (length ps) v → X v ≡ set (exit_of ps v))
      → supply_in (supplies_of ps) set ≡ place_sum (λ j p. when (E j) (given p)) 1 ps -ℤ place_sum (λ j p. when (X j) (wanted p)) 1 ps
  supply_told E X hub e x =
      omega (
        arith,
        ints,
        supply_by_places,
        ap (λ b. when b (hub_supply ps)) hub,
        place_sum-add (λ j p. when (set j) (entry_supply p.through p)) (λ j p. when (set (length ps + 2 + j)) (exit_supply p.through p)) 1 ps,
        place_sum-same (λ j p. when (set j) (entry_supply p.through p) +ℤ when (set (length ps + 2 + j)) (exit_supply p.through p))
            (λ j p. when (E j) (given p) -ℤ when (X j) (wanted p)) 1 ps
            (each_from
            (λ j p. when (set j) (entry_supply p.through p) +ℤ when (set (length ps + 2 + j)) (exit_supply p.through p)
            ≡ when (E j) (given p) -ℤ when (X j) (wanted p)) 1 ps no_place
            (λ w a b. one w (E w) (X w) (place_at ps w).through (place_at ps w) (e w (a, omega (arith, b))) (x w (a, omega (arith, b))))),
        place_sum-sub (λ j p. when (E j) (given p)) (λ j p. when (X j) (wanted p)) 1 ps,
      )
    where
      one : (w : ℕ) (a b : Bool) (o : Option Bounds) (p : Place) → a ≡ set w → b ≡ set (exit_by (length ps) w o)
          → when (set w) (entry_supply o p) +ℤ when (set (length ps + 2 + w)) (exit_supply o p) ≡ when a (given p) -ℤ when b (wanted p)
      one w a b (Some c) p h k =
          ap (λ z. when z (entry_supply (Some c) p) +ℤ when (set (length ps + 2 + w)) (exit_supply (Some c) p)) (sym h)
          ∙ ap (λ z. when a (entry_supply (Some c) p) +ℤ when z (exit_supply (Some c) p)) (sym k) ∙ when_parts a b (Some c) p (λ bad. cc bad)
      one w a b None p h k =
          ap (λ z. when z (entry_supply None p) +ℤ when (set (length ps + 2 + w)) (exit_supply None p)) (sym h)
          ∙ ap (λ z. when a (entry_supply None p) +ℤ z) (when-none (set (length ps + 2 + w)) ∙ sym (when-none b))
          ∙ when_parts a b None p (λ q. k ∙ sym h)

-- the supplies of the model balance
pub total_balances : (ps : List Place) → supply_in (supplies_of ps) (λ v. true) ≡ pos 0
total_balances ps =
    omega (
      arith,
      ints,
      supply_by_places ps (λ v. true),
      place_sum-add (λ j p. entry_supply p.through p) (λ j p. exit_supply p.through p) 1 ps,
      all_parts 1 ps,
    )
  where
    all_parts : (v : ℕ) (qs : List Place)
        → place_sum (λ j p. entry_supply p.through p +ℤ exit_supply p.through p) v qs +ℤ place_sum (λ j p. neg_ℤ p.supply) v qs ≡ pos 0
    all_parts v [] = refl
    all_parts v (p ∷ qs) = omega (arith, ints, parts p.through p, all_parts (suc v) qs)
      where
        parts : (o : Option Bounds) (p : Place) → entry_supply o p +ℤ exit_supply o p ≡ p.supply
        parts (Some b) p = omega (arith, ints, clamps)
        parts None p = omega (arith, ints)

-- what is in the set and what is not in it sum to nothing
pub turned_supply : (ps : List Place) (set : ℕ → Bool) → supply_in (supplies_of ps) (λ v. not (set v)) ≡ neg_ℤ (supply_in (supplies_of ps) set)
turned_supply ps set =
    omega (
      arith,
      ints,
      total_balances ps,
      node_sum-add (λ v. when (not (set v)) (at_node (supplies_of ps) v)) (λ v. when (set v) (at_node (supplies_of ps) v)) (length (supplies_of ps)),
      node_sum-same (λ v. when (not (set v)) (at_node (supplies_of ps) v) +ℤ when (set v) (at_node (supplies_of ps) v)) (λ v. at_node (supplies_of ps) v)
          (length (supplies_of ps)) (λ v h. either (set v) (at_node (supplies_of ps) v)),
    )
  where
    either : (b : Bool) (z : ℤ) → when (not b) z +ℤ when b z ≡ z
    either true z = omega (arith, ints)
    either false z = omega (arith, ints)
