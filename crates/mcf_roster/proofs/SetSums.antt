-- Sums over the routes of a roster's model that a set cuts.
use Rattle.std.proofs.Common.{◌≡◌, ℕ, ◌+◌, Bool, true, false, ◌&&◌, ◌++◌, length, map, refl, ap, sym, ◌∙◌, arith, ℤ, pos, ◌+ℤ◌}
use Rattle.std.specs.Prelude.{not}
use Rattle.std.specs.List.{range_with_len}
use Rattle.std.proofs.lemmas.Int.{ints}
use Rattle.mcf_flows.specs.Blocking.{supply_in}
use Rattle.mcf_flows.specs.Network.{IsNode, at_node, node_sum, when}
use Rattle.mcf_flows.proofs.NodeSums.{node_sum-same}
use Rattle.mcf_model.specs.Bottlenecks.{into, least_across, most_across, out_of, route_sum}
use Rattle.mcf_model.specs.Model.{Route}
use Rattle.mcf_roster.specs.declared.pairs.Pair.{Pair}
use Rattle.mcf_roster.specs.Competitions.{leasts_in, mosts_in, pair_count}
use Rattle.mcf_roster.specs.Models.{hub_of, model_of, pair_route, person_route, thing_route}
use Rattle.mcf_roster.specs.RosterFaults.{HasBothEnds, IsSoundRoster}
use Rattle.mcf_roster.specs.Rosters.{Roster, range_at}
use Rattle.mcf_roster.proofs.Balances.{is_place_of, supplies_none}
use Rattle.mcf_roster.proofs.PairSums.{pairs_counted, pairs_none}
use Rattle.mcf_roster.proofs.RangeSums.{none_at, route_sum-append, route_sum-range}

pub when-none : (b : Bool) → when b (pos 0) ≡ pos 0
when-none true = refl
when-none false = refl

and_true : (b : Bool) → (b && true) ≡ b
and_true true = refl
and_true false = refl

-- the most across a route one way
across : (b c : Bool) (z : ℤ) → b ≡ c → when b z +ℤ pos 0 ≡ when c z
across b c z e = omega (arith, ints, ap (λ t. when t z) e)

pub whole_routes : (R : Roster) (t : Route → ℤ) → route_sum t (model_of R).routes
    ≡ route_sum t (map (pair_route (length R.takes)) R.pairs)
    +ℤ (node_sum (λ v. t (person_route R v)) (length R.takes) +ℤ node_sum (λ v. t (thing_route R v)) (length R.needs))
whole_routes R t =
    let first = map (pair_route (length R.takes)) R.pairs in
    let persons = map (person_route R) (range_with_len 1 (length R.takes)) in
    let things = map (thing_route R) (range_with_len 1 (length R.needs)) in
    omega (
      arith,
      ints,
      route_sum-append t first (persons ++ things),
      route_sum-append t persons things,
      route_sum-range t (person_route R) (length R.takes),
      route_sum-range t (thing_route R) (length R.needs),
    )

-- no set has a supply
pub no_supply : (R : Roster) (set : ℕ → Bool) → supply_in (model_of R).supplies set ≡ pos 0
no_supply R set =
    none_at (λ v. when (set v) (at_node (model_of R).supplies v)) (length (model_of R).supplies)
    (λ v k. ap (when (set v)) (supplies_none R v (is_place_of R v k)) ∙ when-none (set v))

-- a set of the model's places without the hub, and the same set of persons and things
pub record IsTold (R : Roster) (set persons things : ℕ → Bool) : Type 0 where
  pub hub : set (hub_of R) ≡ false
  pub person : (v : ℕ) → IsNode (length R.takes) v → persons v ≡ set v
  pub thing : (v : ℕ) → IsNode (length R.needs) v → things v ≡ set (length R.takes + v)

module _ (R : Roster) (sound : IsSoundRoster R) (set persons things : ℕ → Bool) (told : IsTold R set persons things) where
  abbrev H : Pair → Type 0
  H = HasBothEnds (length R.takes) (length R.needs)

  -- ---- the ends of routes

  pair_out : (p : Pair) → H p → out_of set p.who (length R.takes + p.what) ≡ (persons p.who && not (things p.what))
  pair_out p h =
      ap (λ b. b && not (set (length R.takes + p.what))) (sym (told.person p.who h.person))
      ∙ ap (λ b. persons p.who && not b) (sym (told.thing p.what h.thing))

  pair_in : (p : Pair) → H p → into set p.who (length R.takes + p.what) ≡ (things p.what && not (persons p.who))
  pair_in p h =
      ap (λ b. b && not (set p.who)) (sym (told.thing p.what h.thing)) ∙ ap (λ b. things p.what && not b) (sym (told.person p.who h.person))

  person_out : (v : ℕ) → out_of set (hub_of R) v ≡ false
  person_out v = ap (λ b. b && not (set v)) told.hub

  person_in : (v : ℕ) → IsNode (length R.takes) v → into set (hub_of R) v ≡ persons v
  person_in v k = ap (λ b. set v && not b) told.hub ∙ and_true (set v) ∙ sym (told.person v k)

  thing_out : (v : ℕ) → IsNode (length R.needs) v → out_of set (length R.takes + v) (hub_of R) ≡ things v
  thing_out v k = ap (λ b. set (length R.takes + v) && not b) told.hub ∙ and_true (set (length R.takes + v)) ∙ sym (told.thing v k)

  thing_in : (v : ℕ) → into set (length R.takes + v) (hub_of R) ≡ false
  thing_in v = ap (λ b. b && not (set (length R.takes + v))) told.hub

  -- ---- sums

  pub most_out : route_sum (most_across (out_of set)) (model_of R).routes
      ≡ pair_count (λ p. persons p.who && not (things p.what)) R.pairs +ℤ mosts_in things R.needs
  most_out =
      let t = most_across (out_of set) in
      omega (
        arith,
        ints,
        whole_routes R t,
        pairs_counted H (length R.takes) t (λ p. persons p.who && not (things p.what)) (λ p h. across _ _ (pos 1) (pair_out p h)) R.pairs sound.pairs,
        none_at (λ v. t (person_route R v)) (length R.takes) (λ v k. across _ false (pos (range_at R.takes v).most) (person_out v)),
        node_sum-same (λ v. t (thing_route R v)) (λ v. when (things v) (pos (range_at R.needs v).most)) (length R.needs)
            (λ v k. across _ (things v) (pos (range_at R.needs v).most) (thing_out v k)),
      )

  pub most_in : route_sum (most_across (into set)) (model_of R).routes
      ≡ pair_count (λ p. things p.what && not (persons p.who)) R.pairs +ℤ mosts_in persons R.takes
  most_in =
      let t = most_across (into set) in
      omega (
        arith,
        ints,
        whole_routes R t,
        pairs_counted H (length R.takes) t (λ p. things p.what && not (persons p.who)) (λ p h. across _ _ (pos 1) (pair_in p h)) R.pairs sound.pairs,
        none_at (λ v. t (thing_route R v)) (length R.needs) (λ v k. across _ false (pos (range_at R.needs v).most) (thing_in v)),
        node_sum-same (λ v. t (person_route R v)) (λ v. when (persons v) (pos (range_at R.takes v).most)) (length R.takes)
            (λ v k. across _ (persons v) (pos (range_at R.takes v).most) (person_in v k)),
      )

  pub least_in : route_sum (least_across (into set)) (model_of R).routes ≡ leasts_in persons R.takes
  least_in =
      let t = least_across (into set) in
      omega (
        arith,
        ints,
        whole_routes R t,
        pairs_none (length R.takes) t (λ p. when-none (into set p.who (length R.takes + p.what))) R.pairs,
        none_at (λ v. t (thing_route R v)) (length R.needs) (λ v k. ap (λ b. when b (pos (range_at R.needs v).least)) (thing_in v)),
        node_sum-same (λ v. t (person_route R v)) (λ v. when (persons v) (pos (range_at R.takes v).least)) (length R.takes)
            (λ v k. ap (λ b. when b (pos (range_at R.takes v).least)) (person_in v k)),
      )

  pub least_out : route_sum (least_across (out_of set)) (model_of R).routes ≡ leasts_in things R.needs
  least_out =
      let t = least_across (out_of set) in
      omega (
        arith,
        ints,
        whole_routes R t,
        pairs_none (length R.takes) t (λ p. when-none (out_of set p.who (length R.takes + p.what))) R.pairs,
        none_at (λ v. t (person_route R v)) (length R.takes) (λ v k. ap (λ b. when b (pos (range_at R.takes v).least)) (person_out v)),
        node_sum-same (λ v. t (thing_route R v)) (λ v. when (things v) (pos (range_at R.needs v).least)) (length R.needs)
            (λ v k. ap (λ b. when b (pos (range_at R.needs v).least)) (thing_out v k)),
      )
