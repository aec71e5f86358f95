-- What leaves and enters each place of a roster's model.
use Rattle.std.proofs.Common.{◌≡◌, ℕ, ◌+◌, ◌-◌, eqb, List, ◌++◌, length, map, refl, sym, ◌∙◌, subst, arith, ℤ, pos, ◌+ℤ◌, ◌-ℤ◌, inl, inr}
use Rattle.std.specs.List.{range_with_len}
use Rattle.std.proofs.lemmas.Int.{ints}
use Rattle.std.proofs.lemmas.Bool.{cases_lt}
use Rattle.std.proofs.lemmas.List.{get_or-replicate, length-map, length-replicate}
use Rattle.std.proofs.lemmas.List.FromFn.{length-map-range_with_len}
use Rattle.mcf_flows.specs.Network.{IsNode, at_node, node_sum, when}
use Rattle.mcf_flows.proofs.NodeSums.{node_sum-same}
use Rattle.mcf_model.specs.Model.{Route, arriving, leaving, plan_sum}
use Rattle.mcf_model.proofs.FaultTests.{all_of}
use Rattle.mcf_roster.specs.declared.pairs.Pair.{Pair}
use Rattle.mcf_roster.specs.Models.{hub_of, model_of, pair_route, person_route, thing_route}
use Rattle.mcf_roster.specs.RosterFaults.{HasBothEnds, IsSoundRoster}
use Rattle.mcf_roster.specs.Rosters.{Roster}
use Rattle.mcf_roster.proofs.PairSums.{amount_sum, no_amounts, plan_sum-pairs, same_amounts, spread}
use Rattle.mcf_roster.proofs.RangeSums.{none_at, one_at, plan_sum-append, plan_sum-range, when_is, when_not}

-- ---- the places of the model

pub place_of : (R : Roster) (v : ℕ) → IsNode (hub_of R) v → IsNode (length (model_of R).supplies) v
place_of R v k = (k.0, omega (arith, k, length-replicate (hub_of R) (pos 0)))

pub is_place_of : (R : Roster) (v : ℕ) → IsNode (length (model_of R).supplies) v → IsNode (hub_of R) v
is_place_of R v k = (k.0, omega (arith, k, length-replicate (hub_of R) (pos 0)))

pub supplies_none : (R : Roster) (v : ℕ) → IsNode (hub_of R) v → at_node (model_of R).supplies v ≡ pos 0
supplies_none R v k = get_or-replicate (hub_of R) (v - 1) (pos 0) (pos 0) (omega (arith, k))

-- a fact of each place, from those of persons, of things and of the hub
pub by_place : (R : Roster) (Q : ℕ → Type 0) → ((v : ℕ) → IsNode (length R.takes) v → Q v) → ((u : ℕ) → IsNode (length R.needs) u → Q (length R.takes + u))
    → Q (hub_of R) → (v : ℕ) → IsNode (hub_of R) v → Q v
by_place R Q person thing hub v k =
    elim (cases_lt (length R.takes) v) [
      | inl beyond ↦ elim (cases_lt v (hub_of R)) [
        | inl before ↦ let e : length R.takes + (v - length R.takes) ≡ v = omega (arith, beyond) in
            subst Q e (thing (v - length R.takes) (omega (arith, beyond), omega (arith, before)))
        | inr last ↦ let e : hub_of R ≡ v = omega (arith, last, k) in subst Q e hub
      ]
      | inr within ↦ person v (k.0, within)
    ]

-- ---- sums over the model's routes

-- the model's plan of what the routes of pairs, of persons and of things carry
abbrev pub joined : Roster → List ℤ → (ℕ → ℤ) → (ℕ → ℤ) → List ℤ
joined R cs A B = cs ++ (map A (range_with_len 1 (length R.takes)) ++ map B (range_with_len 1 (length R.needs)))

-- what the pairs of a person carry
abbrev pub carried_by : Roster → List ℤ → ℕ → ℤ
carried_by R cs w = amount_sum (λ p x. when (eqb p.who w) x) R.pairs cs

-- what the pairs of a thing carry
abbrev pub carried_to : Roster → List ℤ → ℕ → ℤ
carried_to R cs w = amount_sum (λ p x. when (eqb p.what w) x) R.pairs cs

module _ (R : Roster) (cs : List ℤ) (A B : ℕ → ℤ) (long : length R.pairs ≡ length cs) where
  pub whole_sum : (t : Route → ℤ → ℤ) → plan_sum t (model_of R).routes (joined R cs A B)
      ≡ amount_sum (λ p x. t (pair_route (length R.takes) p) x) R.pairs cs
      +ℤ (node_sum (λ v. t (person_route R v) (A v)) (length R.takes) +ℤ node_sum (λ v. t (thing_route R v) (B v)) (length R.needs))
  whole_sum t =
      let first = map (pair_route (length R.takes)) R.pairs in
      let persons = map (person_route R) (range_with_len 1 (length R.takes)) in
      let things = map (thing_route R) (range_with_len 1 (length R.needs)) in
      let As = map A (range_with_len 1 (length R.takes)) in
      let Bs = map B (range_with_len 1 (length R.needs)) in
      omega (
        arith,
        ints,
        plan_sum-append t first (persons ++ things) cs (As ++ Bs) (length-map R.pairs (pair_route (length R.takes)) ∙ long),
        plan_sum-pairs t (length R.takes) R.pairs cs,
        plan_sum-append t persons things As Bs
            (length-map-range_with_len (person_route R) 1 (length R.takes) ∙ sym (length-map-range_with_len A 1 (length R.takes))),
        plan_sum-range t (person_route R) A (length R.takes),
        plan_sum-range t (thing_route R) B (length R.needs),
      )

  module _ (sound : IsSoundRoster R) where
    abbrev H : Pair → Type 0
    H = HasBothEnds (length R.takes) (length R.needs)

    pub at_person : (w : ℕ) → IsNode (length R.takes) w
        → leaving (model_of R).routes (joined R cs A B) w -ℤ arriving (model_of R).routes (joined R cs A B) w ≡ carried_by R cs w -ℤ A w
    at_person w k =
        omega (
          arith,
          ints,
          whole_sum (λ r x. when (eqb r.tail w) x),
          none_at (λ v. when (eqb (hub_of R) w) (A v)) (length R.takes) (λ v q. when_not (hub_of R) w (A v) (λ bad. absurd (omega (arith, bad, k)))),
          none_at (λ v. when (eqb (length R.takes + v) w) (B v)) (length R.needs)
              (λ v q. when_not (length R.takes + v) w (B v) (λ bad. absurd (omega (arith, bad, k, q)))),
          whole_sum (λ r x. when (eqb r.head w) x),
          no_amounts H (λ p x. when (eqb (length R.takes + p.what) w) x)
              (λ p x h. when_not (length R.takes + p.what) w x (λ bad. absurd (omega (arith, bad, k, h.thing)))) R.pairs cs sound.pairs,
          one_at (λ v. when (eqb v w) (A v)) (length R.takes) w k (λ v q other. when_not v w (A v) other),
          when_is w w (A w) refl,
          none_at (λ v. when (eqb (hub_of R) w) (B v)) (length R.needs) (λ v q. when_not (hub_of R) w (B v) (λ bad. absurd (omega (arith, bad, k)))),
        )

    same_thing : (u : ℕ) (p : Pair) (x : ℤ) → when (eqb (length R.takes + p.what) (length R.takes + u)) x ≡ when (eqb p.what u) x
    same_thing u p x =
        elim (cases_lt p.what u) [
          | inl less ↦ when_not (length R.takes + p.what) (length R.takes + u) x (λ bad. absurd (omega (arith, bad, less)))
              ∙ sym (when_not p.what u x (λ bad. absurd (omega (arith, bad, less))))
          | inr more ↦ elim (cases_lt u p.what) [
            | inl less ↦ when_not (length R.takes + p.what) (length R.takes + u) x (λ bad. absurd (omega (arith, bad, less)))
                ∙ sym (when_not p.what u x (λ bad. absurd (omega (arith, bad, less))))
            | inr fewer ↦ let e : p.what ≡ u = omega (arith, more, fewer) in
                when_is (length R.takes + p.what) (length R.takes + u) x (omega (arith, e)) ∙ sym (when_is p.what u x e)
          ]
        ]

    pub at_thing : (u : ℕ) → IsNode (length R.needs) u
        → leaving (model_of R).routes (joined R cs A B) (length R.takes + u) -ℤ arriving (model_of R).routes (joined R cs A B) (length R.takes + u)
        ≡ B u -ℤ carried_to R cs u
    at_thing u k =
        omega (
          arith,
          ints,
          whole_sum (λ r x. when (eqb r.tail (length R.takes + u)) x),
          no_amounts H (λ p x. when (eqb p.who (length R.takes + u)) x)
              (λ p x h. when_not p.who (length R.takes + u) x (λ bad. absurd (omega (arith, bad, k, h.person)))) R.pairs cs sound.pairs,
          none_at (λ v. when (eqb (hub_of R) (length R.takes + u)) (A v)) (length R.takes)
              (λ v q. when_not (hub_of R) (length R.takes + u) (A v) (λ bad. absurd (omega (arith, bad, k)))),
          one_at (λ v. when (eqb (length R.takes + v) (length R.takes + u)) (B v)) (length R.needs) u k
              (λ v q other. when_not (length R.takes + v) (length R.takes + u) (B v) (λ bad. other (omega (arith, bad)))),
          when_is (length R.takes + u) (length R.takes + u) (B u) refl,
          whole_sum (λ r x. when (eqb r.head (length R.takes + u)) x),
          same_amounts (λ p x. when (eqb (length R.takes + p.what) (length R.takes + u)) x) (λ p x. when (eqb p.what u) x) (same_thing u) R.pairs cs,
          none_at (λ v. when (eqb v (length R.takes + u)) (A v)) (length R.takes)
              (λ v q. when_not v (length R.takes + u) (A v) (λ bad. absurd (omega (arith, bad, k, q)))),
          none_at (λ v. when (eqb (hub_of R) (length R.takes + u)) (B v)) (length R.needs)
              (λ v q. when_not (hub_of R) (length R.takes + u) (B v) (λ bad. absurd (omega (arith, bad, k)))),
        )

    pub at_hub : leaving (model_of R).routes (joined R cs A B) (hub_of R) -ℤ arriving (model_of R).routes (joined R cs A B) (hub_of R)
        ≡ node_sum A (length R.takes) -ℤ node_sum B (length R.needs)
    at_hub =
        omega (
          arith,
          ints,
          whole_sum (λ r x. when (eqb r.tail (hub_of R)) x),
          no_amounts H (λ p x. when (eqb p.who (hub_of R)) x)
              (λ p x h. when_not p.who (hub_of R) x (λ bad. absurd (omega (arith, bad, h.person)))) R.pairs cs sound.pairs,
          node_sum-same (λ v. when (eqb (hub_of R) (hub_of R)) (A v)) A (length R.takes) (λ v q. when_is (hub_of R) (hub_of R) (A v) refl),
          none_at (λ v. when (eqb (length R.takes + v) (hub_of R)) (B v)) (length R.needs)
              (λ v q. when_not (length R.takes + v) (hub_of R) (B v) (λ bad. absurd (omega (arith, bad, q)))),
          whole_sum (λ r x. when (eqb r.head (hub_of R)) x),
          no_amounts H (λ p x. when (eqb (length R.takes + p.what) (hub_of R)) x)
              (λ p x h. when_not (length R.takes + p.what) (hub_of R) x (λ bad. absurd (omega (arith, bad, h.thing)))) R.pairs cs sound.pairs,
          none_at (λ v. when (eqb v (hub_of R)) (A v)) (length R.takes) (λ v q. when_not v (hub_of R) (A v) (λ bad. absurd (omega (arith, bad, q)))),
          node_sum-same (λ v. when (eqb (hub_of R) (hub_of R)) (B v)) B (length R.needs) (λ v q. when_is (hub_of R) (hub_of R) (B v) refl),
        )

    -- what all persons take is what is taken of all things
    pub all_taken : node_sum (carried_by R cs) (length R.takes) ≡ node_sum (carried_to R cs) (length R.needs)
    all_taken =
        spread (λ p. p.who) (length R.takes) R.pairs cs (all_of H (λ p. IsNode (length R.takes) p.who) R.pairs (λ p h. h.person) sound.pairs)
        ∙ sym (spread (λ p. p.what) (length R.needs) R.pairs cs (all_of H (λ p. IsNode (length R.needs) p.what) R.pairs (λ p h. h.thing) sound.pairs))
