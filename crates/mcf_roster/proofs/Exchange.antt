-- Choices are plans of the model, and plans of the model are choices.
use Rattle.std.proofs.Common.{◌≡◌, ℕ, ◌+◌, eqb, Bool, true, false, List, [], ◌∷◌, ◌++◌, length, map, take, drop, refl, ap, sym, ◌∙◌, arith, ℤ, pos, ◌-ℤ◌, ◌≤ℤ◌}
use Rattle.std.specs.List.{AllZip, range_with_len}
use Rattle.std.proofs.Math.IntN.{◌*ℤ◌}
use Rattle.std.proofs.Math.Seq.{take-append_seam}
use Rattle.std.proofs.lemmas.Int.{ints, by_lt_z}
use Rattle.std.proofs.lemmas.List.{length-map, take-append-drop}
use Rattle.std.proofs.lemmas.List.FromFn.{length-map-range_with_len}
use Rattle.mcf_flows.specs.Network.{IsNode, at_node, when}
use Rattle.mcf_flows.proofs.AllZips.{length-AllZip}
use Rattle.mcf_flows.proofs.IntLaws.{mul-one, mul-zero, zero-mul}
use Rattle.mcf_flows.proofs.NodeSums.{node_sum-same}
use Rattle.mcf_model.specs.Model.{IsPlan, MayCarry, Route, arriving, leaving, plan_cost, route_cost}
use Rattle.mcf_model.proofs.Lists.{join_zip, split_zip}
use Rattle.mcf_roster.specs.declared.pairs.Pair.{Pair}
use Rattle.mcf_roster.specs.Models.{amount_of, choice_of, hub_of, is_carried, model_of, pair_route, person_route, plan_of, thing_route}
use Rattle.mcf_roster.specs.RosterFaults.{IsSoundRoster}
use Rattle.mcf_roster.specs.RosterLaws.{IsChoiceOf, IsPlanOf, LeastPlansAreLeastChoices, RostersAreModels}
use Rattle.mcf_roster.specs.Rosters.{IsChoice, Roster, range_at, takers_of, taken_by, value}
use Rattle.mcf_roster.proofs.Balances.{all_taken, at_hub, at_person, at_thing, by_place, carried_by, carried_to, is_place_of, joined, place_of, supplies_none, whole_sum}
use Rattle.mcf_roster.proofs.PairSums.{amount_sum, chosen_amounts}
use Rattle.mcf_roster.proofs.RangeSums.{entries_again, mapped_same, none_at, zip_range, zipped_at}

-- ---- one pair

both_whens : (b c : Bool) → when b (when c (pos 1)) ≡ when c (when b (pos 1))
both_whens true true = refl
both_whens true false = refl
both_whens false true = refl
both_whens false false = refl

cost_of : (z : ℤ) (c : Bool) → when c z ≡ z *ℤ amount_of c
cost_of z true = sym (mul-one z)
cost_of z false = sym (mul-zero z)

may_be : (n : ℕ) (p : Pair) (c : Bool) → MayCarry (pair_route n p) (amount_of c)
may_be n p true = record { enough = omega (arith, ints); fits = omega (arith, ints) }
may_be n p false = record { enough = omega (arith, ints); fits = omega (arith, ints) }

pub tests_again : (cs : List Bool) → map is_carried (map amount_of cs) ≡ cs
tests_again [] = refl
tests_again (true ∷ cs) = ap (λ xs. true ∷ xs) (tests_again cs)
tests_again (false ∷ cs) = ap (λ xs. false ∷ xs) (tests_again cs)

amount_again : (x : ℤ) → pos 0 ≤ℤ x → x ≤ℤ pos 1 → amount_of (is_carried x) ≡ x
amount_again x low high =
    by_lt_z (pos 0) x (λ more. let e : x ≡ pos 1 = omega (arith, ints, more, high) in ap (λ z. amount_of (is_carried z)) e ∙ sym e)
    (λ less. let e : x ≡ pos 0 = omega (arith, ints, less, low) in ap (λ z. amount_of (is_carried z)) e ∙ sym e)

amounts_again : (n : ℕ) (ps : List Pair) (xs : List ℤ) → AllZip MayCarry (map (pair_route n) ps) xs → map amount_of (map is_carried xs) ≡ xs
amounts_again n [] [] h = refl
amounts_again n [] (x ∷ xs) h = absurd h
amounts_again n (p ∷ ps) [] h = absurd h
amounts_again n (p ∷ ps) (x ∷ xs) h =
    let low : pos 0 ≤ℤ x = (h.0).enough in
    let high : x ≤ℤ pos 1 = (h.0).fits in
    ap (λ y. y ∷ map amount_of (map is_carried xs)) (amount_again x low high) ∙ ap (λ ys. x ∷ ys) (amounts_again n ps xs h.1)

pairs_zip : (n : ℕ) (ps : List Pair) (cs : List Bool) → length cs ≡ length ps → AllZip MayCarry (map (pair_route n) ps) (map amount_of cs)
pairs_zip n [] [] e = tt
pairs_zip n [] (c ∷ cs) e = absurd (omega arith)
pairs_zip n (p ∷ ps) [] e = absurd (omega arith)
pairs_zip n (p ∷ ps) (c ∷ cs) e = (may_be n p c, pairs_zip n ps cs (omega arith))

-- ---- a choice

module _ (R : Roster) (chosen : List Bool) where
  pub taken_is : (w : ℕ) → taken_by R chosen w ≡ carried_by R (map amount_of chosen) w
  taken_is w =
      chosen_amounts (λ p. when (eqb p.who w) (pos 1)) (λ p x. when (eqb p.who w) x) (λ p c. both_whens c (eqb p.who w)) R.pairs chosen

  pub takers_is : (w : ℕ) → takers_of R chosen w ≡ carried_to R (map amount_of chosen) w
  takers_is w =
      chosen_amounts (λ p. when (eqb p.what w) (pos 1)) (λ p x. when (eqb p.what w) x) (λ p c. both_whens c (eqb p.what w)) R.pairs chosen

  long_too : length chosen ≡ length R.pairs → length R.pairs ≡ length (map amount_of chosen)
  long_too e = sym e ∙ sym (length-map chosen amount_of)

  cost_is : length chosen ≡ length R.pairs → plan_cost (model_of R) (plan_of R chosen) ≡ value R chosen
  cost_is e =
      let costs : value R chosen ≡ amount_sum (λ p x. route_cost (pair_route (length R.takes) p) x) R.pairs (map amount_of chosen)
      = chosen_amounts (λ p. p.cost) (λ p x. route_cost (pair_route (length R.takes) p) x) (λ p c. cost_of p.cost c) R.pairs chosen in
      omega (
        arith,
        ints,
        whole_sum R (map amount_of chosen) (taken_by R chosen) (takers_of R chosen) (long_too e) route_cost,
        none_at (λ v. route_cost (person_route R v) (taken_by R chosen v)) (length R.takes) (λ v q. zero-mul (taken_by R chosen v)),
        none_at (λ v. route_cost (thing_route R v) (takers_of R chosen v)) (length R.needs) (λ v q. zero-mul (takers_of R chosen v)),
        costs,
      )

  module _ (sound : IsSoundRoster R) (h : IsChoice R chosen) where
    abbrev Balanced : ℕ → Type 0
    Balanced v = leaving (model_of R).routes (plan_of R chosen) v -ℤ arriving (model_of R).routes (plan_of R chosen) v ≡ pos 0

    balanced : (v : ℕ) → IsNode (hub_of R) v → Balanced v
    balanced =
        let cs = map amount_of chosen in
        let long = long_too h.one_by_pair in
        by_place R Balanced
        (λ w k. omega (arith, ints, at_person R cs (taken_by R chosen) (takers_of R chosen) long sound w k, taken_is w))
        (λ u k. omega (arith, ints, at_thing R cs (taken_by R chosen) (takers_of R chosen) long sound u k, takers_is u))
        (omega (
          arith,
          ints,
          at_hub R cs (taken_by R chosen) (takers_of R chosen) long sound,
          node_sum-same (taken_by R chosen) (carried_by R cs) (length R.takes) (λ v q. taken_is v),
          node_sum-same (takers_of R chosen) (carried_to R cs) (length R.needs) (λ v q. takers_is v),
          all_taken R cs (taken_by R chosen) (takers_of R chosen) long sound,
        ))

    pub choice_is_plan : IsPlanOf R chosen (plan_of R chosen)
    choice_is_plan =
        let rest = map (taken_by R chosen) (range_with_len 1 (length R.takes)) ++ map (takers_of R chosen) (range_with_len 1 (length R.needs)) in
        record {
          is_plan = record {
            may_carry = join_zip MayCarry (map (pair_route (length R.takes)) R.pairs)
                (map (person_route R) (range_with_len 1 (length R.takes)) ++ map (thing_route R) (range_with_len 1 (length R.needs)))
                (map amount_of chosen) rest (pairs_zip (length R.takes) R.pairs chosen h.one_by_pair)
                (join_zip MayCarry (map (person_route R) (range_with_len 1 (length R.takes))) (map (thing_route R) (range_with_len 1 (length R.needs)))
                (map (taken_by R chosen) (range_with_len 1 (length R.takes))) (map (takers_of R chosen) (range_with_len 1 (length R.needs)))
                (zip_range MayCarry (person_route R) (taken_by R chosen) (length R.takes)
                (λ v k. record { enough = (h.persons v k).enough; fits = (h.persons v k).not_too_many }))
                (zip_range MayCarry (thing_route R) (takers_of R chosen) (length R.needs)
                (λ v k. record { enough = (h.things v k).enough; fits = (h.things v k).not_too_many })));
            meets_supplies = λ v k. balanced v (is_place_of R v k) ∙ sym (supplies_none R v (is_place_of R v k));
          };
          same_cost = cost_is h.one_by_pair;
          back_again = ap (λ k. map is_carried (take k (map amount_of chosen ++ rest))) (long_too h.one_by_pair)
              ∙ ap (map is_carried) (take-append_seam (map amount_of chosen) rest) ∙ tests_again chosen;
        }

-- ---- a plan of the model

module _ (R : Roster) (sound : IsSoundRoster R) (plan : List ℤ) (h : IsPlan (model_of R) plan) where
  abbrev persons : List Route
  persons = map (person_route R) (range_with_len 1 (length R.takes))

  abbrev things : List Route
  things = map (thing_route R) (range_with_len 1 (length R.needs))

  abbrev cs : List ℤ
  cs = take (length R.pairs) plan

  abbrev rest : List ℤ
  rest = drop (length R.pairs) plan

  abbrev As : List ℤ
  As = take (length R.takes) rest

  abbrev Bs : List ℤ
  Bs = drop (length R.takes) rest

  zips : AllZip MayCarry (map (pair_route (length R.takes)) R.pairs) cs × AllZip MayCarry (persons ++ things) rest
  zips =
      split_zip MayCarry (length R.pairs) (map (pair_route (length R.takes)) R.pairs) (persons ++ things) plan
      (length-map R.pairs (pair_route (length R.takes))) h.may_carry

  more_zips : AllZip MayCarry persons As × AllZip MayCarry things Bs
  more_zips = split_zip MayCarry (length R.takes) persons things rest (length-map-range_with_len (person_route R) 1 (length R.takes)) zips.1

  cs_long : length R.pairs ≡ length cs
  cs_long =
      sym (length-map R.pairs (pair_route (length R.takes))) ∙ length-AllZip MayCarry (map (pair_route (length R.takes)) R.pairs) cs zips.0

  As_are : map (at_node As) (range_with_len 1 (length R.takes)) ≡ As
  As_are =
      entries_again As (length R.takes)
      (sym (length-AllZip MayCarry persons As more_zips.0) ∙ length-map-range_with_len (person_route R) 1 (length R.takes))

  Bs_are : map (at_node Bs) (range_with_len 1 (length R.needs)) ≡ Bs
  Bs_are =
      entries_again Bs (length R.needs)
      (sym (length-AllZip MayCarry things Bs more_zips.1) ∙ length-map-range_with_len (thing_route R) 1 (length R.needs))

  plan_is : joined R cs (at_node As) (at_node Bs) ≡ plan
  plan_is =
      ap (λ ys. cs ++ (ys ++ map (at_node Bs) (range_with_len 1 (length R.needs)))) As_are
      ∙ ap (λ ys. cs ++ (As ++ ys)) Bs_are
      ∙ ap (λ ys. cs ++ ys) (take-append-drop (length R.takes) rest) ∙ take-append-drop (length R.pairs) plan

  balance : (v : ℕ) → IsNode (hub_of R) v
      → leaving (model_of R).routes (joined R cs (at_node As) (at_node Bs)) v -ℤ arriving (model_of R).routes (joined R cs (at_node As) (at_node Bs)) v ≡ pos 0
  balance v k =
      ap (λ ys. leaving (model_of R).routes ys v -ℤ arriving (model_of R).routes ys v) plan_is
      ∙ h.meets_supplies v (place_of R v k) ∙ supplies_none R v k

  again : map amount_of (choice_of R plan) ≡ cs
  again = amounts_again (length R.takes) R.pairs cs zips.0

  A_is : (w : ℕ) → IsNode (length R.takes) w → taken_by R (choice_of R plan) w ≡ at_node As w
  A_is w k =
      omega (
        arith,
        ints,
        taken_is R (choice_of R plan) w,
        ap (λ ys. carried_by R ys w) again,
        at_person R cs (at_node As) (at_node Bs) cs_long sound w k,
        balance w (k.0, omega (arith, k)),
      )

  B_is : (u : ℕ) → IsNode (length R.needs) u → takers_of R (choice_of R plan) u ≡ at_node Bs u
  B_is u k =
      omega (
        arith,
        ints,
        takers_is R (choice_of R plan) u,
        ap (λ ys. carried_to R ys u) again,
        at_thing R cs (at_node As) (at_node Bs) cs_long sound u k,
        balance (length R.takes + u) (omega (arith, k), omega (arith, k)),
      )

  plan_again : plan_of R (choice_of R plan) ≡ plan
  plan_again =
      ap (λ ys. ys ++ (map (taken_by R (choice_of R plan)) (range_with_len 1 (length R.takes))
      ++ map (takers_of R (choice_of R plan)) (range_with_len 1 (length R.needs)))) again
      ∙ ap (λ ys. cs ++ (ys ++ map (takers_of R (choice_of R plan)) (range_with_len 1 (length R.needs))))
      (mapped_same (taken_by R (choice_of R plan)) (at_node As) (length R.takes) A_is)
      ∙ ap (λ ys. cs ++ (map (at_node As) (range_with_len 1 (length R.takes)) ++ ys))
      (mapped_same (takers_of R (choice_of R plan)) (at_node Bs) (length R.needs) B_is)
      ∙ plan_is

  choice_long : length (choice_of R plan) ≡ length R.pairs
  choice_long = length-map cs is_carried ∙ sym cs_long

  pub plan_is_choice : IsChoiceOf R plan (choice_of R plan)
  plan_is_choice =
      record {
        is_choice = record {
          one_by_pair = choice_long;
          persons = λ v k.
              let may : MayCarry (person_route R v) (at_node As v) = zipped_at MayCarry (person_route R) (length R.takes) As v more_zips.0 k in
              let low : pos (range_at R.takes v).least ≤ℤ at_node As v = may.enough in
              let high : at_node As v ≤ℤ pos (range_at R.takes v).most = may.fits in
              record { enough = omega (arith, ints, low, A_is v k); not_too_many = omega (arith, ints, high, A_is v k) };
          things = λ v k.
              let may : MayCarry (thing_route R v) (at_node Bs v) = zipped_at MayCarry (thing_route R) (length R.needs) Bs v more_zips.1 k in
              let low : pos (range_at R.needs v).least ≤ℤ at_node Bs v = may.enough in
              let high : at_node Bs v ≤ℤ pos (range_at R.needs v).most = may.fits in
              record { enough = omega (arith, ints, low, B_is v k); not_too_many = omega (arith, ints, high, B_is v k) };
        };
        same_value = sym (cost_is R (choice_of R plan) choice_long) ∙ ap (plan_cost (model_of R)) plan_again;
        back_again = plan_again;
      }

-- ---- the laws

pub rosters_are_models_lem : RostersAreModels
rosters_are_models_lem =
    record {
      choices_are_plans = λ R chosen sound h. choice_is_plan R chosen sound h;
      plans_are_choices = λ R plan sound h. plan_is_choice R sound plan h;
    }

pub least_plans_are_least_choices_lem : LeastPlansAreLeastChoices
least_plans_are_least_choices_lem R plan sound h =
    let mine = plan_is_choice R sound plan h.is_plan in
    record {
      is_choice = mine.is_choice;
      least = λ other is.
          let its = choice_is_plan R other sound is in
          omega (arith, ints, mine.same_value, its.same_cost, h.least (plan_of R other) its.is_plan);
    }
