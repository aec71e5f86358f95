-- Bottlenecks of the model are competitions of the roster, and competitions are bottlenecks.
use Rattle.std.proofs.Common.{◌≡◌, ℕ, ◌+◌, ◌-◌, ◌<◌, Bool, true, false, ◌&&◌, List, [], ◌∷◌, length, refl, ap, sym, ◌∙◌, arith}
use Rattle.std.specs.Prelude.{not, nat_le, if◌then◌else◌}
use Rattle.std.specs.List.{All}
use Rattle.std.proofs.lemmas.Int.{ints}
use Rattle.std.proofs.lemmas.Bool.{le-leb}
use Rattle.mcf_flows.specs.declared.problem.Side.{Side}
use Rattle.mcf_flows.specs.declared.problem.Side.TheVariants.{Send, Take}
use Rattle.mcf_flows.specs.Network.{when}
use Rattle.mcf_model.specs.Bottlenecks.{IsBottleneck, IsLimitedAcross, into, least_across, most_across, out_of, route_room, route_sum}
use Rattle.mcf_model.specs.Laws.{BottlenecksHaveNoPlan}
use Rattle.mcf_model.specs.Model.{Route}
use Rattle.mcf_roster.specs.Competitions.{IsCompetition}
use Rattle.mcf_roster.specs.Models.{hub_of, model_of, plan_of}
use Rattle.mcf_roster.specs.RosterFaults.{IsSoundRoster}
use Rattle.mcf_roster.specs.RosterLaws.{CompetitionsHaveNoChoice}
use Rattle.mcf_roster.specs.Rosters.{Roster}
use Rattle.mcf_roster.proofs.Exchange.{choice_is_plan}
use Rattle.mcf_roster.proofs.ProperModels.{all_routes, sound_model}
use Rattle.mcf_roster.proofs.SetSums.{IsTold, least_in, least_out, most_in, most_out, no_supply}

module _ (R : Roster) (sound : IsSoundRoster R) where
  -- each route has a limit
  limited : (c : ℕ → ℕ → Bool) → All (IsLimitedAcross c) (model_of R).routes
  limited c = all_routes R sound (IsLimitedAcross c) (λ p h k. tt) (λ v h k. tt) (λ v h k. tt)

  module _ (set persons things : ℕ → Bool) (told : IsTold R set persons things) where
    pub told_send : IsBottleneck (model_of R) set Send → IsCompetition R persons things Send
    told_send h =
        omega (arith, ints, h.short, most_out R sound set persons things told, least_in R sound set persons things told, no_supply R set)

    pub told_take : IsBottleneck (model_of R) set Take → IsCompetition R persons things Take
    told_take h =
        omega (arith, ints, h.short, most_in R sound set persons things told, least_out R sound set persons things told, no_supply R set)

    pub back_to_model : (side : Side) → IsCompetition R persons things side → IsBottleneck (model_of R) set side
    back_to_model Send h =
        record {
          limited = limited (out_of set);
          short = omega (arith, ints, h, most_out R sound set persons things told, least_in R sound set persons things told, no_supply R set);
        }
    back_to_model Take h =
        record {
          limited = limited (into set);
          short = omega (arith, ints, h, most_in R sound set persons things told, least_out R sound set persons things told, no_supply R set);
        }

-- ---- the law

-- the same set of the model's places
abbrev pub set_of : Roster → (ℕ → Bool) → (ℕ → Bool) → ℕ → Bool
set_of R persons things v =
    if nat_le v (length R.takes) then persons v else (nat_le v (length R.takes + length R.needs) && things (v - length R.takes))

not_le : (a b : ℕ) → b < a → nat_le a b ≡ false
not_le a b k = grind arith

module _ (R : Roster) (persons things : ℕ → Bool) where
  set_of_beyond : (v : ℕ) → length R.takes < v → set_of R persons things v ≡ (nat_le v (length R.takes + length R.needs) && things (v - length R.takes))
  set_of_beyond v h =
      ap (λ b. if b then persons v else (nat_le v (length R.takes + length R.needs) && things (v - length R.takes))) (not_le v (length R.takes) h)

  pub tells_itself : IsTold R (set_of R persons things) persons things
  tells_itself =
      record {
        hub = set_of_beyond (hub_of R) (omega arith)
            ∙ ap (λ b. b && things (hub_of R - length R.takes)) (not_le (hub_of R) (length R.takes + length R.needs) (omega arith));
        person = λ v k. sym
            (ap (λ b. if b then persons v else (nat_le v (length R.takes + length R.needs) && things (v - length R.takes))) (le-leb v (length R.takes) k.1));
        thing = λ v k.
            let e : length R.takes + v - length R.takes ≡ v = omega arith in
            sym
            (set_of_beyond (length R.takes + v) (omega (arith, k))
            ∙ ap (λ b. b && things (length R.takes + v - length R.takes))
            (le-leb (length R.takes + v) (length R.takes + length R.needs) (omega (arith, k))) ∙ ap things e);
      }

pub competitions_have_no_choice_lem : BottlenecksHaveNoPlan → CompetitionsHaveNoChoice
competitions_have_no_choice_lem law R persons things side chosen sound h is =
    law (model_of R) (set_of R persons things) side (plan_of R chosen) (sound_model R sound)
    (back_to_model R sound (set_of R persons things) persons things (tells_itself R persons things) side h) (choice_is_plan R chosen sound is).is_plan

-- ---- the places that aren't in a set

flipped : (a b : Bool) → (not b && not (not a)) ≡ (a && not b)
flipped true true = refl
flipped true false = refl
flipped false true = refl
flipped false false = refl

module _ (c d : ℕ → ℕ → Bool) (same : (u v : ℕ) → d u v ≡ c u v) where
  same_most : (rs : List Route) → route_sum (most_across d) rs ≡ route_sum (most_across c) rs
  same_most [] = refl
  same_most (r ∷ rs) =
      omega (
        arith,
        ints,
        ap (λ b. when b (route_room r)) (same r.tail r.head),
        ap (λ b. when (r.both && b) (route_room r)) (same r.head r.tail),
        same_most rs,
      )

  same_least : (rs : List Route) → route_sum (least_across d) rs ≡ route_sum (least_across c) rs
  same_least [] = refl
  same_least (r ∷ rs) = omega (arith, ints, ap (λ b. when b r.least) (same r.tail r.head), same_least rs)

module _ (R : Roster) (sound : IsSoundRoster R) (set : ℕ → Bool) where
  pub turned_send : IsBottleneck (model_of R) set Send → IsBottleneck (model_of R) (λ v. not (set v)) Take
  turned_send h =
      let rs = (model_of R).routes in
      record {
        limited = limited R sound (into (λ v. not (set v)));
        short = omega (
          arith,
          ints,
          h.short,
          same_most (out_of set) (into (λ v. not (set v))) (λ u v. flipped (set u) (set v)) rs,
          same_least (into set) (out_of (λ v. not (set v))) (λ u v. flipped (set v) (set u)) rs,
          no_supply R set,
          no_supply R (λ v. not (set v)),
        );
      }

  pub turned_take : IsBottleneck (model_of R) set Take → IsBottleneck (model_of R) (λ v. not (set v)) Send
  turned_take h =
      let rs = (model_of R).routes in
      record {
        limited = limited R sound (out_of (λ v. not (set v)));
        short = omega (
          arith,
          ints,
          h.short,
          same_most (into set) (out_of (λ v. not (set v))) (λ u v. flipped (set v) (set u)) rs,
          same_least (out_of set) (into (λ v. not (set v))) (λ u v. flipped (set u) (set v)) rs,
          no_supply R set,
          no_supply R (λ v. not (set v)),
        );
      }
