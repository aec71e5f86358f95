-- Answers for models, told of rosters.
use Rattle.std.proofs.Common.{◌≡◌, ℕ, ◌+◌, ◌-◌, Bool, true, false, List, [], ◌∷◌, get_or, length, refl, ap, sym, ◌∙◌, subst, arith, pos}
use Rattle.std.specs.Prelude.{not}
use Rattle.std.specs.List.{All}
use Rattle.std.proofs.lemmas.Int.{ints}
use Rattle.std.proofs.lemmas.List.Elements.{All-head}
use Rattle.std.proofs.lemmas.List.FromFn.{get_or-map-range_with_len, length-map-range_with_len}
use Rattle.mcf_flows.specs.declared.problem.Side.{Side}
use Rattle.mcf_flows.specs.declared.problem.Side.TheVariants.{Send, Take}
use Rattle.mcf_flows.specs.Blocking.{in_list, in_table}
use Rattle.mcf_flows.specs.Network.{IsNode}
use Rattle.mcf_model.specs.declared.planning.Bottleneck.{Bottleneck}
use Rattle.mcf_model.specs.declared.planning.LeastPlan.{LeastPlan}
use Rattle.mcf_model.specs.declared.planning.Planned.{Planned}
use Rattle.mcf_model.specs.Bottlenecks.{IsBottleneck}
use Rattle.mcf_model.specs.Model.{Model}
use Rattle.mcf_model.specs.Planning.{HasNoPlan, IsBestPlan, IsPlanned}
use Rattle.mcf_roster.specs.declared.amounts.Amounts.{Amounts}
use Rattle.mcf_roster.specs.declared.answering.LeastChoice.{LeastChoice}
use Rattle.mcf_roster.specs.declared.pairs.Pair.{Pair}
use Rattle.mcf_roster.specs.declared.told.Competition.{Competition}
use Rattle.mcf_roster.specs.Amounts.{AreAmounts}
use Rattle.mcf_roster.specs.Competitions.{IsCompetition}
use Rattle.mcf_roster.specs.Models.{choice_of, hub_of, model_of, plan_of}
use Rattle.mcf_roster.specs.RosterAnswers.{HasNoChoice, IsBestChoice, IsToldCompetition}
use Rattle.mcf_roster.specs.RosterFaults.{HasBothEnds, IsSoundRoster}
use Rattle.mcf_roster.specs.Rosters.{IsLeastChoice, Roster, chosen_sum, value}
use Rattle.mcf_model.specs.Complements.{side_told, turned_if}
use Rattle.mcf_roster.specs.ToldTests.{tests_told}
use Rattle.mcf_roster.proofs.Balances.{is_place_of}
use Rattle.mcf_roster.proofs.Contests.{told_send, told_take, turned_send, turned_take}
use Rattle.mcf_roster.proofs.Exchange.{choice_is_plan, least_plans_are_least_choices_lem, plan_is_choice}
use Rattle.mcf_model.proofs.FaultTests.{all_of}

pub planned_of : (m n : Model) (a b : Planned) → m ≡ n → a ≡ b → IsPlanned m a → IsPlanned n b
planned_of m n a b e f h = subst (λ k. IsPlanned k b) e (subst (IsPlanned m) f h)

-- the numbers for the same sets
pub amounts_for : (R : Roster) (persons things marks others : List Bool) (side : Side) (a : Amounts) → marks ≡ persons → others ≡ things
    → AreAmounts R (in_table marks) (in_table others) side a → AreAmounts R (in_table persons) (in_table things) side a
amounts_for R persons things marks others side a e f are =
    subst (λ xs. AreAmounts R (in_table persons) (in_table xs) side a) f (subst (λ xs. AreAmounts R (in_table xs) (in_table others) side a) e are)

-- ---- what the table says

module _ (R : Roster) (found : Bottleneck) (made : Competition) (table : List Bool) (turned : Bool)
    (marks : (v : ℕ) → IsNode (hub_of R) v → in_table table v ≡ in_list found.places.items v)
    (turned_is : turned ≡ in_table table (hub_of R))
    (persons_are : made.persons.items ≡ tests_told turned table 0 (length R.takes))
    (things_are : made.things.items ≡ tests_told turned table (length R.takes) (length R.needs)) (side_is : made.side ≡ side_told turned found.side)
    (amounts_are : AreAmounts R (in_table made.persons.items) (in_table made.things.items) made.side made.amounts) where
  hub_told : turned ≡ in_list found.places.items (hub_of R)
  hub_told = turned_is ∙ marks (hub_of R) (omega arith, omega arith)

  read_at : (items : List Bool) (before count : ℕ) → items ≡ tests_told turned table before count → (v : ℕ) → IsNode count v
      → in_table items v ≡ turned_if turned (in_table table (before + v))
  read_at items before count e v k =
      ap (λ xs. get_or xs (v - 1) false) e
      ∙ get_or-map-range_with_len (λ v. turned_if turned (in_table table (before + v))) 1 count (v - 1) v false (omega (arith, k)) (omega (arith, k))

  place_told : (items : List Bool) (before count w : ℕ) → items ≡ tests_told turned table before count → (v : ℕ) → IsNode count v → before + v ≡ w
      → IsNode (hub_of R) w → in_table items v ≡ turned_if (in_list found.places.items (hub_of R)) (in_list found.places.items w)
  place_told items before count w e v k is node =
      read_at items before count e v k ∙ ap (λ j. turned_if turned (in_table table j)) is ∙ ap (turned_if turned) (marks w node)
      ∙ ap (λ t. turned_if t (in_list found.places.items w)) hub_told

  pub told_is : IsToldCompetition R found made
  told_is =
      record {
        one_by_person = ap length persons_are ∙ length-map-range_with_len (λ v. turned_if turned (in_table table (0 + v))) 1 (length R.takes);
        one_by_thing = ap length things_are ∙ length-map-range_with_len (λ v. turned_if turned (in_table table (length R.takes + v))) 1 (length R.needs);
        persons = λ v k. place_told made.persons.items 0 (length R.takes) v persons_are v k (omega arith) (k.0, omega (arith, k));
        things = λ v k.
            place_told made.things.items (length R.takes) (length R.needs) (length R.takes + v) things_are v k refl (omega (arith, k), omega (arith, k));
        side = side_is ∙ ap (λ t. side_told t found.side) hub_told;
        are_amounts = amounts_are;
      }

-- ---- what it means

pub told_competition : (R : Roster) (found : Bottleneck) (made : Competition) → IsSoundRoster R
    → IsBottleneck (model_of R) (in_list found.places.items) found.side → IsToldCompetition R found made
    → IsCompetition R (in_table made.persons.items) (in_table made.things.items) made.side
told_competition R found made sound h told =
    go (in_list found.places.items (hub_of R)) refl told.persons told.things found.side h made.side told.side
  where
    P : ℕ → Bool
    P = in_table made.persons.items

    T : ℕ → Bool
    T = in_table made.things.items

    F : ℕ → Bool
    F = in_list found.places.items

    go : (t : Bool) → F (hub_of R) ≡ t → ((v : ℕ) → IsNode (length R.takes) v → P v ≡ turned_if t (F v))
        → ((v : ℕ) → IsNode (length R.needs) v → T v ≡ turned_if t (F (length R.takes + v)))
        → (side : Side) → IsBottleneck (model_of R) F side → (got : Side) → got ≡ side_told t side → IsCompetition R P T got
    go false hub persons things Send k got is =
        subst (IsCompetition R P T) (sym is) (told_send R sound F P T (record { hub = hub; person = persons; thing = things }) k)
    go false hub persons things Take k got is =
        subst (IsCompetition R P T) (sym is) (told_take R sound F P T (record { hub = hub; person = persons; thing = things }) k)
    go true hub persons things Send k got is =
        subst (IsCompetition R P T) (sym is)
        (told_take R sound (λ v. not (F v)) P T (record { hub = ap not hub; person = persons; thing = things }) (turned_send R sound F k))
    go true hub persons things Take k got is =
        subst (IsCompetition R P T) (sym is)
        (told_send R sound (λ v. not (F v)) P T (record { hub = ap not hub; person = persons; thing = things }) (turned_take R sound F k))

pub found_places : (R : Roster) (b : Bottleneck) → HasNoPlan (model_of R) b → All (IsNode (hub_of R)) b.places.items
found_places R b h = all_of (IsNode (length (model_of R).supplies)) (IsNode (hub_of R)) b.places.items (λ v k. is_place_of R v k) h.are_places

pub no_choice : (R : Roster) (b : Bottleneck) (made : Competition) → IsSoundRoster R → HasNoPlan (model_of R) b → IsToldCompetition R b made → HasNoChoice R made
no_choice R b made sound h told =
    record {
      one_by_person = told.one_by_person;
      one_by_thing = told.one_by_thing;
      is_competition = told_competition R b made sound h.is_bottleneck told;
      are_amounts = told.are_amounts;
      none = λ chosen is. h.none (plan_of R chosen) (choice_is_plan R chosen sound is).is_plan;
    }

pub best_choice : (R : Roster) (found : LeastPlan) (made : LeastChoice) → IsSoundRoster R → IsBestPlan (model_of R) found
    → made.chosen.items ≡ choice_of R found.carries.items → made.value ≡ found.cost → IsBestChoice R made
best_choice R found made sound best e f =
    record {
      least = subst (IsLeastChoice R) (sym e) (least_plans_are_least_choices_lem R found.carries.items sound best.least);
      value_is = f ∙ best.cost_is ∙ sym (plan_is_choice R sound found.carries.items best.least.is_plan).same_value ∙ ap (value R) (sym e);
    }

-- ---- nobody and nothing

-- where there is nobody, the choice of no pairs is least
pub vacant_choice : (R : Roster) (made : LeastChoice) → IsSoundRoster R → (length R.takes + length R.needs) ≡ 0 → made.chosen.items ≡ []
    → made.value ≡ pos 0 → IsBestChoice R made
vacant_choice R made sound none e f =
    let pairs : R.pairs ≡ [] = no_pairs R.pairs sound.pairs in
    record {
      least = subst (IsLeastChoice R) (sym e) (record {
        is_choice = record {
          one_by_pair = ap length (sym pairs);
          persons = λ v k. absurd (omega (arith, k, none));
          things = λ v k. absurd (omega (arith, k, none));
        };
        least = λ other is.
            let mine : value R [] ≡ pos 0 = ap (λ ps. chosen_sum (λ p. p.cost) ps []) pairs in
            let its : value R other ≡ pos 0 = ap (λ ps. chosen_sum (λ p. p.cost) ps other) pairs in
            omega (arith, ints, mine, its);
      });
      value_is = f ∙ sym (ap (λ ps. chosen_sum (λ p. p.cost) ps []) pairs) ∙ ap (value R) (sym e);
    }
  where
    no_pairs : (ps : List Pair) → All (HasBothEnds (length R.takes) (length R.needs)) ps → ps ≡ []
    no_pairs [] h = refl
    no_pairs (p ∷ ps) h =
        let k = (All-head (HasBothEnds (length R.takes) (length R.needs)) p ps h).person in
        absurd (omega (arith, k, none))
