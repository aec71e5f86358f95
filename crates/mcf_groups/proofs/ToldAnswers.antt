-- Answers for models, told of rosters with groups.
use Rattle.std.proofs.Common.{◌≡◌, ℕ, ◌-◌, Bool, true, false, List, length, map, refl, ap, sym, ◌∙◌, subst, arith}
use Rattle.std.specs.Prelude.{None}
use Rattle.std.proofs.lemmas.List.{get_or-map, length-map}
use Rattle.mcf_flows.specs.Blocking.{in_list, in_table}
use Rattle.mcf_flows.specs.Network.{IsNode}
use Rattle.mcf_model.specs.declared.planning.Bottleneck.{Bottleneck}
use Rattle.mcf_model.specs.declared.planning.LeastPlan.{LeastPlan}
use Rattle.mcf_model.specs.Bottlenecks.{IsBottleneck}
use Rattle.mcf_model.specs.Complements.{side_told, turned_if}
use Rattle.mcf_model.specs.Planning.{HasNoPlan, IsBestPlan}
use Rattle.mcf_roster.specs.declared.answering.LeastChoice.{LeastChoice}
use Rattle.mcf_roster.specs.Models.{choice_of, hub_of}
use Rattle.mcf_roster.specs.RosterFaults.{IsSoundRoster}
use Rattle.mcf_roster.specs.Rosters.{Roster, value}
use Rattle.mcf_groups.specs.declared.answering.GroupCompetition.{GroupCompetition}
use Rattle.mcf_groups.specs.declared.groups.Group.{Group}
use Rattle.mcf_groups.specs.GroupAnswers.{HasNoGroupChoice, IsBestGroupChoice}
use Rattle.mcf_groups.specs.GroupFaults.{group_fault}
use Rattle.mcf_groups.specs.GroupModels.{group_model, group_plan}
use Rattle.mcf_groups.specs.Groups.{IsLeastGroupChoice}
use Rattle.mcf_groups.specs.Nests.{start_of}
use Rattle.mcf_groups.proofs.Cuts.{told_bottleneck}
use Rattle.mcf_groups.proofs.GroupPlans.{choice_in_groups, least_plans_are_least_lem, plan_in_groups}
use Rattle.mcf_groups.proofs.Models.{all_limited, nest_sound, nothing_supplied, places_are, routes_ended}
use Rattle.mcf_groups.proofs.Stages.{start_sound}

module _ (R : Roster) (gs : List Group) (sound : IsSoundRoster R) (fine : group_fault R gs ≡ None) where
  pub best_group_choice : (found : LeastPlan) (made : LeastChoice) → IsBestPlan (group_model R gs) found
      → made.chosen.items ≡ choice_of R found.carries.items → made.value ≡ found.cost → IsBestGroupChoice R gs made
  best_group_choice found made best e f =
      record {
        least = subst (IsLeastGroupChoice R gs) (sym e) (least_plans_are_least_lem R gs found.carries.items sound fine best.least);
        value_is = f ∙ best.cost_is ∙ sym (plan_in_groups R gs sound fine found.carries.items best.least.is_plan).same_value ∙ ap (value R) (sym e);
      }

  -- the marks of a table, turned if they have to be
  marks_told : (turned : Bool) (table : List Bool) (v : ℕ) → IsNode (length table) v
      → in_table (map (turned_if turned) table) v ≡ turned_if turned (in_table table v)
  marks_told turned table v k = get_or-map (turned_if turned) table (v - 1) false false (omega (arith, k))

  turned_itself : (b : Bool) → turned_if b b ≡ false
  turned_itself true = refl
  turned_itself false = refl

  pub no_group_choice : (b : Bottleneck) (made : GroupCompetition) (table : List Bool) (turned : Bool) → HasNoPlan (group_model R gs) b
      → length table ≡ length (group_model R gs).supplies
      → ((v : ℕ) → IsNode (length (group_model R gs).supplies) v → in_table table v ≡ in_list b.places.items v)
      → turned ≡ in_table table (hub_of R) → made.places.items ≡ map (turned_if turned) table → made.side ≡ side_told turned b.side
      → HasNoGroupChoice R gs made
  no_group_choice b made table turned h long marks turned_is places_is side_is =
      let m = group_model R gs in
      let few = (nest_sound R sound (start_of R) (start_sound R) gs).hub in
      record {
        without_hub = ap (λ xs. in_table xs (hub_of R)) places_is
            ∙ marks_told turned table (hub_of R) (omega arith, omega (arith, few, long, places_are R sound gs))
            ∙ ap (turned_if turned) (sym turned_is) ∙ turned_itself turned;
        one_by_place = ap length places_is ∙ length-map table (turned_if turned) ∙ long;
        is_bottleneck = subst (IsBottleneck m (in_table made.places.items)) (sym side_is)
            (told_bottleneck m (nothing_supplied R sound gs) (routes_ended R sound gs) (all_limited R sound gs) (in_list b.places.items) (in_table made.places.items) turned
            (λ v k. ap (λ xs. in_table xs v) places_is ∙ marks_told turned table v (k.0, omega (arith, k, long)) ∙ ap (turned_if turned) (marks v k))
            b.side h.is_bottleneck);
        none = λ chosen is. h.none (group_plan R gs chosen) (choice_in_groups R gs sound fine chosen is).is_plan;
      }
