-- The model that is made of groups without faults.
use Rattle.std.proofs.Common.{◌≡◌, ◌≤◌, List, [], length, refl, ap, sym, ◌∙◌, subst, arith, ℤ, pos}
use Rattle.std.specs.Prelude.{Option, Some, None, replicate}
use Rattle.mcf_model.specs.declared.rows.RouteRow.{RouteRow}
use Rattle.mcf_roster.specs.RosterFaults.{IsSoundRoster}
use Rattle.mcf_roster.specs.Rosters.{Roster}
use Rattle.mcf_groups.specs.declared.faults.GroupFault.{GroupFault}
use Rattle.mcf_groups.specs.declared.faults.TheConstants.{PLACE_LIMIT}
use Rattle.mcf_groups.specs.declared.groups.Group.{Group}
use Rattle.mcf_groups.specs.declared.grown.Grown.{Grown}
use Rattle.mcf_groups.specs.GroupFaults.{fault_from, group_fault}
use Rattle.mcf_groups.specs.GroupModels.{group_model}
use Rattle.mcf_groups.specs.LinkRows.{IsGrown, IsGrownBy, all_links, group_rows, rows_with}
use Rattle.mcf_groups.specs.Nests.{IsSoundNest, Nest, nest_in, nest_of, start_of}
use Rattle.mcf_groups.proofs.Models.{nest_few, nest_sound, places_are}
use Rattle.mcf_groups.proofs.Stages.{start_sound}

start_few : (R : Roster) → IsSoundRoster R → (start_of R).places ≤ PLACE_LIMIT
start_few R ends = omega (arith, ends.few)

pub few_places : (R : Roster) (gs : List Group) → IsSoundRoster R → group_fault R gs ≡ None → length (group_model R gs).supplies ≤ PLACE_LIMIT
few_places R gs ends fine =
    let few = nest_few R ends (start_of R) 1 gs fine (start_few R ends) in
    omega (arith, few, places_are R ends gs)

module _ (R : Roster) (gs : List Group) (ends : IsSoundRoster R) (S T : Nest) (l m : List RouteRow) (o : Option GroupFault) (S_is : S ≡ start_of R) (l_is : l ≡ [])
    (o_is : o ≡ None) (grown : IsGrown R gs S l T m o) where
  grown_none : IsGrown R gs (start_of R) [] T m None
  grown_none =
      subst (λ x. IsGrown R gs (start_of R) [] T m x) o_is
      (subst (λ x. IsGrown R gs (start_of R) x T m o) l_is (subst (λ x. IsGrown R gs x l T m o) S_is grown))

  pub no_fault_grown : group_fault R gs ≡ None
  no_fault_grown = grown_none.0

  pub nest_grown : T ≡ nest_of R (start_of R) gs
  nest_grown = grown_none.1

  pub sound_grown : IsSoundNest R T
  sound_grown = subst (IsSoundNest R) (sym nest_grown) (nest_sound R ends (start_of R) (start_sound R) gs)

  pub few_grown : T.places ≤ PLACE_LIMIT
  few_grown =
      let few = nest_few R ends (start_of R) 1 gs no_fault_grown (start_few R ends) in
      omega (arith, few, ap (λ (x : Nest). x.places) nest_grown)

  pub rows_grown : (rows links : List RouteRow) → links ≡ m → rows ≡ rows_with R T links → rows ≡ group_rows R gs
  rows_grown rows links e is =
      is ∙ ap (rows_with R T) (e ∙ grown_none.2) ∙ ap (λ x. rows_with R x (all_links R (start_of R) gs)) nest_grown

  pub supplies_grown : (supplies : List ℤ) → supplies ≡ replicate T.places (pos 0) → supplies ≡ replicate (nest_of R (start_of R) gs).places (pos 0)
  supplies_grown supplies is = is ∙ ap (λ (x : Nest). replicate x.places (pos 0)) nest_grown

-- groups without faults grow
none_grown : (R : Roster) (gs : List Group) (S T : Nest) (l m : List RouteRow) (o : Option GroupFault) → S ≡ start_of R → group_fault R gs ≡ None
    → IsGrown R gs S l T m o → o ≡ None
none_grown R gs S T l m None S_is fine grown = refl
none_grown R gs S T l m (Some fault) S_is fine grown =
    cc (sym fine ∙ sym (ap (λ s. fault_from R s 1 gs) S_is) ∙ grown)

pub all_grown : (R : Roster) (gs : List Group) (ends : IsSoundRoster R) (made : Grown) (S : Nest) (l m : List RouteRow) (o : Option GroupFault)
    → S ≡ start_of R → l ≡ [] → group_fault R gs ≡ None → IsGrown R gs S l (nest_in made.nest) m o → made.links.items ≡ m → IsGrownBy R gs made
all_grown R gs ends made S l m o S_is l_is fine grown links_are =
    let none = none_grown R gs S (nest_in made.nest) l m o S_is fine grown in
    record {
      nest = nest_grown R gs ends S (nest_in made.nest) l m o S_is l_is none grown;
      links = links_are ∙ (grown_none R gs ends S (nest_in made.nest) l m o S_is l_is none grown).2;
      sound = sound_grown R gs ends S (nest_in made.nest) l m o S_is l_is none grown;
      few = few_grown R gs ends S (nest_in made.nest) l m o S_is l_is none grown;
    }
