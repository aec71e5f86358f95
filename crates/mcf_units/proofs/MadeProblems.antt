-- What is made of the tables of whole numbers is what the tables say.
use Rattle.std.proofs.Common.{◌≡◌, List, [], length, map, Ok, Err, ap, sym, ◌∙◌}
use Rattle.std.specs.Global.{Vec}
use Rattle.std.proofs.lemmas.List.{nil_from_length}
use Rattle.mcf_model.specs.declared.rows.RouteRow.{RouteRow}
use Rattle.mcf_model.specs.declared.rows.Step.{Step}
use Rattle.mcf_places.specs.declared.faults.PlannerFault.{PlannerFault}
use Rattle.mcf_places.specs.declared.places.Place.{Place}
use Rattle.mcf_places.specs.declared.places.Policy.{Policy}
use Rattle.mcf_places.specs.PlannerFaults.{IsMade, IsProperPlanner, planner_faults, planner_of}
use Rattle.mcf_places.specs.Planners.{Planner}
use Rattle.mcf_places.specs.Ways.{problem_of}
use Rattle.mcf_reading.specs.declared.place_rows.PlaceEntry.{PlaceEntry}
use Rattle.mcf_reading.specs.Reading.{Entries}
use Rattle.mcf_units.specs.declared.great.GreatFault.{GreatFault}
use Rattle.mcf_units.specs.declared.making.Made.TheVariants.{Problem, Improper}
use Rattle.mcf_units.specs.declared.scales.Scales.{Scales}
use Rattle.mcf_units.specs.declared.terms.Terms.{Terms}
use Rattle.mcf_units.specs.Answers.{IsMadeOf}
use Rattle.mcf_units.specs.GreatNumbers.{great_faults}
use Rattle.mcf_units.specs.Scales.{scales_of}
use Rattle.mcf_units.specs.Wholes.{place_in, policy_in, rows_in, steps_in}
use Rattle.mcf_units.proofs.RowRoutes.{routes_of_rows}

module _ (said : Entries) (terms : Terms) (s : Scales) (entries : List PlaceEntry) (places : List Place) (steps : List Step) (rows : List RouteRow) (policy : Policy)
    (faults : List GreatFault) (scaled : s ≡ scales_of said terms.penalty) (all : entries ≡ said.places) (of_places : places ≡ map (place_in s) entries)
    (of_steps : steps ≡ steps_in s said.routes) (of_rows : rows ≡ rows_in s 0 said.routes) (of_policy : policy ≡ policy_in s terms)
    (of_faults : faults ≡ great_faults s said terms) (none : length faults ≡ 0) where
  clear : great_faults (scales_of said terms.penalty) said terms ≡ []
  clear = sym (of_faults ∙ ap (λ t. great_faults t said terms) scaled) ∙ nil_from_length faults none

  seen : places ≡ map (place_in s) said.places
  seen = of_places ∙ ap (λ (es : List PlaceEntry). map (place_in s) es) all

  -- a function of the four tables, of the tables in units
  in_units : {X : Type 0} (f : List Place → List Step → List RouteRow → Policy → X)
      → f places steps rows policy
      ≡ f (map (place_in (scales_of said terms.penalty)) said.places) (steps_in (scales_of said terms.penalty) said.routes)
      (rows_in (scales_of said terms.penalty) 0 said.routes) (policy_in (scales_of said terms.penalty) terms)
  in_units f =
      ap (λ ps. f ps steps rows policy) seen ∙ ap (λ st. f (map (place_in s) said.places) st rows policy) of_steps
      ∙ ap (λ rs. f (map (place_in s) said.places) (steps_in s said.routes) rs policy) of_rows
      ∙ ap (λ po. f (map (place_in s) said.places) (steps_in s said.routes) (rows_in s 0 said.routes) po) of_policy
      ∙ ap (λ t. f (map (place_in t) said.places) (steps_in t said.routes) (rows_in t 0 said.routes) (policy_in t terms)) scaled

  pub made_problem : (P : Planner) → IsMade places steps rows policy (Ok P) → IsProperPlanner P
      → IsMadeOf said terms (Problem (record { scales = s; planner = P }))
  made_problem P made proper =
      let t = scales_of said terms.penalty in
      let routes = routes_of_rows t [] said.routes in (
        scaled,
        made.0 ∙ in_units planner_of ∙ ap (λ rs. problem_of (map (place_in t) said.places) rs (policy_in t terms)) routes,
        clear,
        proper,
      )

  pub improper_problem : (fs : Vec PlannerFault) → IsMade places steps rows policy (Err fs) → IsMadeOf said terms (Improper fs)
  improper_problem fs made = (clear, made.0 ∙ in_units planner_faults, made.1)
