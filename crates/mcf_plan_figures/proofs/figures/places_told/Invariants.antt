use Rattle.std.proofs.Common.{◌≡◌, ◌+◌, ◌≤◌, map}
use Rattle.std.specs.List.{range_with_len}
use Rattle.mcf_plan_figures.specs.PlannerFigures.{through_number}
use Rattle.mcf_plan_figures.specs.Told.{place_told}
use Rattle.mcf_plan_figures.proofs.figures.places_told.Given as goal

abbrev pub invariant-loop-place : goal.invariant-loop-place
invariant-loop-place l = record {
  made : l.made.items ≡ map (place_told l.planner l.shown l.groups) (range_with_len 1 l.place);
  number : l.number ≡ through_number l.planner (l.place + 1);
  few : l.number ≤ l.routes + 1 + l.place;
}
