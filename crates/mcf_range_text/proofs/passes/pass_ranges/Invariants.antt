use Rattle.std.proofs.Common.{◌≡◌, ◌+◌, ◌≤◌, length}
use Rattle.mcf_plan_figures.specs.PlannerFigures.{through_number}
use Rattle.mcf_range_text.specs.PassRangeTexts.{IsPassRangeAt}
use Rattle.mcf_range_text.proofs.AreFirsts.{AreFirst}
use Rattle.mcf_range_text.proofs.passes.pass_ranges.Given as goal

abbrev pub invariant-loop-place : goal.invariant-loop-place
invariant-loop-place g l = record {
  first : AreFirst (IsPassRangeAt l.planner l.least.shown) l.place l.made.items;
  number : l.number ≡ through_number l.planner (l.place + 1);
  few : l.number ≤ length l.planner.routes + 1 + l.place;
}
