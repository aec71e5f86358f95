-- The laws between a model and the one after a split.
-- Source: own
use Rattle.std.specs.Prelude.{◌≡◌, List, length, take, ℤ}
use Rattle.std.specs.List.{All}
use Rattle.mcf_flows.specs.Network.{IsNode}
use Rattle.mcf_model.specs.Model.{IsPlan, Model, plan_cost}
use Rattle.mcf_groups.specs.Splits.{HasEnds, MayAllMove, PassesWithin, Split, split, split_plan}

-- the ends of routes are places, and so are all old places, which the routes that move leave or
-- enter
pub record MaySplit (m : Model) (s : Split) : Type 0 where
  pub ends : All (HasEnds (length m.supplies)) m.routes
  pub old_places : All (IsNode (length m.supplies)) s.olds
  pub moves : MayAllMove s.leave s.olds s.moves m.routes

-- a plan after the split that stands for a plan before it
pub record IsSplitPlan (m : Model) (s : Split) (plan longer : List ℤ) : Type 0 where
  pub is_plan : IsPlan (split m s) longer
  pub same_cost : plan_cost (split m s) longer ≡ plan_cost m plan

-- a plan before the split that stands for a plan after it
pub record IsWholePlan (m : Model) (s : Split) (longer plan : List ℤ) : Type 0 where
  pub is_plan : IsPlan m plan
  pub within : PassesWithin s plan
  pub back_again : split_plan s plan ≡ longer

-- the plans after the split are just the plans before it in which new places pass on an amount
-- within the range, at the same cost
pub record SplitsKeepPlans : Type 0 where
  pub plans_are_split : (m : Model) (s : Split) (plan : List ℤ) → MaySplit m s → IsPlan m plan → PassesWithin s plan
      → IsSplitPlan m s plan (split_plan s plan)
  pub plans_are_whole : (m : Model) (s : Split) (longer : List ℤ) → MaySplit m s → IsPlan (split m s) longer
      → IsWholePlan m s longer (take (length m.routes) longer)
