-- The plans that the code returns.
-- Source: own
use Rattle.mcf_places.specs.declared.reading.PlannerPlan.{PlannerPlan}
use Rattle.mcf_places.specs.Planners.{Plan}

-- the plan, as the definitions have it
abbrev pub plan_in : PlannerPlan → Plan
plan_in p = record { carries = p.carries.items; stays = p.stays.items; missing = p.missing.items }
