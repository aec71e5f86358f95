-- Where a number beyond the limits comes from.
-- Source: own
use Rattle.std.specs.Prelude.{Option, Some, None}
use Rattle.mcf_places.specs.declared.answering.PlannerAnswer.{PlannerAnswer}
use Rattle.mcf_places.specs.declared.answering.PlannerAnswer.TheVariants.{Beyond, Least, NoPlan}
use Rattle.mcf_places.specs.declared.origins.Origin.{Origin}
use Rattle.mcf_places.specs.Origins.{origin_of}
use Rattle.mcf_places.specs.Planners.{Planner}

-- where a number beyond the limits comes from, if that is the answer
abbrev pub origin_in : Planner → PlannerAnswer → Option Origin
origin_in P (Beyond fault) = Some (origin_of P fault)
origin_in P (Least plan) = None
origin_in P (NoPlan bottleneck) = None
