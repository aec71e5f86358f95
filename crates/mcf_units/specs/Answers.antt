-- The planner's problem of two tables.
-- Source: own
use Rattle.std.specs.Prelude.{◌≡◌, [], map}
use Rattle.mcf_places.specs.PlannerFaults.{IsProperPlanner, planner_faults}
use Rattle.mcf_reading.specs.Reading.{Entries}
use Rattle.mcf_units.specs.declared.making.Made.{Made}
use Rattle.mcf_units.specs.declared.making.Made.TheVariants.{Problem, TooGreat, Improper}
use Rattle.mcf_units.specs.declared.terms.Terms.{Terms}
use Rattle.mcf_units.specs.GreatNumbers.{great_faults}
use Rattle.mcf_units.specs.Scales.{scales_of}
use Rattle.mcf_units.specs.Wholes.{place_in, planner_in, policy_in, rows_in, steps_in}

-- The problem of the tables in whole units, which has no fault; or else all numbers that are too
-- great; or, if no number is, all faults of the problem.
abbrev pub IsMadeOf : Entries → Terms → Made → Type 0
IsMadeOf said terms (Problem made) =
    let s = scales_of said terms.penalty in
    (made.scales ≡ s) × (made.planner ≡ planner_in s said terms) × (great_faults s said terms ≡ []) × IsProperPlanner made.planner
IsMadeOf said terms (TooGreat faults) =
    (faults.items ≡ great_faults (scales_of said terms.penalty) said terms) × ¬ (faults.items ≡ [])
IsMadeOf said terms (Improper faults) =
    let s = scales_of said terms.penalty in
    (great_faults s said terms ≡ [])
    × (faults.items ≡ planner_faults (map (place_in s) said.places) (steps_in s said.routes) (rows_in s 0 said.routes) (policy_in s terms))
    × ¬ (faults.items ≡ [])
