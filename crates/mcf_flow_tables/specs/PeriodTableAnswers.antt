-- The answer to two tables over periods. No network is named here.
-- Source: own
use Rattle.std.specs.Prelude.{◌≡◌, ◌⊎◌, List, [], Option, Some, None, Result, Ok, Err}
use Rattle.mcf_decimal.specs.declared.mark.Mark.{Mark}
use Rattle.mcf_periods.specs.Flat.{flat}
use Rattle.mcf_periods.specs.PeriodAnswers.{IsPeriodAnswer}
use Rattle.mcf_periods.specs.PeriodLaws.{IsTimely}
use Rattle.mcf_period_reading.specs.HeadFaults.{head_faults}
use Rattle.mcf_period_reading.specs.PeriodReading.{IsReadOf, row_faults}
use Rattle.mcf_period_reading.specs.declared.reading.PeriodTables.{PeriodTables}
use Rattle.mcf_period_units.specs.Made.{ComeFrom, IsMadeOver, periods_in}
use Rattle.mcf_period_units.specs.PeriodEntries.{PeriodEntries, entries_over}
use Rattle.mcf_period_units.specs.PeriodGreats.{greats}
use Rattle.mcf_period_units.specs.PeriodScales.{scales_over}
use Rattle.mcf_period_units.specs.declared.making.MadeOver.TheVariants.{Improper as ImproperOver, TooGreat as GreatOver}
use Rattle.mcf_places.specs.Answers.{IsPlannerAnswer}
use Rattle.mcf_places.specs.PlannerFaults.{IsProperPlanner}
use Rattle.mcf_reading.specs.Reading.{Entries, read_heads, read_rows}
use Rattle.mcf_reading.specs.declared.kinds.Fault.{Fault}
use Rattle.mcf_table.specs.Texts.{Record}
use Rattle.mcf_units.specs.declared.terms.Terms.{Terms}
use Rattle.mcf_flow_tables.specs.PlannerOrigins.{origin_in}
use Rattle.mcf_flow_tables.specs.declared.options.Options.{Options}
use Rattle.mcf_flow_tables.specs.declared.period_answer.PeriodAnswer.{PeriodAnswer}
use Rattle.mcf_flow_tables.specs.declared.period_answer.PeriodTableFaults.{PeriodTableFaults}
use Rattle.mcf_flow_tables.specs.declared.period_answer.PeriodAnswer.TheVariants.{Faults, Improper, Solved, TooGreat}

-- the faults that a reading ends with, if it ends with some
abbrev pub faults_in : {A : Type 0} → Result A (List Fault) → Option (List Fault)
faults_in (Ok said) = None
faults_in (Err faults) = Some faults

-- no fault is told
abbrev pub TellsNone : PeriodTableFaults → Type 0
TellsNone told = (told.cells ≡ None) × (told.periods.items ≡ [])

-- The answer to what tables say over periods: what is too great, or too late; or all faults of the
-- problem; or, if there are none of either, a least plan over periods, in the units of the tables,
-- or that there is none, with a bottleneck of the problem without periods, or the first number
-- beyond the limits and where it comes from; and the mark before decimals. What is sent arrives by
-- the last period.
abbrev pub IsSolvedOver : PeriodEntries → Terms → PeriodAnswer → Type 0
IsSolvedOver E terms (Solved solved) =
    let s = scales_over E terms.penalty in
    (solved.mark ≡ E.said.mark) × (solved.scales ≡ s) × (greats s E terms ≡ []) × ComeFrom s E solved.origins
    × (solved.planner ≡ flat (periods_in s E terms)) × IsProperPlanner solved.planner × IsPlannerAnswer solved.planner solved.answer
    × IsPeriodAnswer (periods_in s E terms) solved.answer × (solved.origin ≡ origin_in solved.planner solved.answer)
    × IsTimely (periods_in s E terms)
IsSolvedOver E terms (TooGreat faults) = IsMadeOver E terms (GreatOver faults)
IsSolvedOver E terms (Improper made) = IsMadeOver E terms (ImproperOver made)
IsSolvedOver E terms (Faults faults) = ⊥

-- all faults of heads, or of a second mark before decimals: those of the columns without periods,
-- and those of the columns about periods
pub record AreHeadFaults (named : Option Mark) (places routes : List Record) (told : PeriodTableFaults) : Type 0 where
  pub cells : told.cells ≡ faults_in (read_heads named places routes)
  pub periods : told.periods.items ≡ head_faults places routes
  pub some : ¬ TellsNone told

-- all faults of rows under a mark: those of cells without periods, and those of what the rows say
-- about periods
pub record AreRowFaults (mark : Option Mark) (places routes : List Record) (told : PeriodTableFaults) : Type 0 where
  pub cells : told.cells ≡ faults_in (read_rows mark places routes)
  pub periods : told.periods.items ≡ row_faults mark places routes
  pub some : ¬ TellsNone told

-- the rows have no fault under a mark, and this is the answer to what they say
pub record IsSolvedOf (mark : Option Mark) (places routes : List Record) (terms : Terms) (answer : PeriodAnswer) : Type 0 where
  pub said : Entries
  pub times : PeriodTables
  pub reads : read_rows mark places routes ≡ Ok said
  pub times_are : IsReadOf mark places routes (Ok times)
  pub solved : IsSolvedOver (entries_over said times) terms answer

-- the answer to the rows under a mark: all their faults; or, if there are none, the answer to what
-- they say
abbrev pub IsAnswerUnder : Option Mark → List Record → List Record → Terms → PeriodAnswer → Type 0
IsAnswerUnder mark places routes terms (Faults faults) = AreRowFaults mark places routes faults
IsAnswerUnder mark places routes terms (Solved s) = IsSolvedOf mark places routes terms (Solved s)
IsAnswerUnder mark places routes terms (TooGreat faults) = IsSolvedOf mark places routes terms (TooGreat faults)
IsAnswerUnder mark places routes terms (Improper made) = IsSolvedOf mark places routes terms (Improper made)

-- the heads have no fault, and this is the answer to the rows, under the mark that was read
pub record IsReadAnswer (places routes : List Record) (options : Options) (answer : PeriodAnswer) : Type 0 where
  pub mark : Option Mark
  pub heads : read_heads options.mark places routes ≡ Ok mark
  pub period_heads : head_faults places routes ≡ []
  pub answers : IsAnswerUnder mark places routes options.terms answer

-- The answer to two tables over periods: all faults of heads; or, if there are none, the answer to
-- the rows.
abbrev pub IsPeriodTableAnswer : List Record → List Record → Options → PeriodAnswer → Type 0
IsPeriodTableAnswer places routes options (Faults faults) =
    AreHeadFaults options.mark places routes faults ⊎ IsReadAnswer places routes options (Faults faults)
IsPeriodTableAnswer places routes options (Solved s) = IsReadAnswer places routes options (Solved s)
IsPeriodTableAnswer places routes options (TooGreat faults) = IsReadAnswer places routes options (TooGreat faults)
IsPeriodTableAnswer places routes options (Improper made) = IsReadAnswer places routes options (Improper made)
