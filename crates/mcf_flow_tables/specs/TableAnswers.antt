-- The answer to a table of places and a table of routes. No network is named here.
-- Source: own
use Rattle.std.specs.Prelude.{◌≡◌, ℕ, true, false, ◌&&◌, List, [], Option, Some, None, Ok, Err}
use Rattle.std.specs.Option.{is_none}
use Rattle.mcf_places.specs.Answers.{IsPlannerAnswer}
use Rattle.mcf_places.specs.PlannerFaults.{IsProperPlanner}
use Rattle.mcf_period_reading.specs.HeadFaults.{tells_periods}
use Rattle.mcf_reading.specs.Reading.{Entries, read_tables}
use Rattle.mcf_table.specs.Texts.{Record}
use Rattle.mcf_text.specs.Lines.{lines_of, numbered_lines}
use Rattle.mcf_table.specs.declared.fault.TextFault.{TextFault}
use Rattle.mcf_units.specs.Answers.{IsMadeOf}
use Rattle.mcf_units.specs.declared.making.Made.TheVariants.{Improper as ImproperProblem, TooGreat as GreatNumbers}
use Rattle.mcf_units.specs.declared.terms.Terms.{Terms}
use Rattle.mcf_units.specs.GreatNumbers.{great_faults}
use Rattle.mcf_units.specs.Scales.{scales_of}
use Rattle.mcf_units.specs.Wholes.{planner_in}
use Rattle.mcf_flow_tables.specs.declared.answering.ProblemAnswer.{ProblemAnswer}
use Rattle.mcf_flow_tables.specs.declared.answering.ProblemAnswer.TheVariants.{Improper, Solved, TooGreat}
use Rattle.mcf_flow_tables.specs.declared.answering.TableAnswer.{TableAnswer}
use Rattle.mcf_flow_tables.specs.declared.answering.TableAnswer.TheVariants.{Faults, Periods, Problem}
use Rattle.mcf_flow_tables.specs.declared.flow_answer.FlowAnswer.{FlowAnswer}
use Rattle.mcf_flow_tables.specs.declared.flow_answer.FlowAnswer.TheVariants.{NoColumns, NoTables, Tables}
use Rattle.mcf_flow_tables.specs.declared.flow_answer.SaidTables.{SaidTables}
use Rattle.mcf_flow_tables.specs.declared.options.Options.{Options}
use Rattle.mcf_flow_tables.specs.declared.options.Texts.{Texts}
use Rattle.mcf_flow_tables.specs.Lacking.{lacking}
use Rattle.mcf_flow_tables.specs.PeriodTableAnswers.{IsPeriodTableAnswer}
use Rattle.mcf_flow_tables.specs.Prepared.{AreFilled, done_to, prepared_places, prepared_routes}
use Rattle.mcf_flow_tables.specs.PlannerOrigins.{origin_in}
use Rattle.mcf_flow_tables.specs.TableTexts.{IsBrokenText, IsTableOf, place_wanted, route_wanted}

-- The answer to what tables say: each number that is too great; or all faults of the problem; or,
-- if there are none of either, a least plan of it, in the units of the tables, or a bottleneck, or
-- the first number beyond the limits and where it comes from; and the mark before decimals.
abbrev pub IsProblemAnswer : Entries → Terms → ProblemAnswer → Type 0
IsProblemAnswer said terms (Solved s) =
    (s.mark ≡ said.mark) × (s.scales ≡ scales_of said terms.penalty) × (s.planner ≡ planner_in s.scales said terms) × (great_faults s.scales said terms ≡ [])
    × IsProperPlanner s.planner × IsPlannerAnswer s.planner s.answer × (s.origin ≡ origin_in s.planner s.answer)
IsProblemAnswer said terms (TooGreat faults) = IsMadeOf said terms (GreatNumbers faults)
IsProblemAnswer said terms (Improper faults) = IsMadeOf said terms (ImproperProblem faults)

-- The answer to the rows of two tables, if no column says something about periods, and no head is
-- nearly one of those that do: all faults of heads and cells; or, if there are none, the answer to
-- what they say. Otherwise their answer over periods.
abbrev pub IsTableAnswer : List Record → List Record → Options → TableAnswer → Type 0
IsTableAnswer places routes options (Periods answer) =
    (tells_periods places routes ≡ true) × IsPeriodTableAnswer places routes options answer
IsTableAnswer places routes options (Faults faults) =
    (tells_periods places routes ≡ false) × (read_tables options.mark places routes ≡ Err faults)
IsTableAnswer places routes options (Problem answer) =
    (tells_periods places routes ≡ false) × (said : Entries) × (read_tables options.mark places routes ≡ Ok said) × IsProblemAnswer said options.terms answer

-- the text is a table, or it is none for this reason
abbrev pub IsBrokenBy : List (List ℕ) → List ℕ → Option TextFault → Type 0
IsBrokenBy wanted text None = (records : List Record) × IsTableOf wanted text records
IsBrokenBy wanted text (Some fault) = IsBrokenText wanted text fault

-- the bytes of two tables, and of the heads of the columns that are filled down, one a line
pub record FlowBytes : Type 0 where
  pub places : List ℕ
  pub routes : List ℕ
  pub fill_down : List ℕ

-- those of texts
abbrev pub bytes_in : Texts → FlowBytes
bytes_in texts = record { places = texts.places.now; routes = texts.routes.now; fill_down = texts.fill_down.now }

-- the rows of two tables as they are read, what was done to them, and the answer to them
pub record IsSaidOf (fill_down : List ℕ) (places routes : List Record) (options : Options) (said : SaidTables) : Type 0 where
  pub places_are : said.places ≡ prepared_places (lines_of fill_down) places
  pub routes_are : said.routes ≡ prepared_routes (lines_of fill_down) places routes
  pub done_is : said.done ≡ done_to places routes
  pub filled : AreFilled (lines_of fill_down) places routes said.filled
  pub answers : IsTableAnswer said.places said.routes options said.answer

-- the numbers of the heads of columns to fill down that neither table has
abbrev pub unknown_heads : List ℕ → List Record → List Record → List ℕ
unknown_heads fill_down places routes =
    lacking (prepared_places (lines_of fill_down) places) (prepared_routes (lines_of fill_down) places routes) (numbered_lines 1 fill_down)

-- the answer to the rows of two tables: the heads of columns to fill down that neither has, if
-- there are some; or the rows as they are read, and the answer to these
abbrev pub IsRowsAnswer : List ℕ → List Record → List Record → Options → FlowAnswer → Type 0
IsRowsAnswer fill_down places routes options (NoTables broken) = ⊥
IsRowsAnswer fill_down places routes options (NoColumns numbers) = (numbers.items ≡ unknown_heads fill_down places routes) × ¬ (numbers.items ≡ [])
IsRowsAnswer fill_down places routes options (Tables said) =
    (unknown_heads fill_down places routes ≡ []) × IsSaidOf fill_down places routes options said

-- two texts are tables, and this is the answer to their rows
pub record IsAnswerOf (texts : FlowBytes) (options : Options) (answer : FlowAnswer) : Type 0 where
  pub places : List Record
  pub routes : List Record
  pub is_places : IsTableOf place_wanted texts.places places
  pub is_routes : IsTableOf route_wanted texts.routes routes
  pub answers : IsRowsAnswer texts.fill_down places routes options answer

-- The answer to two texts: why one is no table, or both aren't; or the answer to their rows.
abbrev pub IsFlowAnswer : FlowBytes → Options → FlowAnswer → Type 0
IsFlowAnswer texts options (NoTables broken) =
    IsBrokenBy place_wanted texts.places broken.places × IsBrokenBy route_wanted texts.routes broken.routes
    × ((is_none broken.places && is_none broken.routes) ≡ false)
IsFlowAnswer texts options (NoColumns numbers) = IsAnswerOf texts options (NoColumns numbers)
IsFlowAnswer texts options (Tables said) = IsAnswerOf texts options (Tables said)
