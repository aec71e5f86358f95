-- The answer for the problem without periods that stands for tables over periods is theirs.
use Rattle.std.proofs.Common.{◌≡◌, List, [], Ok, Err, inr, subst}
use Rattle.std.specs.Prelude.{IfOk, Option, Result}
use Rattle.mcf_decimal.specs.declared.mark.Mark.{Mark}
use Rattle.mcf_period_reading.specs.HeadFaults.{head_faults}
use Rattle.mcf_period_reading.specs.PeriodReading.{IsReadOf}
use Rattle.mcf_period_reading.specs.declared.reading.PeriodTables.{PeriodTables}
use Rattle.mcf_period_units.specs.Made.{IsMadeOver, periods_in}
use Rattle.mcf_period_units.specs.PeriodEntries.{PeriodEntries, entries_over}
use Rattle.mcf_period_units.specs.PeriodScales.{scales_over}
use Rattle.mcf_period_units.specs.declared.making.MadeOver.TheVariants.{Problem}
use Rattle.mcf_period_units.specs.declared.making.PeriodProblem.{PeriodProblem}
use Rattle.mcf_periods.specs.PeriodAnswers.{FlatAnswersArePeriodAnswers}
use Rattle.mcf_places.specs.Answers.{IsPlannerAnswer}
use Rattle.mcf_places.specs.Planners.{Planner}
use Rattle.mcf_places.specs.declared.answering.PlannerAnswer.{PlannerAnswer}
use Rattle.mcf_places.specs.declared.origins.Origin.{Origin}
use Rattle.mcf_reading.specs.Reading.{Entries, read_heads, read_rows}
use Rattle.mcf_table.specs.Texts.{Record}
use Rattle.mcf_units.specs.declared.terms.Terms.{Terms}
use Rattle.mcf_flow_tables.specs.PeriodTableAnswers.{IsPeriodTableAnswer, IsReadAnswer, IsAnswerUnder, IsSolvedOf, IsSolvedOver}
use Rattle.mcf_flow_tables.specs.PlannerOrigins.{origin_in}
use Rattle.mcf_flow_tables.specs.declared.options.Options.{Options}
use Rattle.mcf_flow_tables.specs.declared.period_answer.PeriodAnswer.{PeriodAnswer}
use Rattle.mcf_flow_tables.specs.declared.period_answer.PeriodAnswer.TheVariants.{Faults, Improper, Solved, TooGreat}

pub solved_periods : (E : PeriodEntries) (terms : Terms) (made : PeriodProblem) (mark : Option Mark) (answer : PlannerAnswer) (origin : Option Origin)
    → FlatAnswersArePeriodAnswers → IsMadeOver E terms (Problem made) → IsPlannerAnswer made.planner answer → mark ≡ E.said.mark
    → origin ≡ origin_in made.planner answer
    → IsSolvedOver E terms
    (Solved (record { mark = mark; scales = made.scales; origins = made.origins; planner = made.planner; answer = answer; origin = origin }))
solved_periods E terms made mark answer origin law m h of_mark of_origin =
    let P = periods_in (scales_over E terms.penalty) E terms in (
      of_mark,
      m.0,
      m.2,
      m.3,
      m.1,
      m.4,
      h,
      law P answer m.5 (subst (λ (Q : Planner). IsPlannerAnswer Q answer) m.1 h),
      of_origin,
      m.5,
    )

module _ (mark : Option Mark) (places routes : List Record) (terms : Terms) (said : Entries) (times : PeriodTables)
    (reads : read_rows mark places routes ≡ Ok said) (times_are : IsReadOf mark places routes (Ok times)) where
  solved_of : (answer : PeriodAnswer) → IsSolvedOver (entries_over said times) terms answer → IsSolvedOf mark places routes terms answer
  solved_of answer h = record { said = said; times = times; reads = reads; times_are = times_are; solved = h }

  one_answer : (answer : PeriodAnswer) → IsSolvedOver (entries_over said times) terms answer → IsAnswerUnder mark places routes terms answer
  one_answer (Solved solved) h = solved_of (Solved solved) h
  one_answer (TooGreat faults) h = solved_of (TooGreat faults) h
  one_answer (Improper made) h = solved_of (Improper made) h
  one_answer (Faults faults) h = absurd h

  pub answer_under : {M : Type 0} (r : Result PeriodAnswer M) → IfOk r (IsSolvedOver (entries_over said times) terms)
      → IfOk r (IsAnswerUnder mark places routes terms)
  answer_under (Ok answer) h = one_answer answer h
  answer_under (Err fault) h = tt

module _ (places routes : List Record) (options : Options) (mark : Option Mark) (heads : read_heads options.mark places routes ≡ Ok mark)
    (none : head_faults places routes ≡ []) where
  read_answer : (answer : PeriodAnswer) → IsAnswerUnder mark places routes options.terms answer → IsReadAnswer places routes options answer
  read_answer answer h = record { mark = mark; heads = heads; period_heads = none; answers = h }

  one_table : (answer : PeriodAnswer) → IsAnswerUnder mark places routes options.terms answer → IsPeriodTableAnswer places routes options answer
  one_table (Solved solved) h = read_answer (Solved solved) h
  one_table (TooGreat faults) h = read_answer (TooGreat faults) h
  one_table (Improper made) h = read_answer (Improper made) h
  one_table (Faults faults) h = inr (read_answer (Faults faults) h)

  pub table_answer : {M : Type 0} (r : Result PeriodAnswer M) → IfOk r (IsAnswerUnder mark places routes options.terms)
      → IfOk r (IsPeriodTableAnswer places routes options)
  table_answer (Ok answer) h = one_table answer h
  table_answer (Err fault) h = tt
