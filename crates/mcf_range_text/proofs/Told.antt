-- Ranges of answers, and their rows.
use Rattle.std.proofs.Common.{◌≡◌, ℕ, suc, ◌+◌, ◌<◌, ◌≤◌, true, false, List, [], ◌∷◌, ◌++◌, length, drop, drop-cons, get_or, refl, sym, ap, ◌∙◌, subst, arith, append_assoc, append-nil, Result, Ok, Err, Option, Some, None, inl, inr}
use Rattle.std.specs.Prelude.{IfOk, IfNone, IfSome}
use Rattle.std.proofs.lemmas.List.{drop_all}
use Rattle.mcf_answer_rows.proofs.RowTexts.{rows_are_table, rows_text_append}
use Rattle.mcf_answer_rows.specs.Lines.{rows_text}
use Rattle.mcf_answer_rows.specs.declared.texts.PlanText.{PlanText}
use Rattle.mcf_flow_tables.specs.PeriodTableAnswers.{IsPeriodTableAnswer}
use Rattle.mcf_flow_tables.specs.TableAnswers.{FlowBytes, IsFlowAnswer, IsProblemAnswer, IsTableAnswer}
use Rattle.mcf_flow_tables.specs.declared.answering.ProblemAnswer.{ProblemAnswer}
use Rattle.mcf_flow_tables.specs.declared.answering.ProblemAnswer.TheVariants.{TooGreat, Improper, Solved}
use Rattle.mcf_flow_tables.specs.declared.answering.TableAnswer.{TableAnswer}
use Rattle.mcf_flow_tables.specs.declared.answering.TableAnswer.TheVariants.{Faults, Periods, Problem}
use Rattle.mcf_flow_tables.specs.declared.flow_answer.FlowAnswer.{FlowAnswer}
use Rattle.mcf_flow_tables.specs.declared.flow_answer.FlowAnswer.TheVariants.{NoColumns, NoTables, Tables}
use Rattle.mcf_flow_tables.specs.declared.options.Options.{Options}
use Rattle.mcf_flow_tables.specs.declared.period_answer.PeriodAnswer.{PeriodAnswer}
use Rattle.mcf_flow_tables.specs.declared.period_answer.PeriodAnswer.TheVariants as period
use Rattle.mcf_places.specs.declared.answering.LeastPlannerPlan.{LeastPlannerPlan}
use Rattle.mcf_places.specs.Planners.{Planner, row_count}
use Rattle.mcf_places.specs.Planning.{plan_in}
use Rattle.mcf_plan_ranges.specs.PlanRanges.{AreWithinLimits}
use Rattle.mcf_plan_text.specs.PlanTexts.{answer_kind, answer_rows}
use Rattle.mcf_planner_ranges.specs.PlannerRanges.{IsPlannerRange}
use Rattle.mcf_range_text.proofs.AreFirsts.{AreFirst}
use Rattle.mcf_range_text.specs.PeriodRangeTexts.{AreRouteRanges, IsRouteRange}
use Rattle.mcf_range_text.specs.Private.Solved.{IsSolvedAnswer, IsSolvedPeriods, IsSolvedProblem, IsSolvedTable, IsToldWithRanges}
use Rattle.mcf_range_text.specs.RangeTexts.{AreRanges, AreRowRanges, IsRangedText, IsRowRange, has_way_back, range_rows, told_rows}
use Rattle.mcf_range_text.specs.UnitRangeTexts.{AreUnits, unit_rows}
use Rattle.mcf_range_text.specs.declared.units.UnitRanges.{UnitRanges}
use Rattle.mcf_ranges.specs.declared.range.CostRange.{CostRange}
use Rattle.mcf_reading.specs.Reading.{Entries}
use Rattle.mcf_table.specs.Texts.{Record}
use Rattle.mcf_units.specs.declared.scales.Scales.{Scales}
use Rattle.mcf_units.specs.declared.terms.Terms.{Terms}

-- ---- answers

solved_problem : (said : Entries) (terms : Terms) (answer : ProblemAnswer) → IsProblemAnswer said terms answer → IsSolvedProblem answer
solved_problem said terms (TooGreat faults) h = tt
solved_problem said terms (Improper faults) h = tt
solved_problem said terms (Solved s) h = h.5

solved_periods : (places routes : List Record) (options : Options) (answer : PeriodAnswer) → IsPeriodTableAnswer places routes options answer → IsSolvedPeriods answer
solved_periods places routes options (period.Faults faults) h = tt
solved_periods places routes options (period.TooGreat faults) h = tt
solved_periods places routes options (period.Improper made) h = tt
solved_periods places routes options (period.Solved s) h = h.answers.solved.6

solved_table : (places routes : List Record) (options : Options) (answer : TableAnswer) → IsTableAnswer places routes options answer → IsSolvedTable answer
solved_table places routes options (Faults faults) h = tt
solved_table places routes options (Problem answer) h = solved_problem h.1 options.terms answer h.3
solved_table places routes options (Periods answer) h = solved_periods places routes options answer h.1

pub solved_answer : (texts : FlowBytes) (options : Options) (answer : FlowAnswer) → IsFlowAnswer texts options answer → IsSolvedAnswer answer
solved_answer texts options (NoTables broken) h = tt
solved_answer texts options (NoColumns numbers) h = tt
solved_answer texts options (Tables said) h = solved_table said.places said.routes options said.answer h.answers.1.answers

-- ---- what is told of rows and of routes

module _ (P : Planner) (p : LeastPlannerPlan) where
  pub returning : (row : ℕ) → has_way_back P row ≡ true → IsRowRange P p row None
  returning row h = record { asked = tt; exact = tt; none = inl h }

  pub row_told : {E : Type 0} (result : Result (Option CostRange) E) (row : ℕ) → has_way_back P row ≡ false
      → IfOk result (λ told. IfSome told (IsPlannerRange P (plan_in p.plan) row))
      → IfOk result (λ told. IfNone told (¬ AreWithinLimits p.shown.model p.shown.prices.items p.shown.carries.items)) → IfOk result (IsRowRange P p row)
  row_told (Ok (Some range)) row h exact none = record { asked = h; exact = exact; none = tt }
  row_told (Ok None) row h exact none = record { asked = tt; exact = tt; none = inr none }
  row_told (Err e) row h exact none = tt

  pub route_told : {E : Type 0} (result : Result (Option CostRange) E) (k : ℕ) → IfOk result (λ told. IfSome told (IsPlannerRange P (plan_in p.plan) k))
      → IfOk result (λ told. IfNone told (¬ AreWithinLimits p.shown.model p.shown.prices.items p.shown.carries.items)) → IfOk result (IsRouteRange P p k)
  route_told (Ok told) k exact none = record { exact = exact; none = none }
  route_told (Err e) k exact none = tt

  pub all_told : (count : ℕ) (ranges : List (Option CostRange)) (place : ℕ) → AreFirst (IsRowRange P p) place ranges → count ≡ row_count P → place ≡ count
      → AreRowRanges P p ranges
  all_told count ranges place first e f =
      let g : place ≡ row_count P = f ∙ e in
      let all = subst (λ n. AreFirst (IsRowRange P p) n ranges) g first in
      record { by_row = all.long; each = all.each }

  pub all_routes_told : (count : ℕ) (ranges : List (Option CostRange)) (place : ℕ) → AreFirst (IsRouteRange P p) place ranges → count ≡ length P.routes
      → place ≡ count → AreRouteRanges P p ranges
  all_routes_told count ranges place first e f =
      let g : place ≡ length P.routes = f ∙ e in
      let all = subst (λ n. AreFirst (IsRouteRange P p) n ranges) g first in
      record { by_route = all.long; each = all.each }

-- ---- rows

module _ (scales : Scales) (routes : List Record) where
  one_row : (row : ℕ) (told : Option CostRange) (ranges : List (Option CostRange))
      → told_rows scales routes row (told ∷ []) ++ told_rows scales routes (suc row) ranges ≡ told_rows scales routes row (told ∷ ranges)
  one_row row (Some range) ranges = refl
  one_row row None ranges = refl

  -- the row of one more range is put
  pub row_put : (ranges : List (Option CostRange)) (place : ℕ) (told : Option CostRange) (old new whole : List ℕ) → place < length ranges
      → told ≡ get_or ranges place None → old ++ rows_text (told_rows scales routes (place + 1) (drop place ranges)) ≡ whole
      → new ≡ old ++ rows_text (told_rows scales routes (place + 1) (told ∷ []))
      → new ++ rows_text (told_rows scales routes (place + 1 + 1) (drop (place + 1) ranges)) ≡ whole
  row_put ranges place told old new whole h e before put =
      let row = place + 1 in
      let one = told_rows scales routes row (told ∷ []) in
      let rest = told_rows scales routes (suc row) (drop (suc place) ranges) in
      let same : told_rows scales routes row (drop place ranges) ≡ one ++ rest =
      ap (told_rows scales routes row) (drop-cons ranges place None h)
      ∙ ap (λ (t : Option CostRange). told_rows scales routes row (t ∷ drop (suc place) ranges)) (sym e)
      ∙ sym (one_row row told (drop (suc place) ranges)) in
      let n : place + 1 ≡ suc place = omega arith in
      let m : place + 1 + 1 ≡ suc row = omega arith in
      ap (λ k. new ++ rows_text (told_rows scales routes k (drop (place + 1) ranges))) m
      ∙ ap (λ k. new ++ rows_text (told_rows scales routes (suc row) (drop k ranges))) n
      ∙ ap (λ (xs : List ℕ). xs ++ rows_text rest) put
      ∙ append_assoc old (rows_text one) (rows_text rest)
      ∙ ap (λ (xs : List ℕ). old ++ xs) (sym (rows_text_append one rest))
      ∙ ap (λ rows. old ++ rows_text rows) (sym same) ∙ before

  -- no more
  pub rows_put : (ranges : List (Option CostRange)) (place : ℕ) (out whole : List ℕ) → length ranges ≤ place
      → out ++ rows_text (told_rows scales routes (place + 1) (drop place ranges)) ≡ whole → out ≡ whole
  rows_put ranges place out whole h before =
      let none = ap (λ (rs : List (Option CostRange)). out ++ rows_text (told_rows scales routes (place + 1) rs)) (drop_all place ranges h) in
      sym (append-nil out) ∙ sym none ∙ before

-- ---- the text

pub is_told : (answer : FlowAnswer) (ranges : List (Option CostRange)) (units : UnitRanges) (first second : List ℕ) (told : PlanText) → AreRanges answer ranges
    → AreUnits answer units → first ≡ rows_text (answer_rows answer) → second ≡ first ++ rows_text (range_rows answer ranges)
    → told.text.items ≡ second ++ rows_text (unit_rows answer units) → told.kind ≡ answer_kind answer → IsToldWithRanges answer told
is_told answer ranges units first second told are are_units one two all kind =
    let rows = answer_rows answer in
    let costs = range_rows answer ranges in
    let holds = unit_rows answer units in
    record {
      ranges = ranges;
      are_ranges = are;
      units = units;
      are_units = are_units;
      text_is = all ∙ ap (λ (xs : List ℕ). xs ++ rows_text holds) (two ∙ ap (λ (xs : List ℕ). xs ++ rows_text costs) one)
          ∙ append_assoc (rows_text rows) (rows_text costs) (rows_text holds)
          ∙ ap (λ (xs : List ℕ). rows_text rows ++ xs) (sym (rows_text_append costs holds)) ∙ sym (rows_text_append rows (costs ++ holds));
      kind_is = kind;
    }

pub is_ranged_text : {E : Type 0} (r : Result PlanText E) (texts : FlowBytes) (options : Options) (answer : FlowAnswer)
    → IsFlowAnswer texts options answer → IfOk r (IsToldWithRanges answer) → IfOk r (IsRangedText texts options)
is_ranged_text (Err fault) texts options answer answers told = tt
is_ranged_text (Ok text) texts options answer answers told =
    record {
      answer = answer;
      answers = answers;
      ranges = told.ranges;
      are_ranges = told.are_ranges;
      units = told.units;
      are_units = told.are_units;
      text_is = told.text_is ∙ rows_are_table (answer_rows answer ++ (range_rows answer told.ranges ++ unit_rows answer told.units));
      kind_is = told.kind_is;
    }
