-- What a call for tables hands out, and what its numbers ask.
-- Source: own
use Rattle.std.specs.Prelude.{◌≡◌, ℕ, ◌==◌, Bool, true, false, if◌then◌else◌, List, [], ◌∷◌, Option, Some, None, option_and_then, option_map, Result, Ok, Err}
use Rattle.mcf_answer_rows.specs.declared.texts.PlanText.{PlanText}
use Rattle.mcf_answer_rows.specs.declared.texts.TextKind.{TextKind}
use Rattle.mcf_answer_rows.specs.declared.texts.TextKind.TheVariants.{Plan, NoPlan, Faults}
use Rattle.mcf_c.specs.declared.statuses.TheConstants.{BLOCKED, FLOW, INVALID_INPUT}
use Rattle.mcf_c.specs.declared.table_plans.AskedPairs.{AskedPairs}
use Rattle.mcf_c.specs.declared.table_plans.AskedTables.{AskedTables}
use Rattle.mcf_c.specs.declared.table_plans.McfPairOptions.{McfPairOptions}
use Rattle.mcf_c.specs.declared.table_plans.McfPlanOptions.{McfPlanOptions}
use Rattle.mcf_decimal.specs.Numbers.{read_number}
use Rattle.mcf_decimal.specs.declared.decimal.Decimal.{Decimal}
use Rattle.mcf_decimal.specs.declared.fault.NumberFault.{NumberFault}
use Rattle.mcf_decimal.specs.declared.mark.Mark.{Mark}
use Rattle.mcf_decimal.specs.declared.mark.Mark.TheVariants.{Point, Comma}
use Rattle.mcf_flow_tables.specs.TableAnswers.{FlowBytes}
use Rattle.mcf_flow_tables.specs.declared.options.Options.{Options}
use Rattle.mcf_pair_tables.specs.GroupAnswers.{GroupBytes}
use Rattle.mcf_pair_tables.specs.PairAnswers.{CostBytes}
use Rattle.mcf_pair_tables.specs.declared.group_options.AtCrossing.{AtCrossing}
use Rattle.mcf_pair_tables.specs.declared.group_options.AtCrossing.TheVariants.{Check, Refuse}
use Rattle.mcf_pair_tables.specs.declared.options.Each.{Each}
use Rattle.mcf_pair_tables.specs.declared.options.Each.TheVariants.{Who, What, Both}
use Rattle.mcf_pair_tables.specs.declared.options.Options.{Options as PairOptions}
use Rattle.mcf_pair_text.specs.GroupTexts.{IsGroupText}
use Rattle.mcf_pair_text.specs.PairTexts.{IsPairText}
use Rattle.mcf_range_text.specs.RangeTexts.{IsFlowText}
use Rattle.mcf_units.specs.declared.terms.Terms.{Terms}

-- the status of an answer of a kind
abbrev pub plan_status : TextKind → ℕ
plan_status Plan = FLOW
plan_status NoPlan = BLOCKED
plan_status Faults = INVALID_INPUT

-- the bytes of two tables, and of the heads of the columns that are filled down
abbrev pub flow_bytes : List ℕ → List ℕ → McfPlanOptions → FlowBytes
flow_bytes places routes numbers = record { places = places; routes = routes; fill_down = numbers.fill_down.now }

-- a text of this status is an answer to two tables, with the ranges of routes if they are asked
pub record HandsPlanText (texts : FlowBytes) (asked : AskedTables) (status : ℕ) (text : List ℕ) : Type 0 where
  pub told : PlanText
  pub is_status : status ≡ plan_status told.kind
  pub is_text : text ≡ told.text.items
  pub answers : IsFlowText asked.ranges texts asked.options told

-- the bytes of a table of persons and things, of one of groups, and of the heads of their columns
-- that are filled down
abbrev pub group_bytes : List ℕ → McfPairOptions → GroupBytes
group_bytes costs numbers = record { costs = costs; groups = numbers.groups.now; fill_down = numbers.fill_down.now }

-- those of a table of persons and things alone
abbrev pub cost_bytes : GroupBytes → CostBytes
cost_bytes texts = record { costs = texts.costs; fill_down = texts.fill_down }

-- a text is an answer to a table of persons and things; if these bytes of a table of groups aren't
-- empty, to both
abbrev pub IsTextFor : List ℕ → GroupBytes → AskedPairs → PlanText → Type 0
IsTextFor [] texts asked told = IsPairText (cost_bytes texts) asked.options told
IsTextFor (byte ∷ groups) texts asked told = IsGroupText texts (record { options = asked.options; crossing = asked.crossing }) told

-- a text is an answer to a table of persons and things, and to one of groups, unless that is empty
abbrev pub IsAskedText : GroupBytes → AskedPairs → PlanText → Type 0
IsAskedText texts asked told = IsTextFor texts.groups texts asked told

-- a text of this status is such an answer
pub record HandsPairText (texts : GroupBytes) (asked : AskedPairs) (status : ℕ) (text : List ℕ) : Type 0 where
  pub told : PlanText
  pub is_status : status ≡ plan_status told.kind
  pub is_text : text ≡ told.text.items
  pub answers : IsAskedText texts asked told

-- ---- what the numbers ask

-- the mark before decimals: that which cells show, a point, or a comma
abbrev pub asked_mark : ℕ → Option (Option Mark)
asked_mark n = if n == 0 then Some None else (if n == 1 then Some (Some Point) else (if n == 2 then Some (Some Comma) else None))

-- no or yes
abbrev pub asked_yes : ℕ → Option Bool
asked_yes n = if n == 0 then Some false else (if n == 1 then Some true else None)

-- the number that is read, if one is
abbrev pub number_in : Result Decimal NumberFault → Option (Option Decimal)
number_in (Ok number) = Some (Some number)
number_in (Err fault) = None

-- the penalty that a text names, under a mark or none; an empty text names none
abbrev pub asked_penalty : Option Mark → List ℕ → Option (Option Decimal)
asked_penalty mark [] = Some None
asked_penalty mark (byte ∷ text) = number_in (read_number mark (byte ∷ text))

-- what may be left, if each part is there
abbrev pub terms_from : Option Bool → Option Bool → Option (Option Decimal) → Option Terms
terms_from (Some unused) (Some short) (Some penalty) = Some (record { unused = unused; short = short; penalty = penalty })
terms_from None short penalty = None
terms_from (Some unused) None penalty = None
terms_from (Some unused) (Some short) None = None

-- how tables are read under a mark, and what plans may leave
abbrev pub options_under : McfPlanOptions → Option Mark → Option Options
options_under o mark =
    option_map (λ terms. record { mark = mark; terms = terms }) (terms_from (asked_yes o.allow_unused) (asked_yes o.allow_short) (asked_penalty mark o.penalty.now))

-- how tables are read, and what plans may leave, if the numbers have a meaning
abbrev pub plan_options : McfPlanOptions → Option Options
plan_options o = option_and_then (options_under o) (asked_mark o.decimal)

-- what is asked of two tables, if each part is there
abbrev pub asked_from : Option Options → Option Bool → Option AskedTables
asked_from (Some options) (Some ranges) = Some (record { options = options; ranges = ranges })
asked_from None ranges = None
asked_from (Some options) None = None

-- what the numbers ask of two tables, if they have a meaning
abbrev pub asked_tables : McfPlanOptions → Option AskedTables
asked_tables o = asked_from (plan_options o) (asked_yes o.ranges)

-- ---- what the numbers ask of persons and things

-- who gets just one: whoever the table says, each person, each thing, or both
abbrev pub asked_each : ℕ → Option (Option Each)
asked_each n =
    if n == 0 then Some None else (if n == 1 then Some (Some Who) else (if n == 2 then Some (Some What) else (if n == 3 then Some (Some Both) else None)))

-- the options, if each part is there
abbrev pub pair_options_from : Option (Option Mark) → Option (Option Each) → Option Bool → Option PairOptions
pair_options_from (Some mark) (Some each) (Some maximise) = Some (record { mark = mark; each = each; maximise = maximise })
pair_options_from None each maximise = None
pair_options_from (Some mark) None maximise = None
pair_options_from (Some mark) (Some each) None = None

-- what the numbers ask of a table of persons and things, if they have a meaning
abbrev pub pair_options : McfPairOptions → Option PairOptions
pair_options o = pair_options_from (asked_mark o.decimal) (asked_each o.each) (asked_yes o.maximise)

-- what happens to groups that cross others: they are faults, or they are left out and checked
abbrev pub asked_crossing : ℕ → Option AtCrossing
asked_crossing n = if n == 0 then Some Refuse else (if n == 1 then Some Check else None)

-- both, if each is there
abbrev pub asked_both : Option PairOptions → Option AtCrossing → Option AskedPairs
asked_both (Some options) (Some crossing) = Some (record { options = options; crossing = crossing })
asked_both None crossing = None
asked_both (Some options) None = None

-- what the numbers ask of persons and things, if they have a meaning
abbrev pub asked_pairs : McfPairOptions → Option AskedPairs
asked_pairs o = asked_both (pair_options o) (asked_crossing o.crossing)
