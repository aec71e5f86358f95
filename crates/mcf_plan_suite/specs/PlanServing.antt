-- What the command `mcfplan` does.
-- Source: own
use Rattle.std.specs.Prelude.{◌≡◌, ◌⊎◌, ℕ, Bool, true, false, List, [], Option, Some, None, option_map, Result, Ok, codes}
use Rattle.std.specs.Borrow.{Bor}
use Rattle.std.specs.Fn.{CalledAt, Mut}
use Rattle.std.specs.Io.KnownBytes.{Appends}
use Rattle.clap.specs.Words.{App, IsAmong, Text, fault_of}
use Rattle.clap.specs.declared.error.kind.ErrorKind.{ErrorKind}
use Rattle.clap.specs.declared.error.kind.ErrorKind.TheVariants.{DisplayHelp, DisplayVersion}
use Rattle.mcf_decimal.specs.Numbers.{read_number}
use Rattle.mcf_decimal.specs.declared.decimal.Decimal.{Decimal}
use Rattle.mcf_decimal.specs.declared.fault.NumberFault.{NumberFault}
use Rattle.mcf_decimal.specs.declared.mark.Mark.{Mark}
use Rattle.mcf_flow_tables.specs.TableAnswers.{FlowBytes}
use Rattle.mcf_flow_tables.specs.declared.options.Options.{Options}
use Rattle.mcf_pair_tables.specs.GroupAnswers.{GroupBytes}
use Rattle.mcf_pair_tables.specs.PairAnswers.{CostBytes}
use Rattle.mcf_pair_tables.specs.declared.group_options.AtCrossing.{AtCrossing}
use Rattle.mcf_pair_tables.specs.declared.group_options.AtCrossing.TheVariants.{Check, Refuse}
use Rattle.mcf_pair_tables.specs.declared.options.Each.{Each}
use Rattle.mcf_pair_tables.specs.declared.options.Each.TheVariants as each
use Rattle.mcf_pair_tables.specs.declared.options.Options.{Options as PairOptions}
use Rattle.mcf_pair_text.specs.GroupTexts.{IsGroupText}
use Rattle.mcf_pair_text.specs.PairTexts.{IsPairText}
use Rattle.mcf_plan_asking.specs.PlanAsking.{AsksPlan, IsMcfplan, word_text}
use Rattle.mcf_plan_asking.specs.declared.asking.AskedEach.{AskedEach}
use Rattle.mcf_plan_asking.specs.declared.asking.AskedEach.TheVariants as asked
use Rattle.mcf_plan_asking.specs.declared.asking.AskedFlow.{AskedFlow}
use Rattle.mcf_plan_asking.specs.declared.asking.AskedPairs.{AskedPairs}
use Rattle.mcf_plan_asking.specs.declared.asking.AskedPlan.{AskedPlan}
use Rattle.mcf_plan_asking.specs.declared.asking.AskedPlan.TheVariants.{Flow, Pairs}
use Rattle.mcf_range_text.specs.RangeTexts.{IsFlowText}
use Rattle.mcf_answer_rows.specs.declared.texts.PlanText.{PlanText}
use Rattle.mcf_answer_rows.specs.declared.texts.TextKind.{TextKind}
use Rattle.mcf_answer_rows.specs.declared.texts.TextKind.TheVariants.{Plan, NoPlan, Faults}
use Rattle.mcf_reading.specs.Cells.{as_limit}
use Rattle.mcf_solver.specs.Running.{TakesBeginning}

-- the status that tells of an answer
abbrev pub status_of : TextKind → ℕ
status_of Plan = 0
status_of NoPlan = 1
status_of Faults = 2

-- the penalty that is named, if one is, under a mark or none
abbrev pub penalty_in : Option Mark → Option Text → Result (Option Decimal) NumberFault
penalty_in mark None = Ok None
penalty_in mark (Some word) = as_limit (read_number mark word)

-- how tables are read, and what plans may leave
abbrev pub options_in : AskedFlow → Option Decimal → Options
options_in asked penalty =
    record { mark = asked.mark; terms = record { unused = asked.unused; short = asked.short; penalty = penalty } }

-- the bytes of a text that is named, if one is
abbrev pub word_bytes : Option Text → List ℕ
word_bytes None = []
word_bytes (Some word) = word

-- the bytes of two tables, and of the heads of the columns that are filled down
abbrev pub flow_bytes : AskedFlow → List ℕ → List ℕ → FlowBytes
flow_bytes asked places routes = record { places = places; routes = routes; fill_down = word_bytes (word_text asked.fill_down) }

-- the files of both tables are named, and the reader gave their bytes, in this order
pub record ReadsTables {F V E : Type 0} (calls : Mut F (Bor (List ℕ) × Unit {0}) (Result V E)) (read after : F) (asked : AskedFlow) (places routes : V) : Type 0 where
  pub place_file : Text
  pub route_file : Text
  pub between : F
  pub names_places : word_text asked.places ≡ Some place_file
  pub names_routes : word_text asked.routes ≡ Some route_file
  pub places_read : CalledAt calls read place_file (Ok places) between
  pub routes_read : CalledAt calls between route_file (Ok routes) after

-- the text is an answer to the two tables that are named, under the options that are asked
pub record TellsFlow {F V E : Type 0} (calls : Mut F (Bor (List ℕ) × Unit {0}) (Result V E)) (bytes : V → List ℕ) (read after : F) (asked : AskedFlow)
    (text : PlanText) : Type 0 where
  pub penalty : Option Decimal
  pub penalty_is : penalty_in asked.mark (word_text asked.penalty) ≡ Ok penalty
  pub places : V
  pub routes : V
  pub tables : ReadsTables calls read after asked places routes
  pub answers : IsFlowText asked.ranges (flow_bytes asked (bytes places) (bytes routes)) (options_in asked penalty) text

-- who gets just one
abbrev pub each_in : AskedEach → Each
each_in asked.Who = each.Who
each_in asked.What = each.What
each_in asked.Both = each.Both

-- how a table of persons and things is read, and which choice is the best
abbrev pub pair_options_in : AskedPairs → PairOptions
pair_options_in asked = record { mark = asked.mark; each = option_map each_in asked.each; maximise = asked.maximise }

-- what happens to groups that cross others
abbrev pub crossing_in : Bool → AtCrossing
crossing_in true = Check
crossing_in false = Refuse

-- the bytes of a table of persons and things, and of the heads of its columns that are filled down
abbrev pub cost_bytes : AskedPairs → List ℕ → CostBytes
cost_bytes asked costs = record { costs = costs; fill_down = word_bytes (word_text asked.fill_down) }

-- the same with a table of groups
abbrev pub group_bytes : AskedPairs → List ℕ → List ℕ → GroupBytes
group_bytes asked costs groups = record { costs = costs; groups = groups; fill_down = word_bytes (word_text asked.fill_down) }

-- the text is an answer to the table that is named, whose bytes the reader gave, under the options
-- that are asked
pub record TellsOnePairs {F V E : Type 0} (calls : Mut F (Bor (List ℕ) × Unit {0}) (Result V E)) (bytes : V → List ℕ) (read after : F) (asked : AskedPairs)
    (text : PlanText) : Type 0 where
  pub file : Text
  pub costs : V
  pub names_costs : word_text asked.costs ≡ Some file
  pub costs_read : CalledAt calls read file (Ok costs) after
  pub answers : IsPairText (cost_bytes asked (bytes costs)) (pair_options_in asked) text

-- the text is an answer to the table and the groups that are named, whose bytes the reader gave, in
-- this order, under the options that are asked
pub record TellsGroups {F V E : Type 0} (calls : Mut F (Bor (List ℕ) × Unit {0}) (Result V E)) (bytes : V → List ℕ) (read after : F) (asked : AskedPairs)
    (group_file : Text) (text : PlanText) : Type 0 where
  pub file : Text
  pub costs : V
  pub groups : V
  pub between : F
  pub names_costs : word_text asked.costs ≡ Some file
  pub costs_read : CalledAt calls read file (Ok costs) between
  pub groups_read : CalledAt calls between group_file (Ok groups) after
  pub answers : IsGroupText (group_bytes asked (bytes costs) (bytes groups)) (record { options = pair_options_in asked; crossing = crossing_in asked.check }) text

-- the same with a table of groups, if one is named
abbrev pub TellsPairsBy : {F V E : Type 0} → Mut F (Bor (List ℕ) × Unit {0}) (Result V E) → (V → List ℕ) → F → F → AskedPairs → Option Text
    → PlanText → Type 0
TellsPairsBy calls bytes read after asked None text = TellsOnePairs calls bytes read after asked text
TellsPairsBy calls bytes read after asked (Some group_file) text = TellsGroups calls bytes read after asked group_file text

-- the text is an answer to what is asked of persons and things
abbrev pub TellsPairs : {F V E : Type 0} → Mut F (Bor (List ℕ) × Unit {0}) (Result V E) → (V → List ℕ) → F → F → AskedPairs → PlanText → Type 0
TellsPairs calls bytes read after asked text = TellsPairsBy calls bytes read after asked (word_text asked.groups) text

-- the text is an answer to what is asked
abbrev pub Tells : {F V E : Type 0} → Mut F (Bor (List ℕ) × Unit {0}) (Result V E) → (V → List ℕ) → F → F → AskedPlan → PlanText → Type 0
Tells calls bytes read after (Flow asked) text = TellsFlow calls bytes read after asked text
Tells calls bytes read after (Pairs asked) text = TellsPairs calls bytes read after asked text

-- the words have no fault and ask to plan, and this holds of what they ask
pub record AsksToPlan (words : List Text) (of_asked : AskedPlan → Type 0) : Type 0 where
  pub app : App
  pub is_mcfplan : IsMcfplan app
  pub faultless : fault_of app words ≡ []
  pub asked : AskedPlan
  pub asks : AsksPlan app words asked
  pub holds : of_asked asked

-- the words have a fault of this kind; to ask for help, or for the version, is one of the kinds
pub record HavePlanFault (words : List Text) (kind : ErrorKind) : Type 0 where
  pub app : App
  pub is_mcfplan : IsMcfplan app
  pub among : IsAmong kind (fault_of app words)

-- the words ask to plan, and the sink took the text of an answer, whose kind the status tells
abbrev pub Plans : {F V E : Type 0} → Mut F (Bor (List ℕ) × Unit {0}) (Result V E) → (V → List ℕ) → F → F → List Text → ℕ
    → Option (List ℕ) → Option (List ℕ) → Type 0
Plans calls bytes read after words status old new =
    AsksToPlan words (λ asked. (text : PlanText) × Tells calls bytes read after asked text × (status ≡ status_of text.kind)
    × Appends old new text.text.items)

-- the name and the version of the program, and the logic that it was proved with
abbrev pub version_text : List ℕ
version_text = codes "mcfplan 1.0.0\nproved with Rattle, logic dac8208d650f15bf\n"

-- the sink took what is shown where the words ask for it, by the kind of their fault: some help, or
-- the version
abbrev pub IsShownPlan : ErrorKind → Option (List ℕ) → Option (List ℕ) → Type 0
IsShownPlan kind old new =
    ((kind ≡ DisplayHelp) × ((text : List ℕ) × Appends old new text)) ⊎ ((kind ≡ DisplayVersion) × Appends old new version_text)

-- the words ask for help, and the sink took some text; or for the version, and it took that
abbrev pub ShowsAsked : List Text → ℕ → Option (List ℕ) → Option (List ℕ) → Type 0
ShowsAsked words status old new =
    (HavePlanFault words DisplayHelp × (status ≡ 0) × ((text : List ℕ) × Appends old new text))
    ⊎ (HavePlanFault words DisplayVersion × (status ≡ 0) × Appends old new version_text)

-- the words ask to plan, and the sink took an answer; or they ask for help or for the version
abbrev pub ServesPlan : {F V E : Type 0} → Mut F (Bor (List ℕ) × Unit {0}) (Result V E) → (V → List ℕ) → F → F → List Text → ℕ
    → Option (List ℕ) → Option (List ℕ) → Type 0
ServesPlan calls bytes read after words status old new =
    Plans calls bytes read after words status old new ⊎ ShowsAsked words status old new
