-- What the words of a planner's command line ask.
-- Source: own
use Rattle.std.specs.Prelude.{◌≡◌, Bool, true, false, List, [], ◌∷◌, Option, Some, None, Result, IfOk, IfErr, codes, map, option_map}
use Rattle.std.specs.Borrow.{Bor}
use Rattle.clap.specs.Words.{App, FailsBy, Row, Rule, Shape, Text, fault_of, first_of, kind_of, new_app, new_rule, subcommand_of, takes, with_subcommand}
use Rattle.clap.specs.Walk.{texts}
use Rattle.clap.specs.declared.error.Error.{Error}
use Rattle.clap.specs.declared.error.kind.ErrorKind.TheVariants.{OutOfMemory}
use Rattle.mcf_asking.specs.Asking.{choice_by, word_rule}
use Rattle.mcf_decimal.specs.declared.mark.Mark.{Mark}
use Rattle.mcf_decimal.specs.declared.mark.Mark.TheVariants.{Point, Comma}
use Rattle.mcf_plan_asking.specs.declared.asking.AskedEach.{AskedEach}
use Rattle.mcf_plan_asking.specs.declared.asking.AskedEach.TheVariants.{Who, What, Both}
use Rattle.mcf_plan_asking.specs.declared.asking.AskedFlow.{AskedFlow}
use Rattle.mcf_plan_asking.specs.declared.asking.AskedPairs.{AskedPairs}
use Rattle.mcf_plan_asking.specs.declared.asking.AskedPlan.{AskedPlan}
use Rattle.mcf_plan_asking.specs.declared.asking.AskedPlan.TheVariants.{Flow, Pairs}

-- the words for the mark before decimals, and what each asks for
abbrev pub mark_words : List (Text × Option Mark)
mark_words = (codes "auto", None) ∷ (codes ".", Some Point) ∷ (codes ",", Some Comma) ∷ []

-- the words alone
abbrev pub mark_names : List Text
mark_names = map (λ (row : Text × Option Mark). row.0) mark_words

-- the words for what may be left, and what each asks for
abbrev pub leave_words : List (Text × Bool)
leave_words = (codes "refuse", false) ∷ (codes "allow", true) ∷ []

-- the words alone
abbrev pub leave_names : List Text
leave_names = map (λ (row : Text × Bool). row.0) leave_words

-- the words for who gets just one, and what each asks for
abbrev pub each_words : List (Text × Option AskedEach)
each_words = (codes "auto", None) ∷ (codes "who", Some Who) ∷ (codes "what", Some What) ∷ (codes "both", Some Both) ∷ []

-- the words alone
abbrev pub each_names : List Text
each_names = map (λ (row : Text × Option AskedEach). row.0) each_words

-- the words for no and yes, and what each asks for
abbrev pub answer_words : List (Text × Bool)
answer_words = (codes "no", false) ∷ (codes "yes", true) ∷ []

-- the words alone
abbrev pub answer_names : List Text
answer_names = map (λ (row : Text × Bool). row.0) answer_words

-- the words for groups that cross, and whether each asks to check them
abbrev pub crossing_words : List (Text × Bool)
crossing_words = (codes "refuse", false) ∷ (codes "check", true) ∷ []

-- the words alone
abbrev pub crossing_names : List Text
crossing_names = map (λ (row : Text × Bool). row.0) crossing_words

-- `--decimal MARK`, one of these words, and `auto` where it is left out
abbrev pub mark_rule : Bor (List (Bor Text)) → Rule
mark_rule names = word_rule (codes "decimal") names (codes "auto")

-- an option of this name, one of these words, and `refuse` where it is left out
abbrev pub leave_rule : Text → Bor (List (Bor Text)) → Rule
leave_rule name names = word_rule name names (codes "refuse")

-- `--each WORD`, one of these words, and `auto` where it is left out
abbrev pub each_rule : Bor (List (Bor Text)) → Rule
each_rule names = word_rule (codes "each") names (codes "auto")

-- an option of this name, one of these words, and `no` where it is left out
abbrev pub answer_rule : Text → Bor (List (Bor Text)) → Rule
answer_rule name names = word_rule name names (codes "no")

-- an option of this name with a value, which may be left out
abbrev pub text_rule : Text → Rule
text_rule name = record (new_rule name) { long = Some name; value_names = 1 }

-- `--crossing WORD`, one of these words, and `refuse` where it is left out
abbrev pub crossing_rule : Bor (List (Bor Text)) → Rule
crossing_rule names = word_rule (codes "crossing") names (codes "refuse")

-- the file of a table, which may be left out
abbrev pub table_rule : Text → Rule
table_rule name = record (new_rule name) { value_names = 1 }

-- the arguments of `flow`, with these words for marks, for what may stay, for what may be missing
-- and for whether ranges are told
abbrev pub flow_rules : Bor (List (Bor Text)) → Bor (List (Bor Text)) → Bor (List (Bor Text)) → Bor (List (Bor Text)) → List Rule
flow_rules marks unused short ranges =
    mark_rule marks ∷ leave_rule (codes "unused") unused ∷ leave_rule (codes "short") short ∷ text_rule (codes "penalty") ∷ answer_rule (codes "ranges") ranges
    ∷ text_rule (codes "fill-down") ∷ table_rule (codes "places") ∷ table_rule (codes "routes") ∷ []

-- `flow [--decimal MARK] [--unused WORD] [--short WORD] [--penalty N] [--ranges WORD]
-- [--fill-down HEADS] [PLACES] [ROUTES]`
abbrev pub flow_shape : Bor (List (Bor Text)) → Bor (List (Bor Text)) → Bor (List (Bor Text)) → Bor (List (Bor Text)) → Shape
flow_shape marks unused short ranges = record (new_app (codes "flow")).top { rules = flow_rules marks unused short ranges }

-- the arguments of `pairs`, with these words for marks, for who gets just one, for whether costs
-- are values and for groups that cross
abbrev pub pairs_rules : Bor (List (Bor Text)) → Bor (List (Bor Text)) → Bor (List (Bor Text)) → Bor (List (Bor Text)) → List Rule
pairs_rules marks each maximise crossing =
    mark_rule marks ∷ each_rule each ∷ answer_rule (codes "maximise") maximise ∷ text_rule (codes "groups") ∷ crossing_rule crossing
    ∷ text_rule (codes "fill-down") ∷ table_rule (codes "costs") ∷ []

-- `pairs [--decimal MARK] [--each WORD] [--maximise WORD] [--groups GROUPS] [--crossing WORD]
-- [--fill-down HEADS] [COSTS]`
abbrev pub pairs_shape : Bor (List (Bor Text)) → Bor (List (Bor Text)) → Bor (List (Bor Text)) → Bor (List (Bor Text)) → Shape
pairs_shape marks each maximise crossing = record (new_app (codes "pairs")).top { rules = pairs_rules marks each maximise crossing }

-- `mcfplan`, which wants a subcommand, and has a version
abbrev pub mcfplan_top : App
mcfplan_top = record { top = record (new_app (codes "mcfplan")).top { has_version = true; subcommand_required = true }; subs = [] }

-- `mcfplan` with two subcommands
abbrev pub mcfplan_app : Shape → Shape → App
mcfplan_app flow pairs = with_subcommand (with_subcommand mcfplan_top flow) pairs

-- what a parse reads of the subcommand `flow`
pub record IsFlow (shape : Shape) : Type 0 where
  pub marks : Bor (List (Bor Text))
  pub unused : Bor (List (Bor Text))
  pub short : Bor (List (Bor Text))
  pub ranges : Bor (List (Bor Text))
  pub marks_spelled : texts marks.now ≡ mark_names
  pub unused_spelled : texts unused.now ≡ leave_names
  pub short_spelled : texts short.now ≡ leave_names
  pub ranges_spelled : texts ranges.now ≡ answer_names
  pub reads : shape ≡ flow_shape marks unused short ranges

-- what a parse reads of the subcommand `pairs`
pub record IsPairs (shape : Shape) : Type 0 where
  pub marks : Bor (List (Bor Text))
  pub each : Bor (List (Bor Text))
  pub maximise : Bor (List (Bor Text))
  pub crossing : Bor (List (Bor Text))
  pub marks_spelled : texts marks.now ≡ mark_names
  pub each_spelled : texts each.now ≡ each_names
  pub maximise_spelled : texts maximise.now ≡ answer_names
  pub crossing_spelled : texts crossing.now ≡ crossing_names
  pub reads : shape ≡ pairs_shape marks each maximise crossing

-- what a parse reads of the command `mcfplan`
pub record IsMcfplan (app : App) : Type 0 where
  pub flow : Shape
  pub pairs : Shape
  pub is_flow : IsFlow flow
  pub is_pairs : IsPairs pairs
  pub reads : app ≡ mcfplan_app flow pairs

-- the mark that a word asks for
abbrev pub mark_by : Option Text → Option Mark
mark_by name = choice_by mark_words None name

-- whether a word allows
abbrev pub leave_by : Option Text → Bool
leave_by name = choice_by leave_words false name

-- who gets just one, as a word asks
abbrev pub each_by : Option Text → Option AskedEach
each_by name = choice_by each_words None name

-- whether a word says yes
abbrev pub answer_by : Option Text → Bool
answer_by name = choice_by answer_words false name

-- whether a word asks to check groups that cross
abbrev pub crossing_by : Option Text → Bool
crossing_by name = choice_by crossing_words false name

-- the texts of words
abbrev pub word_text : Option (Bor Text) → Option Text
word_text word = option_map (λ (w : Bor Text). w.now) word

-- what is asked of two tables is what matches hold
pub record IsAskedFlow (rows : List Row) (asked : AskedFlow) : Type 0 where
  pub mark : asked.mark ≡ mark_by (first_of (codes "decimal") rows)
  pub unused : asked.unused ≡ leave_by (first_of (codes "unused") rows)
  pub short : asked.short ≡ leave_by (first_of (codes "short") rows)
  pub penalty : word_text asked.penalty ≡ first_of (codes "penalty") rows
  pub ranges : asked.ranges ≡ answer_by (first_of (codes "ranges") rows)
  pub fill_down : word_text asked.fill_down ≡ first_of (codes "fill-down") rows
  pub places : word_text asked.places ≡ first_of (codes "places") rows
  pub routes : word_text asked.routes ≡ first_of (codes "routes") rows

-- what is asked of a table of persons and things is what matches hold
pub record IsAskedPairs (rows : List Row) (asked : AskedPairs) : Type 0 where
  pub mark : asked.mark ≡ mark_by (first_of (codes "decimal") rows)
  pub each : asked.each ≡ each_by (first_of (codes "each") rows)
  pub maximise : asked.maximise ≡ answer_by (first_of (codes "maximise") rows)
  pub groups : word_text asked.groups ≡ first_of (codes "groups") rows
  pub check : asked.check ≡ crossing_by (first_of (codes "crossing") rows)
  pub fill_down : word_text asked.fill_down ≡ first_of (codes "fill-down") rows
  pub costs : word_text asked.costs ≡ first_of (codes "costs") rows

-- what is asked is what the matches of the subcommand with this name hold
abbrev pub IsAskedBy : Text → List Row → AskedPlan → Type 0
IsAskedBy name rows (Flow asked) = ¬ (name ≡ codes "pairs") × IsAskedFlow rows asked
IsAskedBy name rows (Pairs asked) = (name ≡ codes "pairs") × IsAskedPairs rows asked

-- what is asked is what the matches of the subcommand hold that the words name
pub record AsksPlan (app : App) (words : List Text) (asked : AskedPlan) : Type 0 where
  pub name : Text
  pub rows : List Row
  pub subcommand : subcommand_of app words ≡ Some (name, rows)
  pub is_asked : IsAskedBy name rows asked

-- what is asked is what the matches hold; only memory may be wanting where the command takes the
-- words; and else the words have a fault, the first of which is told, help that is asked for among
-- them
pub record IsPlanReading (words : List Text) (result : Result AskedPlan Error) : Type 0 where
  pub app : App
  pub is_mcfplan : IsMcfplan app
  pub asks : IfOk result (AsksPlan app words)
  pub taken : IfErr result (λ e. takes app words ≡ true → kind_of e ≡ OutOfMemory)
  pub faults : FailsBy (fault_of app words) result
