-- What the words of a command line ask.
-- Source: own
use Rattle.std.specs.Prelude.{◌≡◌, ℕ, Bool, true, false, List, [], ◌∷◌, Option, Some, None, Result, IfOk, IfErr, codes, option_and_then, option_map, unwrap_or}
use Rattle.std.specs.Prelude.{find, map, if◌then◌else◌}
use Rattle.std.specs.Borrow.{Bor}
use Rattle.std.specs.Option.{option_map_or}
use Rattle.std.specs.Str.{bytes_eq}
use Rattle.std.specs.Str.Parse.{digits_value, without_leading_plus}
use Rattle.clap.specs.Words.{App, FailsBy, Row, Rule, Shape, Text, fault_of, first_of, kind_of, new_app, new_rule, subcommand_of, takes, with_subcommand}
use Rattle.clap.specs.ValueTests.{accepts}
use Rattle.clap.specs.Walk.{texts}
use Rattle.clap.specs.declared.builder.value_parser.ValueParser.{ValueParser}
use Rattle.clap.specs.declared.builder.value_parser.ValueParser.TheVariants as parser
use Rattle.clap.specs.declared.error.Error.{Error}
use Rattle.clap.specs.declared.error.kind.ErrorKind.TheVariants.{OutOfMemory}
use Rattle.mcf_asking.specs.declared.asking.Asked.{Asked}
use Rattle.mcf_choice.specs.declared.choice.EngineChoice.{EngineChoice}
use Rattle.mcf_choice.specs.declared.choice.EngineChoice.TheVariants.{Auto, Cancel, Simplex, Scaling, Fast, Sap}
use Rattle.mcf_choice.specs.declared.choice.PricingChoice.{PricingChoice}
use Rattle.mcf_choice.specs.declared.choice.PricingChoice.TheVariants.{First, Best, Block, Wide}
use Rattle.mcf_choice.specs.declared.choice.Form.{Form}
use Rattle.mcf_choice.specs.declared.choice.Form.TheVariants.{One, Two}
use Rattle.mcf_choice.specs.BlockSizes.{block_limit, standard_block}

-- the names of the engines, and what each asks for
abbrev pub engine_words : List (Text × EngineChoice)
engine_words =
    (codes "auto", Auto) ∷ (codes "cancel", Cancel) ∷ (codes "simplex", Simplex) ∷ (codes "scaling", Scaling) ∷ (codes "fast", Fast)
    ∷ (codes "sap", Sap) ∷ []

-- the names of the engines
abbrev pub engine_names : List Text
engine_names = map (λ (row : Text × EngineChoice). row.0) engine_words

-- the names of the pricing rules, and what each asks for
abbrev pub pricing_words : List (Text × PricingChoice)
pricing_words = (codes "first", First) ∷ (codes "best", Best) ∷ (codes "block", Block) ∷ (codes "wide", Wide) ∷ []

-- the names of the pricing rules
abbrev pub pricing_names : List Text
pricing_names = map (λ (row : Text × PricingChoice). row.0) pricing_words

-- the names of the forms of an answer, and what each asks for
abbrev pub form_words : List (Text × Form)
form_words = (codes "full", One) ∷ (codes "sparse", Two) ∷ (codes "1", One) ∷ (codes "2", Two) ∷ []

-- the names of the forms
abbrev pub form_names : List Text
form_names = map (λ (row : Text × Form). row.0) form_words

-- the option of a name, whose value is one of these words, and this one where it is left out
abbrev pub word_rule : Text → Bor (List (Bor Text)) → Text → Rule
word_rule name words without = record (new_rule name) {
  long = Some name;
  value_names = 1;
  parser = Some (parser.Names words);
  defaults = without ∷ [];
}

-- `--engine ENGINE`, one of these names, and `auto` where it is left out
abbrev pub engine_rule : Bor (List (Bor Text)) → Rule
engine_rule names = word_rule (codes "engine") names (codes "auto")

-- `--pricing RULE`, one of these names, and `block` where it is left out
abbrev pub pricing_rule : Bor (List (Bor Text)) → Rule
pricing_rule names = word_rule (codes "pricing") names (codes "block")

-- `--form FORM`, one of these names, and `full` where it is left out
abbrev pub form_rule : Bor (List (Bor Text)) → Rule
form_rule names = word_rule (codes "form") names (codes "full")

-- what `--block` takes: the digits of a number from 1 to 1,000,000
abbrev pub block_parser : ValueParser
block_parser = parser.Unsigned 1 block_limit

-- `--block N`, and 256 where it is left out
abbrev pub block_rule : Rule
block_rule = record (new_rule (codes "block")) {
  long = Some (codes "block");
  value_names = 1;
  parser = Some block_parser;
  defaults = codes "256" ∷ [];
}

-- `FILE`, which may be left out
abbrev pub file_rule : Rule
file_rule = record (new_rule (codes "file")) { value_names = 1 }

-- the rule is that of an option with some names, which are spelled so
abbrev pub Offers : (Bor (List (Bor Text)) → Rule) → List Text → Rule → Type 0
Offers rule_with spelled rule = (names : Bor (List (Bor Text))) × (texts names.now ≡ spelled) × (rule ≡ rule_with names)

-- the arguments of `solve`, with these names of engines, of pricing rules and of forms
abbrev pub solve_rules : Bor (List (Bor Text)) → Bor (List (Bor Text)) → Bor (List (Bor Text)) → List Rule
solve_rules engines pricings forms = engine_rule engines ∷ pricing_rule pricings ∷ block_rule ∷ form_rule forms ∷ file_rule ∷ []

-- `solve [--engine ENGINE] [--pricing RULE] [--block N] [--form FORM] [FILE]`
abbrev pub solve_shape : Bor (List (Bor Text)) → Bor (List (Bor Text)) → Bor (List (Bor Text)) → Shape
solve_shape engines pricings forms = record (new_app (codes "solve")).top { rules = solve_rules engines pricings forms }

-- `mcf`, which wants a subcommand, and has a version
abbrev pub mcf_top : App
mcf_top = record { top = record (new_app (codes "mcf")).top { has_version = true; subcommand_required = true }; subs = [] }

-- `mcf` with its one subcommand
abbrev pub mcf_app : Bor (List (Bor Text)) → Bor (List (Bor Text)) → Bor (List (Bor Text)) → App
mcf_app engines pricings forms = with_subcommand mcf_top (solve_shape engines pricings forms)

-- what a parse reads of the subcommand `solve`
pub record IsSolve (shape : Shape) : Type 0 where
  pub engines : Bor (List (Bor Text))
  pub pricings : Bor (List (Bor Text))
  pub forms : Bor (List (Bor Text))
  pub engines_spelled : texts engines.now ≡ engine_names
  pub pricings_spelled : texts pricings.now ≡ pricing_names
  pub forms_spelled : texts forms.now ≡ form_names
  pub reads : shape ≡ solve_shape engines pricings forms

-- what a parse reads of the command `mcf`
pub record IsMcf (app : App) : Type 0 where
  pub engines : Bor (List (Bor Text))
  pub pricings : Bor (List (Bor Text))
  pub forms : Bor (List (Bor Text))
  pub engines_spelled : texts engines.now ≡ engine_names
  pub pricings_spelled : texts pricings.now ≡ pricing_names
  pub forms_spelled : texts forms.now ≡ form_names
  pub reads : app ≡ mcf_app engines pricings forms

-- a word was given, and it is this one
abbrev pub is_given : Option Text → Text → Bool
is_given name word = option_map_or (λ n. bytes_eq n word) name false

-- what the first row of a table asks for whose name is this one; and this where no row has it
abbrev pub choice_by : {C : Type 0} → List (Text × C) → C → Option Text → C
choice_by table without name = option_map_or (λ row. row.1) (find (λ row. is_given name row.0) table) without

-- the engine that a name asks for
abbrev pub engine_by : Option Text → EngineChoice
engine_by name = choice_by engine_words Auto name

-- the pricing rule that a name asks for
abbrev pub pricing_by : Option Text → PricingChoice
pricing_by name = choice_by pricing_words Block name

-- the form of an answer that a name asks for
abbrev pub form_by : Option Text → Form
form_by name = choice_by form_words One name

-- the number that a word writes, where `--block` takes the word
abbrev pub block_in : Text → Option ℕ
block_in word = if accepts false block_parser word then Some (digits_value 10 (without_leading_plus word)) else None

-- the size of blocks that a word asks for
abbrev pub block_by : Option Text → ℕ
block_by word = unwrap_or (option_and_then block_in word) standard_block

-- what is asked is what the matches of the subcommand hold that the words name
pub record Asks (app : App) (words : List Text) (asked : Asked) : Type 0 where
  pub name : Text
  pub rows : List Row
  pub subcommand : subcommand_of app words ≡ Some (name, rows)
  pub engine : asked.choice.engine ≡ engine_by (first_of (codes "engine") rows)
  pub pricing : asked.choice.pricing ≡ pricing_by (first_of (codes "pricing") rows)
  pub block : asked.choice.block ≡ block_by (first_of (codes "block") rows)
  pub form : asked.choice.form ≡ form_by (first_of (codes "form") rows)
  pub file : option_map (λ (f : Bor Text). f.now) asked.file ≡ first_of (codes "file") rows

-- what is asked is what the matches hold; only memory may be wanting where the command takes the
-- words; and else the words have a fault, the first of which is told, help that is asked for among
-- them
pub record IsReading (words : List Text) (result : Result Asked Error) : Type 0 where
  pub app : App
  pub is_mcf : IsMcf app
  pub asks : IfOk result (Asks app words)
  pub taken : IfErr result (λ e. takes app words ≡ true → kind_of e ≡ OutOfMemory)
  pub faults : FailsBy (fault_of app words) result
