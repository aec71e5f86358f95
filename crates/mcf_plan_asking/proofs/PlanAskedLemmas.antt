-- Readings of a planner's command line.
use Rattle.std.proofs.Common.{◌≡◌, ◌∙◌, ap, ap₂, refl, sym, map, option_map, List, true, Option, Some, None, Bor, Result, Ok, Err}
use Rattle.std.specs.Prelude.{IsErrAnd}
use Rattle.clap.specs.Words.{App, HasKind, Row, Shape, Text, fault_of, is_simple, is_simple_and_free, kind_of, takes}
use Rattle.std.specs.Box.{box_value}
use Rattle.std.specs.Prelude.{Box}
use Rattle.clap.specs.Simple.{subcommand_rows}
use Rattle.clap.specs.declared.error.Error.{Error}
use Rattle.clap.specs.declared.error.kind.ErrorKind.TheVariants.{OutOfMemory}
use Rattle.clap.specs.declared.parser.matches.ArgMatches.TheViews.{out-SubCommand}
use Rattle.clap.specs.declared.parser.matches.SubCommand.{SubCommand}
use Rattle.mcf_plan_asking.specs.declared.asking.AskedPlan.{AskedPlan}
use Rattle.mcf_plan_asking.specs.PlanAsking.{IsFlow, IsMcfplan, IsPairs, IsPlanReading, answer_names, crossing_names, each_names, flow_shape, leave_names, mark_names, mcfplan_app, pairs_shape}

-- some names that a parse may have read
abbrev lent : List Text → Bor (List (Bor Text))
lent names = record {
  ref_ptr = (0, 0);
  now = map (λ (t : Text). record { ref_ptr = (0, 0); now = t }) names;
}

-- some commands that a parse may have read
unfoldable pub some_flow : Shape
some_flow = flow_shape (lent mark_names) (lent leave_names) (lent leave_names) (lent answer_names)

unfoldable pub some_pairs : Shape
some_pairs = pairs_shape (lent mark_names) (lent each_names) (lent answer_names) (lent crossing_names)

unfoldable pub some_app : App
some_app = mcfplan_app some_flow some_pairs

flow_is : IsFlow some_flow
unfolding some_flow
flow_is = record {
  marks = lent mark_names;
  unused = lent leave_names;
  short = lent leave_names;
  ranges = lent answer_names;
  marks_spelled = refl;
  unused_spelled = refl;
  short_spelled = refl;
  ranges_spelled = refl;
  reads = refl;
}

pairs_are : IsPairs some_pairs
unfolding some_pairs
pairs_are = record {
  marks = lent mark_names;
  each = lent each_names;
  maximise = lent answer_names;
  crossing = lent crossing_names;
  marks_spelled = refl;
  each_spelled = refl;
  maximise_spelled = refl;
  crossing_spelled = refl;
  reads = refl;
}

pub some_mcfplan : IsMcfplan some_app
unfolding some_app
some_mcfplan = record { flow = some_flow; pairs = some_pairs; is_flow = flow_is; is_pairs = pairs_are; reads = refl }

-- a command, by what a parse reads of it
app_is : (app : App) (m : IsMcfplan app)
    → app ≡ mcfplan_app (flow_shape m.is_flow.marks m.is_flow.unused m.is_flow.short m.is_flow.ranges) (pairs_shape m.is_pairs.marks m.is_pairs.each m.is_pairs.maximise m.is_pairs.crossing)
app_is app m = m.reads ∙ ap₂ mcfplan_app m.is_flow.reads m.is_pairs.reads

pub mcfplan_is_simple : (app : App) → IsMcfplan app → is_simple app ≡ true
mcfplan_is_simple app m = ap is_simple (app_is app m) ∙ refl

pub mcfplan_is_free : (app : App) → IsMcfplan app → is_simple_and_free app ≡ true
mcfplan_is_free app m = ap is_simple_and_free (app_is app m) ∙ refl

-- words that were refused, for lack of memory where the command takes them
pub refused : (words : List Text) (result : Result AskedPlan Error) (app : App) → IsMcfplan app → (P : Error → Type 0)
    → ((e : Error) → P e → takes app words ≡ true → kind_of e ≡ OutOfMemory)
    → ((e : Error) → P e → HasKind (fault_of app words) e) → IsErrAnd result P → IsPlanReading words result
refused words (Ok asked) app m P wants has h = absurd h
refused words (Err e) app m P wants has h =
    record { app = app; is_mcfplan = m; asks = tt; taken = wants e h; faults = has e h }

-- the name of a subcommand is that of its rows
pub same_name : {Z : Type 0} (sub : Option (Box SubCommand Z))
    → option_map (λ b. (out-SubCommand (box_value b)).name.now) sub ≡ option_map (λ p. p.0) (subcommand_rows sub)
same_name None = refl
same_name (Some b) = refl

-- the rows of a subcommand come with its name
pub named_rows : (met : Option (Text × List Row)) (name : Text) (rows : List Row) → Some name ≡ option_map (λ p. p.0) met
    → Some rows ≡ option_map (λ p. p.1) met → met ≡ Some (name, rows)
named_rows None name rows n r = let bad : Some rows ≡ None = r in cc
named_rows (Some p) name rows n r = ap₂ (λ x y. Some (x, y)) (sym (some_text name p.0 n)) (sym (some_rows rows p.1 r))
  where
    some_text : (x y : Text) → Some x ≡ Some y → x ≡ y
    some_text x y e = cc

    some_rows : (x y : List Row) → Some x ≡ Some y → x ≡ y
    some_rows x y e = cc
