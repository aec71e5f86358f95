-- Readings of a command line.
use Rattle.std.proofs.Common.{◌≡◌, ◌∙◌, ap, refl, sym, map, option_map, ℕ, List, Bool, true, false, Option, Some, None, Bor, Result, Ok, Err, ◌<◌, ◌^◌, arith}
use Rattle.std.specs.Prelude.{IsErrAnd, SomeIff}
use Rattle.std.specs.Str.Parse.{IsNumeral, digits_value, without_leading_plus}
use Rattle.clap.specs.ValueTests.{accepts}
use Rattle.clap.specs.Values.{Accepts}
use Rattle.clap.proofs.ValueTestLemmas.{Accepts-accepts, accepts-Accepts}
use Rattle.mcf_choice.specs.BlockSizes.{IsBlockSize}
use Rattle.clap.specs.Words.{App, HasKind, Row, Text, fault_of, is_simple, is_simple_and_free, kind_of, takes}
use Rattle.clap.specs.declared.error.Error.{Error}
use Rattle.clap.specs.declared.error.kind.ErrorKind.TheVariants.{OutOfMemory}
use Rattle.mcf_asking.specs.declared.asking.Asked.{Asked}
use Rattle.mcf_asking.specs.Asking.{IsMcf, IsReading, block_in, block_parser, engine_names, form_names, mcf_app, pricing_names}

-- some names that a parse may have read
abbrev lent : List Text → Bor (List (Bor Text))
lent names = record {
  ref_ptr = (0, 0);
  now = map (λ (t : Text). record { ref_ptr = (0, 0); now = t }) names;
}

-- some command that a parse may have read
unfoldable pub some_app : App
some_app = mcf_app (lent engine_names) (lent pricing_names) (lent form_names)

pub some_mcf : IsMcf some_app
unfolding some_app
some_mcf = record {
  engines = lent engine_names;
  pricings = lent pricing_names;
  forms = lent form_names;
  engines_spelled = refl;
  pricings_spelled = refl;
  forms_spelled = refl;
  reads = refl;
}

pub mcf_is_simple : (app : App) → IsMcf app → is_simple app ≡ true
mcf_is_simple app m = ap is_simple m.reads ∙ refl

pub mcf_is_free : (app : App) → IsMcf app → is_simple_and_free app ≡ true
mcf_is_free app m = ap is_simple_and_free m.reads ∙ refl

-- words that were refused, for lack of memory where the command takes them
pub refused : (words : List Text) (result : Result Asked Error) (app : App) → IsMcf app → (P : Error → Type 0)
    → ((e : Error) → P e → takes app words ≡ true → kind_of e ≡ OutOfMemory)
    → ((e : Error) → P e → HasKind (fault_of app words) e) → IsErrAnd result P → IsReading words result
refused words (Ok asked) app m P wants has h = absurd h
refused words (Err e) app m P wants has h =
    record { app = app; is_mcf = m; asks = tt; taken = wants e h; faults = has e h }

-- the rows of a subcommand come with its name
pub named_rows : (met : Option (Text × List Row)) (rows : List Row) → Some rows ≡ option_map (λ p. p.1) met
    → (name : Text) × (met ≡ Some (name, rows))
named_rows None rows h = let bad : Some rows ≡ None = h in cc
named_rows (Some p) rows h = (p.0, ap (λ r. Some (p.0, r)) (sym (some_is rows p.1 h)))
  where
    some_is : (x y : List Row) → Some x ≡ Some y → x ≡ y
    some_is x y e = cc

-- a word that writes a size of blocks, and one that doesn't
module _ (word : Text) (n : ℕ) (is : n ≡ digits_value 10 (without_leading_plus word)) where
  taken_word : IsNumeral 10 (without_leading_plus word) → IsBlockSize n → Accepts false block_parser word
  taken_word numeral size = (
    numeral,
    omega (arith, is, size.1),
    omega (arith, is, size.0),
    omega (arith, is, size.1),
  )

  block_written : IsNumeral 10 (without_leading_plus word) → IsBlockSize n → Some n ≡ block_in word
  block_written numeral size =
      rw (Accepts-accepts false block_parser word (taken_word numeral size)) (ap Some is)

  block_beyond : ¬ IsBlockSize n → None ≡ block_in word
  block_beyond beyond = go (accepts false block_parser word) refl
    where
      go : (b : Bool) → accepts false block_parser word ≡ b → None ≡ block_in word
      go true e =
          let h = accepts-Accepts false block_parser word e in
          absurd (beyond (omega (arith, is, h.2), omega (arith, is, h.3)))
      go false e = rw e refl

  pub block_read : (size : Option ℕ) → IsNumeral 10 (without_leading_plus word) → SomeIff size (IsBlockSize n) n → size ≡ block_in word
  block_read None numeral made = block_beyond made
  block_read (Some m) numeral made = ap Some made.1 ∙ block_written numeral made.0

-- a word that is no number of 32 bits
pub block_unread : (word : Text) → ¬ (IsNumeral 10 (without_leading_plus word) × (digits_value 10 (without_leading_plus word) < 2 ^ 32))
    → None ≡ block_in word
block_unread word unread = go (accepts false block_parser word) refl
  where
    go : (b : Bool) → accepts false block_parser word ≡ b → None ≡ block_in word
    go true e =
        let h = accepts-Accepts false block_parser word e in
        let small = h.3 in
        absurd (unread (h.0, omega (arith, small)))
    go false e = rw e refl
