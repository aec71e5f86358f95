-- Where the parser may want memory: at a line that says an item and fits.
use Rattle.std.proofs.Common.{◌≡◌, ℕ, ◌+◌, ◌≤◌, ◌<◌, Bool, true, false, cond, List, [], ◌∷◌, length, Some, None, Ok, Err, refl, sym, ap, ◌∙◌, arith}
use Rattle.std.specs.Prelude.{◌&&◌, ◌||◌, OnErr, Option, Result, filter, is_some, map, nat_lt}
use Rattle.std.specs.List.{enumerate_from, list_any}
use Rattle.std.proofs.lemmas.Bool.{lt-ltb}
use Rattle.mcf_answer.specs.Private.Draft.{after, and_then, answer_of_draft, run}
use Rattle.mcf_answer.specs.Fits.{misfit}
use Rattle.mcf_answer.specs.Parsing.{answer_of_lines, comes_before, has_item_line, parsing, parsing_of, says_item}
use Rattle.mcf_answer.specs.Token.{token_lines, tokens, tokens_of}
use Rattle.mcf_answer.specs.declared.answers.Answer.{Answer}
use Rattle.mcf_answer.specs.declared.draft.Draft.{Draft}
use Rattle.mcf_answer.specs.declared.draft.Draft.TheVariants.{Empty}
use Rattle.mcf_answer.specs.declared.shape.Shape.{Shape}
use Rattle.mcf_answer.proofs.LinesRead.{answer_or, outcome}
use Rattle.mcf_answer.proofs.Simulation.{outcome-parsing}
use Rattle.mcf_text.specs.Fields.{fields_of, is_kept}
use Rattle.mcf_text.specs.Lines.{lines_of, numbered_lines}
use Rattle.mcf_text.specs.Row.{Row, line_after, row_of}

-- a kept line that says an item and comes before the misfit
abbrev pub IsWanting : List ℕ → Row → Bool
IsWanting text row = says_item (tokens row) && comes_before (misfit text) row.number

-- some lines are those of the text from one on, and the state is that of the lines before them
pub record IsReadOn (text : List ℕ) (d : Draft) (lines : List (ℕ × List ℕ)) : Type 0 where
  pub so_far : run d lines ≡ run Empty (numbered_lines 1 text)
  pub items : list_any (IsWanting text) (map row_of (filter (λ line. is_kept line.1) lines)) ≡ true → has_item_line text ≡ true
  pub from : ℕ
  pub texts : List (List ℕ)
  pub numbered : lines ≡ enumerate_from from texts
  pub ends : from + length texts ≡ line_after text

pub read_start : (text : List ℕ) → IsReadOn text Empty (numbered_lines 1 text)
read_start text =
    record { so_far = refl; items = λ h. h; from = 1; texts = lines_of text; numbered = refl; ends = omega arith }

-- ---- where a line doesn't fit

abbrev number_or_zero : Result Draft ℕ → ℕ
number_or_zero (Err n) = n
number_or_zero (Ok d) = 0

-- the state after a line, and what comes of the lines after it
abbrev went_on : Bool → Option Draft → ℕ → Draft → List (ℕ × List ℕ) → Result Draft ℕ
went_on kept o number d lines = cond kept (and_then o number (λ e. run e lines)) (run d lines)

-- the first of numbered lines that doesn't fit is one of them
misfit_from : (texts : List (List ℕ)) (from : ℕ) (d : Draft) (n : ℕ) → run d (enumerate_from from texts) ≡ Err n → from ≤ n
misfit_from [] from d n e = cc e
misfit_from (bytes ∷ texts) from d n e =
    go (is_kept bytes) refl (after d (tokens_of (fields_of bytes))) refl (λ next h. misfit_from texts (from + 1) next n h)
  where
    go : (b : Bool) → is_kept bytes ≡ b → (o : Option Draft) → after d (tokens_of (fields_of bytes)) ≡ o
        → ((next : Draft) → run next (enumerate_from (from + 1) texts) ≡ Err n → from + 1 ≤ n) → from ≤ n
    go false k o f later =
        let at : went_on (is_kept bytes) (after d (tokens_of (fields_of bytes))) from d (enumerate_from (from + 1) texts) ≡ Err n = e in
        let rest = later d (sym (ap (λ b. went_on b (after d (tokens_of (fields_of bytes))) from d (enumerate_from (from + 1) texts)) k) ∙ at) in omega (arith, rest)
    go true k None f later =
        let at : went_on (is_kept bytes) (after d (tokens_of (fields_of bytes))) from d (enumerate_from (from + 1) texts) ≡ Err n = e in
        let here : Err from ≡ Err n = sym (ap (λ b. went_on b (after d (tokens_of (fields_of bytes))) from d (enumerate_from (from + 1) texts)) k
        ∙ ap (λ o. went_on true o from d (enumerate_from (from + 1) texts)) f) ∙ at in
        omega (arith, ap number_or_zero here)
    go true k (Some next) f later =
        let at : went_on (is_kept bytes) (after d (tokens_of (fields_of bytes))) from d (enumerate_from (from + 1) texts) ≡ Err n = e in
        let rest = later next (sym (ap (λ b. went_on b (after d (tokens_of (fields_of bytes))) from d (enumerate_from (from + 1) texts)) k
        ∙ ap (λ o. went_on true o from d (enumerate_from (from + 1) texts)) f) ∙ at) in
        omega (arith, rest)

abbrev line_or_zero : Result Answer Shape → ℕ
line_or_zero (Err shape) = shape.line
line_or_zero (Ok a) = 0

-- a number comes before the misfit, if what the lines from the next on give has none up to it
before_misfit : (o : Option ℕ) (a : Answer) (r : Result Draft ℕ) (number last : ℕ) → outcome r last ≡ parsing_of o a → ((n : ℕ) → r ≡ Err n → number < n)
    → number < last → comes_before o number ≡ true
before_misfit None a r number last e later h = refl
before_misfit (Some line) a (Err n) number last e later h =
    let same : n ≡ line = ap line_or_zero e in lt-ltb number line (let l = later n refl in omega (arith, same, l))
before_misfit (Some line) a (Ok d) number last e later h = go (answer_of_draft d) e
  where
    go : (made : Option Answer) → answer_or made last ≡ Err (record { line = line }) → nat_lt number line ≡ true
    go None f = let same : last ≡ line = ap line_or_zero f in lt-ltb number line (omega (arith, same, h))
    go (Some b) f = cc f

-- ---- one line

abbrev rest_of : List (ℕ × List ℕ) → List (ℕ × List ℕ)
rest_of [] = []
rest_of (line ∷ lines) = lines

abbrev first_number : List (ℕ × List ℕ) → ℕ
first_number [] = 0
first_number (line ∷ lines) = line.0

-- the first of numbered lines, and the others
record Stepped (line : ℕ × List ℕ) (rest : List (ℕ × List ℕ)) (from last : ℕ) : Type 0 where
  more : List (List ℕ)
  others : rest ≡ enumerate_from (from + 1) more
  number_is : line.0 ≡ from
  ends : from + 1 + length more ≡ last

stepped : (line : ℕ × List ℕ) (rest : List (ℕ × List ℕ)) (from last : ℕ) (texts : List (List ℕ)) → line ∷ rest ≡ enumerate_from from texts
    → from + length texts ≡ last → Stepped line rest from last
stepped line rest from last [] e h = cc e
stepped line rest from last (bytes ∷ more) e h =
    record { more = more; others = ap rest_of e; number_is = ap first_number e; ends = omega (arith, h) }

or_true : (b : Bool) → (b || true) ≡ true
or_true true = refl
or_true false = refl

module _ (text : List ℕ) (d : Draft) (line : ℕ × List ℕ) (rest : List (ℕ × List ℕ)) where
  -- what comes of the lines from here on, and whether one of them says an item and fits
  abbrev comes : Bool → Option Draft → Result Draft ℕ
  comes kept o = went_on kept o line.0 d rest

  abbrev others_want : Bool
  others_want = list_any (IsWanting text) (map row_of (filter (λ l. is_kept l.1) rest))

  abbrev wants : Bool → Bool
  wants kept = list_any (IsWanting text) (map row_of (cond kept (line ∷ filter (λ l. is_kept l.1) rest) (filter (λ l. is_kept l.1) rest)))

  -- a line that isn't kept changes nothing
  pub read_past : IsReadOn text d (line ∷ rest) → is_kept line.1 ≡ false → IsReadOn text d rest
  read_past at k =
      let s = stepped line rest at.from (line_after text) at.texts at.numbered at.ends in
      record {
        so_far = sym (ap (λ b. comes b (after d (tokens_of (fields_of line.1)))) k) ∙ at.so_far;
        items = λ h. at.items (ap wants k ∙ h);
        from = at.from + 1;
        texts = s.more;
        numbered = s.others;
        ends = s.ends;
      }

  -- a kept line that fits
  pub read_line : (e : Draft) → IsReadOn text d (line ∷ rest) → is_kept line.1 ≡ true → after d (tokens_of (fields_of line.1)) ≡ Some e → IsReadOn text e rest
  read_line e at k fits =
      let s = stepped line rest at.from (line_after text) at.texts at.numbered at.ends in
      record {
        so_far = sym (ap (λ b. comes b (after d (tokens_of (fields_of line.1)))) k ∙ ap (comes true) fits) ∙ at.so_far;
        items = λ h. at.items (ap wants k ∙ ap (λ b. IsWanting text (row_of line) || b) h ∙ or_true (IsWanting text (row_of line)));
        from = at.from + 1;
        texts = s.more;
        numbered = s.others;
        ends = s.ends;
      }

  -- a kept line that doesn't fit
  pub read_misfit : IsReadOn text d (line ∷ rest) → is_kept line.1 ≡ true → after d (tokens_of (fields_of line.1)) ≡ None
      → Err line.0 ≡ run Empty (numbered_lines 1 text)
  read_misfit at k fits = sym (ap (λ b. comes b (after d (tokens_of (fields_of line.1)))) k ∙ ap (comes true) fits) ∙ at.so_far

  before : (e : Draft) → IsReadOn text d (line ∷ rest) → is_kept line.1 ≡ true → after d (tokens_of (fields_of line.1)) ≡ Some e
      → comes_before (misfit text) line.0 ≡ true
  unfolding parsing
  before e at k fits =
      let s = stepped line rest at.from (line_after text) at.texts at.numbered at.ends in
      let next = read_line e at k fits in
      before_misfit (misfit text) (answer_of_lines (token_lines text)) (run e rest) line.0 (line_after text)
      (ap (λ r. outcome r (line_after text)) next.so_far ∙ outcome-parsing text)
      (λ n h. let l = misfit_from s.more (at.from + 1) e n (ap (run e) (sym s.others) ∙ h) in omega (arith, l, s.number_is))
      (omega (arith, s.number_is, s.ends))

  -- a kept line that says an item and fits
  pub read_wanting : IsReadOn text d (line ∷ rest) → is_kept line.1 ≡ true → says_item (tokens_of (fields_of line.1)) ≡ true
      → is_some (after d (tokens_of (fields_of line.1))) ≡ true → has_item_line text ≡ true
  read_wanting at k says fits = go (after d (tokens_of (fields_of line.1))) refl fits
    where
      go : (o : Option Draft) → after d (tokens_of (fields_of line.1)) ≡ o → is_some o ≡ true → has_item_line text ≡ true
      go None f some = cc some
      go (Some e) f some =
          let wanting : IsWanting text (row_of line) ≡ true = ap (λ b. b && comes_before (misfit text) line.0) says ∙ before e at k f in
          at.items (ap wants k ∙ ap (λ b. b || others_want) wanting)

-- what holds of each error, where it holds
pub on_err : {T E : Type 0} (r : Result T E) (P : Type 0) → P → OnErr r P
on_err (Ok v) P p = tt
on_err (Err e) P p = p
