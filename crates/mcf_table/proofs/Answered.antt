-- What bytes say, read from left to right: each grammar of specs/ has no other answer.
use Rattle.std.proofs.Common.{◌≡◌, ℕ, zero, suc, ◌+◌, ◌-◌, ◌<◌, ◌≤◌, Bool, true, false, List, [], ◌∷◌, ◌++◌, length, refl, sym, ap, ◌∙◌, arith, inl, inr, append_assoc, length-append, Result, Ok, Err}
use Rattle.std.specs.Prelude.{◌==◌, ◌&&◌, ◌||◌, if◌then◌else◌, replicate, cond, filter}
use Rattle.std.specs.List.{AllZip, list_any}
use Rattle.std.proofs.lemmas.Bool.{eq-eqb, ne_eqb, eqb-true, cases_Bool, or_parts}
use Rattle.std.proofs.lemmas.List.{append-nil}
use Rattle.std.proofs.lemmas.List.Sums.{sum_by-append, sum_by-cons}
use Rattle.mcf_text.specs.Lines.{line_feed}
use Rattle.mcf_table.specs.Blanks.{trimmed}
use Rattle.mcf_table.specs.LineEnds.{line_feeds}
use Rattle.mcf_table.specs.Rows.{Breaks, IsField, IsPlain, IsRow, IsSeparator, begins_quoted, doubled, ended, opened, quote, quoted, ends_field, space}
use Rattle.mcf_table.specs.Texts.{AreRecords, Record, Says, is_kept}
use Rattle.mcf_table.specs.Private.Found.{EndsField, EndsRow, NoQuote}
use Rattle.mcf_table.specs.declared.fault.FieldFault.{FieldFault}
use Rattle.mcf_table.specs.declared.fault.FieldFault.TheVariants.{Unclosed, AfterQuote}
use Rattle.mcf_table.specs.declared.fault.TextFault.{TextFault}

-- what stands before the first end, and from there on
abbrev plain_front : ℕ → List ℕ → List ℕ
plain_front separator [] = []
plain_front separator (b ∷ bs) = if ends_field separator b then [] else b ∷ plain_front separator bs

abbrev plain_back : ℕ → List ℕ → List ℕ
plain_back separator [] = []
plain_back separator (b ∷ bs) = if ends_field separator b then b ∷ bs else plain_back separator bs

data Inside : Type 0 where
  Closed : List ℕ → List ℕ → Inside
  Open : Inside

abbrev with_byte : ℕ → Inside → Inside
with_byte b (Closed inside rest) = Closed (b ∷ inside) rest
with_byte b Open = Open

-- what stands between quotes, after the one that opens
abbrev inside_at : List ℕ → Inside
inside_at [] = Open
inside_at (b ∷ []) = if b == quote then Closed [] [] else Open
inside_at (b ∷ c ∷ cs) =
    if b == quote then (if c == quote then with_byte quote (inside_at cs) else Closed [] (c ∷ cs))
    else with_byte b (inside_at (c ∷ cs))

-- what stands after the first quote
abbrev after_open : List ℕ → List ℕ
after_open [] = []
after_open (b ∷ bs) = if b == quote then bs else after_open bs

data FoundField : Type 0 where
  Whole : List ℕ → List ℕ → FoundField
  Broken : FieldFault → FoundField

abbrev after_close : ℕ → List ℕ → List ℕ → FoundField
after_close separator inside [] = Whole (trimmed inside) []
after_close separator inside (b ∷ bs) = if ends_field separator b then Whole (trimmed inside) (b ∷ bs) else Broken AfterQuote

abbrev closed : ℕ → Inside → FoundField
closed separator (Closed inside rest) = after_close separator inside rest
closed separator Open = Broken Unclosed

-- the first field, and what follows it
unfoldable field_at : ℕ → List ℕ → FoundField
field_at separator text =
    if begins_quoted text then closed separator (inside_at (after_open text))
    else Whole (trimmed (plain_front separator text)) (plain_back separator text)

plain_cut : (separator : ℕ) (field tail : List ℕ) → list_any (ends_field separator) field ≡ false → EndsField separator tail
    → (plain_front separator (field ++ tail) ≡ field) × (plain_back separator (field ++ tail) ≡ tail)
plain_cut separator [] [] none ends = (refl, refl)
plain_cut separator [] (b ∷ bs) none ends = rw ends (refl, refl)
plain_cut separator (b ∷ bs) tail none ends =
    let parts = or_parts (ends_field separator b) (list_any (ends_field separator) bs) none in
    let more = plain_cut separator bs tail parts.1 ends in
    rw (parts.0) (ap (λ (xs : List ℕ). b ∷ xs) more.0, more.1)

-- what ends a field is no quote and no space
ends_no : (separator b : ℕ) → IsSeparator separator → ends_field separator b ≡ true → ((b == quote) ≡ false) × ((b == space) ≡ false)
ends_no separator b is ends =
    elim (cases_Bool (b == separator)) [
      | inl same ↦
          let e : b ≡ separator = eqb-true b separator same in
          (ne_eqb b quote (λ no. is.no_quote (sym e ∙ no)), ne_eqb b space (λ no. is.no_space (sym e ∙ no)))
      | inr other ↦
          let feed : (b == line_feed) ≡ true = rw other at ends in
          let e : b ≡ line_feed = eqb-true b line_feed feed in
          (ne_eqb b quote (λ no. omega (arith, e, no)), ne_eqb b space (λ no. omega (arith, e, no)))
    ]

unquoted_tail : (separator : ℕ) (tail : List ℕ) → IsSeparator separator → EndsField separator tail → begins_quoted tail ≡ false
unquoted_tail separator [] is ends = refl
unquoted_tail separator (b ∷ bs) is ends = let no = ends_no separator b is ends in rw (no.0, no.1)

unquoted_before : (separator : ℕ) (field tail : List ℕ) → IsSeparator separator → begins_quoted field ≡ false → EndsField separator tail
    → begins_quoted (field ++ tail) ≡ false
unquoted_before separator [] tail is un ends = unquoted_tail separator tail is ends
unquoted_before separator (b ∷ bs) tail is un ends =
    let parts = or_parts (b == quote) (b == space && begins_quoted bs) un in
    elim (cases_Bool (b == space)) [
      | inl here ↦ let more : begins_quoted bs ≡ false = rw here at (parts.1) in rw (parts.0, here) (unquoted_before separator bs tail is more ends)
      | inr other ↦ rw (parts.0, other)
    ]

no_quote_tail : (separator : ℕ) (tail : List ℕ) → IsSeparator separator → EndsField separator tail → NoQuote tail
no_quote_tail separator [] is ends = tt
no_quote_tail separator (b ∷ bs) is ends = (ends_no separator b is ends).0

inside_other : (b : ℕ) (bs : List ℕ) → (b == quote) ≡ false → inside_at (b ∷ bs) ≡ with_byte b (inside_at bs)
inside_other b [] other = rw other
inside_other b (c ∷ cs) other = rw other

closed_at : (inside tail : List ℕ) → NoQuote tail → inside_at (doubled inside ++ quote ∷ tail) ≡ Closed inside tail
closed_at [] [] ends = refl
closed_at [] (b ∷ bs) ends = rw ends
closed_at (b ∷ bs) tail ends =
    elim (cases_Bool (b == quote)) [
      | inl is ↦
          rw is (ap (with_byte quote) (closed_at bs tail ends) ∙ ap (λ (x : ℕ). Closed (x ∷ bs) tail) (sym (eqb-true b quote is)))
      | inr other ↦ rw other (inside_other b (doubled bs ++ quote ∷ tail) other ∙ ap (with_byte b) (closed_at bs tail ends))
    ]

open_at : (inside : List ℕ) → inside_at (doubled inside) ≡ Open
open_at [] = refl
open_at (b ∷ bs) =
    elim (cases_Bool (b == quote)) [
      | inl is ↦ rw is (ap (with_byte quote) (open_at bs))
      | inr other ↦ rw other (inside_other b (doubled bs) other ∙ ap (with_byte b) (open_at bs))
    ]

after_spaces : (spaces : ℕ) (xs : List ℕ)
    → (begins_quoted (replicate spaces space ++ quote ∷ xs) ≡ true) × (after_open (replicate spaces space ++ quote ∷ xs) ≡ xs)
after_spaces zero xs = (refl, refl)
after_spaces (suc n) xs = after_spaces n xs

pub opened_tail : (spaces : ℕ) (inside tail : List ℕ)
    → opened spaces inside ++ tail ≡ replicate spaces space ++ quote ∷ (doubled inside ++ tail)
opened_tail spaces inside tail = append_assoc (replicate spaces space) (quote ∷ doubled inside) tail

pub quoted_tail : (spaces : ℕ) (inside tail : List ℕ)
    → quoted spaces inside ++ tail ≡ replicate spaces space ++ quote ∷ (doubled inside ++ quote ∷ tail)
quoted_tail spaces inside tail = append_assoc (opened spaces inside) (quote ∷ []) tail ∙ opened_tail spaces inside (quote ∷ tail)

quoted_at : (separator spaces : ℕ) (xs : List ℕ) → field_at separator (replicate spaces space ++ quote ∷ xs) ≡ closed separator (inside_at xs)
unfolding field_at
quoted_at separator spaces xs = let at = after_spaces spaces xs in rw (at.0, at.1)

after_end : (separator : ℕ) (inside tail : List ℕ) → EndsField separator tail → after_close separator inside tail ≡ Whole (trimmed inside) tail
after_end separator inside [] ends = refl
after_end separator inside (b ∷ bs) ends = rw ends

plain_at : (separator : ℕ) (field tail : List ℕ) → IsSeparator separator → IsPlain separator field → EndsField separator tail
    → field_at separator (field ++ tail) ≡ Whole (trimmed field) tail
unfolding field_at
plain_at separator field tail is plain ends =
    let un = unquoted_before separator field tail is plain.unquoted ends in
    let cut = plain_cut separator field tail plain.inside ends in
    rw (un, cut.0, cut.1)

-- a field, where something that ends it follows
field_whole : (separator : ℕ) (field cell tail : List ℕ) → IsSeparator separator → IsField separator field cell → EndsField separator tail
    → field_at separator (field ++ tail) ≡ Whole cell tail
field_whole separator field cell tail is (inl plain) ends =
    plain_at separator field tail is plain.0 ends ∙ ap (λ (xs : List ℕ). Whole xs tail) (sym (plain.1))
field_whole separator field cell tail is (inr (spaces, inside, spelled, said)) ends =
    ap (λ (xs : List ℕ). field_at separator (xs ++ tail)) spelled
    ∙ ap (field_at separator) (quoted_tail spaces inside tail)
    ∙ quoted_at separator spaces (doubled inside ++ quote ∷ tail)
    ∙ ap (closed separator) (closed_at inside tail (no_quote_tail separator tail is ends))
    ∙ after_end separator inside tail ends
    ∙ ap (λ (xs : List ℕ). Whole xs tail) (sym said)

field_broken : (separator : ℕ) (bytes : List ℕ) (kind : FieldFault) → Breaks separator bytes kind → field_at separator bytes ≡ Broken kind
field_broken separator bytes Unclosed (spaces, inside, spelled) =
    ap (field_at separator) spelled ∙ quoted_at separator spaces (doubled inside) ∙ ap (closed separator) (open_at inside)
field_broken separator bytes AfterQuote (spaces, inside, b, rest, spelled, other, ends) =
    let no : (b == quote) ≡ false = ne_eqb b quote other in
    ap (field_at separator) (spelled ∙ quoted_tail spaces inside (b ∷ rest))
    ∙ quoted_at separator spaces (doubled inside ++ quote ∷ b ∷ rest)
    ∙ ap (closed separator) (closed_at inside (b ∷ rest) no)
    ∙ rw ends refl

data FoundRow : Type 0 where
  Cells : List (List ℕ) → List ℕ → FoundRow
  NoRow : FieldFault → FoundRow

abbrev with_cell : List ℕ → FoundRow → FoundRow
with_cell cell (Cells cells rest) = Cells (cell ∷ cells) rest
with_cell cell (NoRow kind) = NoRow kind

abbrev then_fields : (List ℕ → FoundRow) → ℕ → FoundField → FoundRow
then_fields next separator (Broken kind) = NoRow kind
then_fields next separator (Whole cell []) = Cells (cell ∷ []) []
then_fields next separator (Whole cell (b ∷ bs)) = if b == separator then with_cell cell (next bs) else Cells (cell ∷ []) (b ∷ bs)

-- the first row of so many fields at most, and what follows it
abbrev row_at : ℕ → ℕ → List ℕ → FoundRow
row_at zero separator text = NoRow Unclosed
row_at (suc n) separator text = then_fields (row_at n separator) separator (field_at separator text)

ends_row : (separator : ℕ) (tail : List ℕ) → EndsRow tail → EndsField separator tail
ends_row separator [] ends = tt
ends_row separator (b ∷ bs) ends = let feed : (b == line_feed) ≡ true = eq-eqb b line_feed ends in rw feed (or_true (b == separator))
  where
    or_true : (x : Bool) → (x || true) ≡ true
    or_true true = refl
    or_true false = refl

last_field : (separator : ℕ) (next : List ℕ → FoundRow) (cell tail : List ℕ) → IsSeparator separator → EndsRow tail
    → then_fields next separator (Whole cell tail) ≡ Cells (cell ∷ []) tail
last_field separator next cell [] is ends = refl
last_field separator next cell (b ∷ bs) is ends =
    let other : (b == separator) ≡ false = ne_eqb b separator (λ e. is.no_line_feed (sym e ∙ ends)) in
    rw other

next_field : (separator : ℕ) (next : List ℕ → FoundRow) (field cell rest : List ℕ) → IsSeparator separator → IsField separator field cell
    → then_fields next separator (field_at separator (field ++ separator ∷ rest)) ≡ with_cell cell (next rest)
next_field separator next field cell rest is said =
    let here : (separator == separator) ≡ true = eq-eqb separator separator refl in
    let ends : ends_field separator separator ≡ true = rw here refl in
    ap (then_fields next separator) (field_whole separator field cell (separator ∷ rest) is said ends) ∙ rw here refl

ended_more : (byte : ℕ) (part rest : List ℕ) (parts : List (List ℕ)) → ended byte (part ∷ parts) ++ rest ≡ part ++ byte ∷ (ended byte parts ++ rest)
ended_more byte part rest parts = append_assoc part (byte ∷ ended byte parts) rest

row_cells : (n separator : ℕ) (front : List (List ℕ)) (last : List ℕ) (cells : List (List ℕ)) (tail : List ℕ) → IsSeparator separator
    → AllZip (IsField separator) (front ++ last ∷ []) cells → EndsRow tail → length front < n
    → row_at n separator (ended separator front ++ (last ++ tail)) ≡ Cells cells tail
row_cells zero separator front last cells tail is said ends few = absurd (omega (arith, few))
row_cells (suc n) separator [] last [] tail is said ends few = absurd said
row_cells (suc n) separator [] last (cell ∷ []) tail is said ends few =
    ap (then_fields (row_at n separator) separator) (field_whole separator last cell tail is said.0 (ends_row separator tail ends))
    ∙ last_field separator (row_at n separator) cell tail is ends
row_cells (suc n) separator [] last (cell ∷ other ∷ cells) tail is said ends few = absurd said.1
row_cells (suc n) separator (field ∷ front) last [] tail is said ends few = absurd said
row_cells (suc n) separator (field ∷ front) last (cell ∷ cells) tail is said ends few =
    ap (λ (xs : List ℕ). then_fields (row_at n separator) separator (field_at separator xs)) (ended_more separator field (last ++ tail) front)
    ∙ next_field separator (row_at n separator) field cell (ended separator front ++ (last ++ tail)) is said.0
    ∙ ap (with_cell cell) (row_cells n separator front last cells tail is said.1 ends (omega (arith, few)))

row_broken : (n separator : ℕ) (fields cells : List (List ℕ)) (rest : List ℕ) (kind : FieldFault) → IsSeparator separator
    → AllZip (IsField separator) fields cells → Breaks separator rest kind → length fields < n
    → row_at n separator (ended separator fields ++ rest) ≡ NoRow kind
row_broken zero separator fields cells rest kind is said breaks few = absurd (omega (arith, few))
row_broken (suc n) separator [] cells rest kind is said breaks few =
    ap (then_fields (row_at n separator) separator) (field_broken separator rest kind breaks)
row_broken (suc n) separator (field ∷ fields) [] rest kind is said breaks few = absurd said
row_broken (suc n) separator (field ∷ fields) (cell ∷ cells) rest kind is said breaks few =
    ap (λ (xs : List ℕ). then_fields (row_at n separator) separator (field_at separator xs)) (ended_more separator field rest fields)
    ∙ next_field separator (row_at n separator) field cell (ended separator fields ++ rest) is said.0
    ∙ ap (with_cell cell) (row_broken n separator fields cells rest kind is said.1 breaks (omega (arith, few)))

abbrev made : ℕ → List (List ℕ) → Record
made line cells = record { line = line; cells = cells }

abbrev faulty : ℕ → FieldFault → TextFault
faulty line kind = record { line = line; kind = kind }

abbrev with_record : Record → Result (List Record) TextFault → Result (List Record) TextFault
with_record one (Ok records) = Ok (one ∷ records)
with_record one (Err fault) = Err fault

abbrev then_rows : (ℕ → List ℕ → Result (List Record) TextFault) → ℕ → List ℕ → FoundRow → Result (List Record) TextFault
then_rows next line text (NoRow kind) = Err (faulty line kind)
then_rows next line text (Cells cells []) = Ok (made line cells ∷ [])
then_rows next line text (Cells cells (b ∷ bs)) =
    with_record (made line cells) (next (line + (line_feeds text - line_feeds (b ∷ bs)) + 1) bs)

-- the records of all rows, of which there are at most so many, from this line on
abbrev rows_at : ℕ → ℕ → ℕ → List ℕ → Result (List Record) TextFault
rows_at zero separator line text = Ok []
rows_at (suc n) separator line text = then_rows (rows_at n separator) line text (row_at (suc (length text)) separator text)

pub feeds-append : (xs ys : List ℕ) → line_feeds (xs ++ ys) ≡ line_feeds xs + line_feeds ys
feeds-append xs ys = sum_by-append (λ b. cond (b == line_feed) 1 0) xs ys

pub feeds-cons : (xs : List ℕ) → line_feeds (line_feed ∷ xs) ≡ 1 + line_feeds xs
feeds-cons xs = sum_by-cons (λ b. cond (b == line_feed) 1 0) line_feed xs

pub length-ended : (byte : ℕ) (parts : List (List ℕ)) → length parts ≤ length (ended byte parts)
length-ended byte [] = omega arith
length-ended byte (part ∷ parts) =
    omega (arith, length-append part (byte ∷ ended byte parts), length-ended byte parts)

row_here : (separator : ℕ) (text row : List ℕ) (cells : List (List ℕ)) (tail : List ℕ) → IsSeparator separator → IsRow separator row cells
    → EndsRow tail → text ≡ row ++ tail → row_at (suc (length text)) separator text ≡ Cells cells tail
row_here separator text row cells tail is said ends spelled =
    let whole : text ≡ ended separator said.front ++ (said.last ++ tail) =
    spelled ∙ ap (λ (xs : List ℕ). xs ++ tail) said.spelled ∙ append_assoc (ended separator said.front) said.last tail in
    ap (row_at (suc (length text)) separator) whole
    ∙ row_cells (suc (length text)) separator said.front said.last cells tail is said.said ends
    (omega (arith, ap length whole, length-append (ended separator said.front) (said.last ++ tail), length-ended separator said.front))

row_bad : (separator : ℕ) (text : List ℕ) (fields cells : List (List ℕ)) (rest : List ℕ) (kind : FieldFault) → IsSeparator separator
    → AllZip (IsField separator) fields cells → Breaks separator rest kind → text ≡ ended separator fields ++ rest
    → row_at (suc (length text)) separator text ≡ NoRow kind
row_bad separator text fields cells rest kind is said breaks spelled =
    ap (row_at (suc (length text)) separator) spelled
    ∙ row_broken (suc (length text)) separator fields cells rest kind is said breaks
    (omega (arith, ap length spelled, length-append (ended separator fields) rest, length-ended separator fields))

next_row : (n separator line : ℕ) (row rest : List ℕ) (cells : List (List ℕ)) → IsSeparator separator → IsRow separator row cells
    → rows_at (suc n) separator line (row ++ line_feed ∷ rest)
    ≡ with_record (made line cells) (rows_at n separator (line + line_feeds row + 1) rest)
next_row n separator line row rest cells is said =
    let text : List ℕ = row ++ line_feed ∷ rest in
    ap (then_rows (rows_at n separator) line text) (row_here separator text row cells (line_feed ∷ rest) is said refl refl)
    ∙ ap (λ (k : ℕ). with_record (made line cells) (rows_at n separator k rest))
    (omega (arith, feeds-append row (line_feed ∷ rest)))

rows_all : (n separator line : ℕ) (front : List (List ℕ)) (last : List ℕ) (all : List Record) → IsSeparator separator
    → AreRecords separator line (front ++ last ∷ []) all → length front < n
    → rows_at n separator line (ended line_feed front ++ last) ≡ Ok all
rows_all zero separator line front last all is said few = absurd (omega (arith, few))
rows_all (suc n) separator line [] last [] is said few = absurd said
rows_all (suc n) separator line [] last (one ∷ []) is said few =
    ap (then_rows (rows_at n separator) line last) (row_here separator last last one.cells [] is said.1 tt (sym (append-nil last)))
    ∙ ap (λ (k : ℕ). Ok (made k one.cells ∷ [])) (sym said.0)
rows_all (suc n) separator line [] last (one ∷ other ∷ all) is said few = absurd said.2
rows_all (suc n) separator line (row ∷ front) last [] is said few = absurd said
rows_all (suc n) separator line (row ∷ front) last (one ∷ all) is said few =
    ap (rows_at (suc n) separator line) (ended_more line_feed row last front)
    ∙ next_row n separator line row (ended line_feed front ++ last) one.cells is said.1
    ∙ ap (with_record (made line one.cells)) (rows_all n separator (line + line_feeds row + 1) front last all is said.2 (omega (arith, few)))
    ∙ ap (λ (k : ℕ). Ok (made k one.cells ∷ all)) (sym said.0)

rows_broken : (n separator line : ℕ) (rows : List (List ℕ)) (records : List Record) (fields cells : List (List ℕ)) (rest : List ℕ)
    (kind : FieldFault) → IsSeparator separator → AreRecords separator line rows records → AllZip (IsField separator) fields cells
    → Breaks separator rest kind → length rows < n
    → rows_at n separator line (ended line_feed rows ++ (ended separator fields ++ rest))
    ≡ Err (faulty (line + line_feeds (ended line_feed rows)) kind)
rows_broken zero separator line rows records fields cells rest kind is said read breaks few = absurd (omega (arith, few))
rows_broken (suc n) separator line [] records fields cells rest kind is said read breaks few =
    let text : List ℕ = ended separator fields ++ rest in
    ap (then_rows (rows_at n separator) line text) (row_bad separator text fields cells rest kind is read breaks refl)
    ∙ ap (λ (k : ℕ). Err (faulty k kind)) (omega arith)
rows_broken (suc n) separator line (row ∷ rows) [] fields cells rest kind is said read breaks few = absurd said
rows_broken (suc n) separator line (row ∷ rows) (one ∷ records) fields cells rest kind is said read breaks few =
    let more : List ℕ = ended separator fields ++ rest in
    ap (rows_at (suc n) separator line) (ended_more line_feed row more rows)
    ∙ next_row n separator line row (ended line_feed rows ++ more) one.cells is said.1
    ∙ ap (with_record (made line one.cells))
    (rows_broken n separator (line + line_feeds row + 1) rows records fields cells rest kind is said.2 read breaks (omega (arith, few)))
    ∙ ap (λ (k : ℕ). Err (faulty k kind))
    (omega (arith, feeds-append row (line_feed ∷ ended line_feed rows), feeds-cons (ended line_feed rows)))

-- the kept records of what was found
abbrev kept_of : Result (List Record) TextFault → Result (List Record) TextFault
kept_of (Ok all) = Ok (filter is_kept all)
kept_of (Err fault) = Err fault

said_is : (separator : ℕ) (text : List ℕ) (answer : Result (List Record) TextFault) → IsSeparator separator → Says separator text answer
    → answer ≡ kept_of (rows_at (suc (length text)) separator 1 text)
said_is separator text (Ok records) is says =
    ap (λ (xs : List Record). Ok xs) says.kept
    ∙ ap kept_of (sym (ap (rows_at (suc (length text)) separator 1) says.spelled
    ∙ rows_all (suc (length text)) separator 1 says.front says.last says.all is says.rows
    (omega (arith, ap length says.spelled, length-append (ended line_feed says.front) says.last, length-ended line_feed says.front))))
said_is separator text (Err fault) is says =
    ap (λ (k : ℕ). Err (faulty k fault.kind)) says.line
    ∙ ap kept_of (sym (ap (rows_at (suc (length text)) separator 1) says.spelled
    ∙ rows_broken (suc (length text)) separator 1 says.rows says.records says.fields says.cells says.rest fault.kind is says.before says.said says.breaks
    (omega (arith, ap length says.spelled, length-append (ended line_feed says.rows) (ended separator says.fields ++ says.rest), length-ended line_feed says.rows))))

-- bytes say one thing
pub says_one : (separator : ℕ) (text : List ℕ) (one other : Result (List Record) TextFault) → IsSeparator separator
    → Says separator text one → Says separator text other → one ≡ other
says_one separator text one other is says also = said_is separator text one is says ∙ sym (said_is separator text other is also)
