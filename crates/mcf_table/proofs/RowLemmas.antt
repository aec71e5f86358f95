-- Rows that are read field by field, and texts that are read row by row.
use Rattle.std.proofs.Common.{◌≡◌, ℕ, zero, suc, ◌+◌, ◌-◌, ◌<◌, ◌≤◌, Bool, true, false, List, [], ◌∷◌, ◌++◌, length, take, drop, get_or, map, All, filter, refl, sym, ap, ap₂, subst, ◌∙◌, arith, append_assoc, append-nil, length-append, length-drop, length-take, take-add, drop-drop, take_all}
use Rattle.std.specs.Prelude.{◌==◌, if◌then◌else◌}
use Rattle.std.specs.List.{AllZip, list_any}
use Rattle.std.proofs.lemmas.List.{map-append, take-append-drop, take_more}
use Rattle.std.proofs.lemmas.List.Elements.{All-append, All-cons, All-head, All-nil, All-tail, All-weaker, filter-append}
use Rattle.std.proofs.lemmas.List.Sums.{count_by-le-length}
use Rattle.std.proofs.Math.Seq.{drop-append_seam, take-length}
use Rattle.mcf_text.specs.Lines.{line_feed}
use Rattle.mcf_table.specs.Blanks.{trimmed}
use Rattle.mcf_table.specs.LineEnds.{line_feeds}
use Rattle.mcf_table.specs.Rows.{Breaks, IsField, IsRow, ended}
use Rattle.mcf_table.specs.Texts.{AreRecords, IsBroken, IsText, Record, is_filled, is_kept}
use Rattle.mcf_table.specs.Private.Found.{Begun, EndsField, EndsRow, IsBrokenRow, IsContent, IsFirstField, IsFirstRow, IsReadTo, IsWithin, row_in}
use Rattle.mcf_table.specs.declared.fault.FieldFault.{FieldFault}
use Rattle.mcf_table.specs.declared.fault.TextFault.{TextFault}
use Rattle.mcf_table.specs.declared.records.RowPart.{RowPart}
use Rattle.mcf_table.proofs.Answered.{feeds-append, feeds-cons}
use Rattle.mcf_table.proofs.CellLemmas.{part_more}

pub zip_push : {A B : Type 0} (R : A → B → Type 0) (xs : List A) (ys : List B) (x : A) (y : B) → AllZip R xs ys → R x y
    → AllZip R (xs ++ x ∷ []) (ys ++ y ∷ [])
zip_push R [] [] x y all one = (one, tt)
zip_push R [] (b ∷ bs) x y all one = absurd all
zip_push R (a ∷ as2) [] x y all one = absurd all
zip_push R (a ∷ as2) (b ∷ bs) x y all one = (all.0, zip_push R as2 bs x y all.1 one)

pub ended-push : (byte : ℕ) (parts : List (List ℕ)) (part : List ℕ) → ended byte (parts ++ part ∷ []) ≡ ended byte parts ++ (part ++ byte ∷ [])
ended-push byte [] part = refl
ended-push byte (first ∷ parts) part =
    ap (λ (xs : List ℕ). first ++ byte ∷ xs) (ended-push byte parts part)
    ∙ sym (append_assoc first (byte ∷ ended byte parts) (part ++ byte ∷ []))

-- the part up to and with a byte
with_end : (text : List ℕ) (at len byte : ℕ) → at + len < length text → get_or (drop (at + len) text) 0 0 ≡ byte
    → take (at + len + 1) text ≡ take at text ++ (take len (drop at text) ++ byte ∷ [])
with_end text at len byte below here =
    let there : get_or text (at + len) 0 ≡ byte = first_after text (at + len) ∙ here in
    take_more text (at + len) 0 below ∙ ap₂ (λ (xs : List ℕ) (b : ℕ). xs ++ b ∷ []) (take-add at len text) there
    ∙ append_assoc (take at text) (take len (drop at text)) (byte ∷ [])
  where
    first_after : (xs : List ℕ) (n : ℕ) → get_or xs n 0 ≡ get_or (drop n xs) 0 0
    first_after xs zero = refl
    first_after [] (suc n) = refl
    first_after (x ∷ xs) (suc n) = first_after xs n

-- nothing was read
pub nothing_begun : (separator : ℕ) (text : List ℕ) (cells : List (List ℕ)) → Begun separator (take 0 text) cells cells
nothing_begun separator text cells = record { fields = []; more = []; spelled = refl; cells_are = sym (append-nil cells); said = tt }

next_begun : (separator : ℕ) (text : List ℕ) (at len : ℕ) (before cells cells2 : List (List ℕ)) (content : List ℕ) (is_quoted : Bool)
    (begun : Begun separator (take at text) before cells) (first : IsFirstField separator (drop at text) content is_quoted len)
    → cells2 ≡ cells ++ trimmed first.content_of ∷ []
    → AllZip (IsField separator) (begun.fields ++ take len (drop at text) ∷ []) (begun.more ++ trimmed first.content_of ∷ [])
next_begun separator text at len before cells cells2 content is_quoted begun first more =
    zip_push (IsField separator) begun.fields begun.more (take len (drop at text)) (trimmed first.content_of) begun.said first.said

cells_more : (before cells cells2 more : List (List ℕ)) (cell : List ℕ) → cells ≡ before ++ more → cells2 ≡ cells ++ cell ∷ []
    → cells2 ≡ before ++ (more ++ cell ∷ [])
cells_more before cells cells2 more cell is next =
    next ∙ ap (λ (xs : List (List ℕ)). xs ++ cell ∷ []) is ∙ append_assoc before more (cell ∷ [])

-- what was pushed of a field's content
abbrev pub Pushes : Bool → List ℕ → List (List ℕ) → List (List ℕ) → Type 0
Pushes is_quoted content cells cells2 = (inside : List ℕ) → IsContent is_quoted content inside → cells2 ≡ cells ++ trimmed inside ∷ []

pub field_more : (separator : ℕ) (text : List ℕ) (at len : ℕ) (before cells cells2 : List (List ℕ)) (content : List ℕ) (is_quoted : Bool)
    → at ≤ length text → Begun separator (take at text) before cells → IsFirstField separator (drop at text) content is_quoted len
    → Pushes is_quoted content cells cells2 → 0 < length (drop (at + len) text) → get_or (drop (at + len) text) 0 0 ≡ separator
    → (at + len + 1 ≤ length text) × Begun separator (take (at + len + 1) text) before cells2
field_more separator text at len before cells cells2 content is_quoted inside begun first pushes some here =
    let more = pushes first.content_of first.content_is in
    let below : at + len < length text = omega (arith, some, length-drop (at + len) text) in (
      omega (arith, below),
      record {
        fields = begun.fields ++ take len (drop at text) ∷ [];
        more = begun.more ++ trimmed first.content_of ∷ [];
        spelled = with_end text at len separator below here
            ∙ ap (λ (xs : List ℕ). xs ++ (take len (drop at text) ++ separator ∷ [])) begun.spelled
            ∙ sym (ended-push separator begun.fields (take len (drop at text)));
        cells_are = cells_more before cells cells2 begun.more (trimmed first.content_of) begun.cells_are more;
        said = next_begun separator text at len before cells cells2 content is_quoted begun first more;
      },
    )

pub field_last : (separator : ℕ) (text : List ℕ) (at len : ℕ) (before cells cells2 : List (List ℕ)) (content : List ℕ) (is_quoted : Bool)
    → at ≤ length text → Begun separator (take at text) before cells → IsFirstField separator (drop at text) content is_quoted len
    → Pushes is_quoted content cells cells2 → (EndsField separator (drop (at + len) text) → EndsRow (drop (at + len) text))
    → IsFirstRow separator text before cells2 (at + len)
field_last separator text at len before cells cells2 content is_quoted inside begun first pushes ends =
    let more = pushes first.content_of first.content_is in
    record {
      inside = omega (arith, inside, first.inside, length-drop at text);
      ends = ends (subst (EndsField separator) (drop-drop len at text) first.ends);
      more = begun.more ++ trimmed first.content_of ∷ [];
      cells_are = cells_more before cells cells2 begun.more (trimmed first.content_of) begun.cells_are more;
      said = record {
        front = begun.fields;
        last = take len (drop at text);
        spelled = take-add at len text ∙ ap (λ (xs : List ℕ). xs ++ take len (drop at text)) begun.spelled;
        said = next_begun separator text at len before cells cells2 content is_quoted begun first more;
      };
    }

pub field_broken : (separator : ℕ) (text : List ℕ) (at : ℕ) (before cells : List (List ℕ)) (kind : FieldFault)
    → Begun separator (take at text) before cells → Breaks separator (drop at text) kind → IsBrokenRow separator text kind
field_broken separator text at before cells kind begun breaks = record {
  fields = begun.fields;
  cells = begun.more;
  rest = drop at text;
  spelled = sym (take-append-drop at text) ∙ ap (λ (xs : List ℕ). xs ++ drop at text) begun.spelled;
  said = begun.said;
  breaks = breaks;
}

-- one row more
records_push : (separator line : ℕ) (rows : List (List ℕ)) (records : List Record) (row : List ℕ) (one : Record) → AreRecords separator line rows records
    → IsRow separator row one.cells → one.line ≡ line + line_feeds (ended line_feed rows) → AreRecords separator line (rows ++ row ∷ []) (records ++ one ∷ [])
records_push separator line [] [] row one all said at = (at ∙ omega arith, said, tt)
records_push separator line [] (r ∷ rs) row one all said at = absurd all
records_push separator line (r ∷ rows) [] row one all said at = absurd all
records_push separator line (r ∷ rows) (first ∷ records) row one all said at = (
  all.0,
  all.1,
  records_push separator (line + line_feeds r + 1) rows records row one all.2 said
      (at ∙ omega (arith, feeds-append r (line_feed ∷ ended line_feed rows), feeds-cons (ended line_feed rows))),
)

abbrev made : ℕ → List (List ℕ) → Record
made line cells = record { line = line; cells = cells }

abbrev part_at : ℕ → ℕ → ℕ → RowPart
part_at line first count = record { line = line; first = first; count = count }

rows_more : (cells more : List (List ℕ)) (parts : List RowPart) → All (IsWithin cells) parts → map (row_in (cells ++ more)) parts ≡ map (row_in cells) parts
rows_more cells more [] within = refl
rows_more cells more (p ∷ parts) within =
    let here = All-head (IsWithin cells) p parts within in
    ap₂ (λ (cs : List (List ℕ)) (rs : List Record). made p.line cs ∷ rs) (part_more cells more p.first p.count here)
    (rows_more cells more parts (All-tail (IsWithin cells) p parts within))

-- the part of a row, if it is kept
abbrev pub kept_part : Bool → ℕ → ℕ → ℕ → List RowPart
kept_part is line first count = if is then part_at line first count ∷ [] else []

new_row : (cells more : List (List ℕ)) (line : ℕ) → row_in (cells ++ more) (part_at line (length cells) (length (cells ++ more) - length cells)) ≡ made line more
new_row cells more line =
    let count : length (cells ++ more) - length cells ≡ length more = omega (arith, length-append cells more) in
    ap (made line) (ap₂ (λ (n : ℕ) (xs : List (List ℕ)). take n xs) count (drop-append_seam cells more) ∙ take-length more)

kept_more : (cells more : List (List ℕ)) (line : ℕ) (parts : List RowPart) (all : List Record) (is : Bool)
    → is ≡ is_kept (made line more) → map (row_in cells) parts ≡ filter is_kept all → All (IsWithin cells) parts
    → map (row_in (cells ++ more)) (parts ++ kept_part is line (length cells) (length (cells ++ more) - length cells))
    ≡ filter is_kept (all ++ made line more ∷ [])
kept_more cells more line parts all is kept before within =
    map-append (row_in (cells ++ more)) parts (kept_part is line (length cells) (length (cells ++ more) - length cells))
    ∙ ap₂ (λ (xs ys : List Record). xs ++ ys) (rows_more cells more parts within ∙ before) (new is kept)
    ∙ sym (filter-append is_kept all (made line more ∷ []))
  where
    new : (b : Bool) → b ≡ is_kept (made line more)
        → map (row_in (cells ++ more)) (kept_part b line (length cells) (length (cells ++ more) - length cells)) ≡ filter is_kept (made line more ∷ [])
    new true e = rw (← e) (ap (λ (r : Record). r ∷ []) (new_row cells more line))
    new false e = rw (← e) refl

within_more : (cells more : List (List ℕ)) (parts : List RowPart) (line : ℕ) (is : Bool) → All (IsWithin cells) parts
    → All (IsWithin (cells ++ more)) (parts ++ kept_part is line (length cells) (length (cells ++ more) - length cells))
within_more cells more parts line is within =
    All-append (IsWithin (cells ++ more)) parts (kept_part is line (length cells) (length (cells ++ more) - length cells))
    (All-weaker (IsWithin cells) (IsWithin (cells ++ more)) (λ p inside. omega (arith, inside, length-append cells more)) parts within) (new is)
  where
    new : (b : Bool) → All (IsWithin (cells ++ more)) (kept_part b line (length cells) (length (cells ++ more) - length cells))
    new true =
        All-cons (IsWithin (cells ++ more)) (part_at line (length cells) (length (cells ++ more) - length cells)) []
        (omega (arith, length-append cells more)) (All-nil (IsWithin (cells ++ more)))
    new false = All-nil (IsWithin (cells ++ more))

-- the row that follows what was read, with its cells
record RowAfter (separator : ℕ) (text : List ℕ) (at len line : ℕ) (all : List Record) (rows : List (List ℕ)) (cells2 : List (List ℕ)) (parts2 : List RowPart) : Type 0 where
  one : Record
  said : AreRecords separator 1 (rows ++ take len (drop at text) ∷ []) (all ++ one ∷ [])
  kept : map (row_in cells2) parts2 ≡ filter is_kept (all ++ one ∷ [])
  within : All (IsWithin cells2) parts2

row_after : (separator : ℕ) (text : List ℕ) (at len line first : ℕ) (cells cells2 : List (List ℕ)) (parts parts2 : List RowPart)
    (read : IsReadTo separator text cells parts at line) → first ≡ length cells → IsFirstRow separator (drop at text) cells cells2 len
    → parts2 ≡ parts ++ kept_part (list_any is_filled (drop first cells2)) line first (length cells2 - first)
    → RowAfter separator text at len line read.all read.rows cells2 parts2
row_after separator text at len line first cells cells2 parts parts2 read at_first row next =
    let more : List (List ℕ) = row.more in
    let said : Bool = list_any is_filled (drop first cells2) in
    let kept_is : said ≡ is_kept (made line more) =
    ap (list_any is_filled) (ap₂ (λ (n : ℕ) (xs : List (List ℕ)). drop n xs) at_first row.cells_are ∙ drop-append_seam cells more) in
    let parts_are : parts2 ≡ parts ++ kept_part said line (length cells) (length (cells ++ more) - length cells) =
    next ∙ ap₂ (λ (n : ℕ) (xs : List (List ℕ)). parts ++ kept_part said line n (length xs - n)) at_first row.cells_are in
    record {
      one = made line more;
      said = records_push separator 1 read.rows read.all (take len (drop at text)) (made line more) read.records row.said
          (read.line_is ∙ ap (λ (xs : List ℕ). 1 + line_feeds xs) read.spelled);
      kept = ap₂ (λ (cs : List (List ℕ)) (ps : List RowPart). map (row_in cs) ps) row.cells_are parts_are
          ∙ kept_more cells more line parts read.all said kept_is read.kept read.within;
      within = subst (λ (cs : List (List ℕ)). All (IsWithin cs) parts2) (sym row.cells_are)
          (subst (All (IsWithin (cells ++ more))) (sym parts_are) (within_more cells more parts line said read.within));
    }

-- nothing was read
pub nothing_read : (separator : ℕ) (text : List ℕ) → IsReadTo separator text [] [] 0 1
nothing_read separator text = record {
  inside = omega arith;
  rows = [];
  all = [];
  spelled = refl;
  records = tt;
  kept = refl;
  within = All-nil (IsWithin []);
  line_is = refl;
  few = omega arith;
}

pub rows_end : (separator : ℕ) (text : List ℕ) (at len line first : ℕ) (cells cells2 : List (List ℕ)) (parts parts2 : List RowPart)
    → IsReadTo separator text cells parts at line → first ≡ length cells → IsFirstRow separator (drop at text) cells cells2 len
    → parts2 ≡ parts ++ kept_part (list_any is_filled (drop first cells2)) line first (length cells2 - first) → at + len ≡ length text
    → IsText separator text (map (row_in cells2) parts2) × All (IsWithin cells2) parts2
rows_end separator text at len line first cells cells2 parts parts2 read at_first row next whole =
    let after = row_after separator text at len line first cells cells2 parts parts2 read at_first row next in
    let left : take len (drop at text) ≡ drop at text = take_all len (drop at text) (omega (arith, whole, length-drop at text)) in (
      record {
        front = read.rows;
        last = take len (drop at text);
        all = read.all ++ after.one ∷ [];
        spelled = sym (take-append-drop at text) ∙ ap₂ (λ (xs ys : List ℕ). xs ++ ys) read.spelled (sym left);
        rows = after.said;
        kept = after.kept;
      },
      after.within,
    )

first_feed : (xs : List ℕ) → 0 < length xs → EndsRow xs → get_or xs 0 0 ≡ line_feed
first_feed [] some ends = absurd (omega (arith, some))
first_feed (x ∷ xs) some ends = ends

pub rows_next : (separator : ℕ) (text : List ℕ) (at len line line2 first : ℕ) (cells cells2 : List (List ℕ)) (parts parts2 : List RowPart)
    → IsReadTo separator text cells parts at line → first ≡ length cells → IsFirstRow separator (drop at text) cells cells2 len
    → parts2 ≡ parts ++ kept_part (list_any is_filled (drop first cells2)) line first (length cells2 - first) → at + len < length text
    → line2 ≡ line + line_feeds (take len (drop at text)) + 1 → IsReadTo separator text cells2 parts2 (at + len + 1) line2
rows_next separator text at len line line2 first cells cells2 parts parts2 read at_first row next below counted =
    let after = row_after separator text at len line first cells cells2 parts parts2 read at_first row next in
    let one : List ℕ = take len (drop at text) in
    let here : get_or (drop (at + len) text) 0 0 ≡ line_feed =
    first_feed (drop (at + len) text) (omega (arith, below, length-drop (at + len) text)) (subst EndsRow (drop-drop len at text) row.ends) in
    let whole : take (at + len + 1) text ≡ take at text ++ (one ++ line_feed ∷ []) = with_end text at len line_feed below here in
    record {
      inside = omega (arith, below);
      rows = read.rows ++ one ∷ [];
      all = read.all ++ after.one ∷ [];
      spelled = whole ∙ ap (λ (xs : List ℕ). xs ++ (one ++ line_feed ∷ [])) read.spelled ∙ sym (ended-push line_feed read.rows one);
      records = after.said;
      kept = after.kept;
      within = after.within;
      line_is = counted ∙ omega (arith, read.line_is, ap line_feeds whole, feeds-append (take at text) (one ++ line_feed ∷ []), feeds-append one (line_feed ∷ []), feeds-cons []);
      few = omega (arith, counted, read.few, count_by-le-length (λ b. b == line_feed) one, length-take len (drop at text));
    }

pub rows_broken : (separator : ℕ) (text : List ℕ) (at line : ℕ) (cells : List (List ℕ)) (parts : List RowPart) (kind : FieldFault) (fault : TextFault)
    → IsReadTo separator text cells parts at line → IsBrokenRow separator (drop at text) kind → fault.line ≡ line → fault.kind ≡ kind
    → IsBroken separator text fault
rows_broken separator text at line cells parts kind fault read row at_line is_kind = record {
  rows = read.rows;
  records = read.all;
  fields = row.fields;
  cells = row.cells;
  rest = row.rest;
  spelled = sym (take-append-drop at text) ∙ ap₂ (λ (xs ys : List ℕ). xs ++ ys) read.spelled row.spelled;
  before = read.records;
  said = row.said;
  line = at_line ∙ read.line_is ∙ ap (λ (xs : List ℕ). 1 + line_feeds xs) read.spelled;
  breaks = subst (Breaks separator row.rest) (sym is_kind) row.breaks;
}
