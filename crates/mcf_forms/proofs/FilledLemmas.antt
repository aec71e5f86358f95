-- The rows of a table that is filled down.
use Rattle.std.proofs.Common.{◌≡◌, ℕ, ◌+◌, ◌≤◌, Bool, true, false, cond, List, [], ◌∷◌, refl, ap, ◌∙◌, arith}
use Rattle.std.specs.Prelude.{count_by, if◌then◌else◌, slice_index_or}
use Rattle.std.specs.List.{range_with_len}
use Rattle.std.proofs.lemmas.List.Sums.{sum_by-append}
use mir.Val.{bool_byte}
use Rattle.mcf_table.specs.Heads.{cells_of}
use Rattle.mcf_table.specs.Texts.{Record, no_record}
use Rattle.mcf_forms.specs.Filled.{filled_row, takes, value_at, with_cell}
use Rattle.mcf_forms.proofs.Ranges.{range_more}

line_of_either : (one other : Record) (line : ℕ) (b : Bool) → one.line ≡ line → other.line ≡ line → (if b then one else other).line ≡ line
line_of_either one other line true is is_other = is
line_of_either one other line false is is_other = is_other

-- a row keeps its line
pub line_kept : (records : List Record) (place row : ℕ) → (filled_row records place row).line ≡ (slice_index_or records row no_record).line
unfolding filled_row
line_kept records place row =
    line_of_either
    (record { line = (slice_index_or records row no_record).line; cells = with_cell place (value_at records place row) (cells_of records row) })
    (slice_index_or records row no_record) ((slice_index_or records row no_record).line) (takes records place row) refl refl

-- the row of this line and these cells
pub row_is : (row : Record) (line : ℕ) (cells : List (List ℕ)) → line ≡ row.line → cells ≡ row.cells
    → ◌≡◌ {A = Record} (record { line = line; cells = cells }) row
row_is row line cells is are =
    ap (λ (l : ℕ). record { line = l; cells = cells }) is ∙ ap (λ (cs : List (List ℕ)). record { line = row.line; cells = cs }) are

byte_is : (b : Bool) → bool_byte b ≡ cond b 1 0
byte_is true = refl
byte_is false = refl

-- a test is one at most
pub byte_few : (b : Bool) → bool_byte b ≤ 1
byte_few true = omega arith
byte_few false = omega arith

-- one more number that may pass
pub counted : (p : ℕ → Bool) (n count : ℕ) (b : Bool) → count ≡ count_by p (range_with_len 0 n) → b ≡ p n
    → count + bool_byte b ≡ count_by p (range_with_len 0 (n + 1))
counted p n count b before here =
    let one : ℕ → ℕ = λ x. cond (p x) 1 0 in
    let last : bool_byte b ≡ one n = byte_is b ∙ ap (λ (t : Bool). cond t 1 0) here in
    omega (arith, before, last, ap (count_by p) (range_more 0 n n (omega arith)), sum_by-append one (range_with_len 0 n) (n ∷ []))
