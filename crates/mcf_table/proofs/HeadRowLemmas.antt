-- The row of the heads, and rows without those in front.
use Rattle.std.proofs.Common.{◌≡◌, ℕ, ◌+◌, ◌-◌, ◌<◌, ◌≤◌, Bool, true, false, cond, ltb, List, ◌++◌, length, map, take, drop, get_or, Some, None, min, sym, ap, ap₂, ◌∙◌, arith, length-take, length-drop, inl, inr}
use Rattle.std.specs.Prelude.{position, unwrap_or, Option}
use Rattle.std.specs.Borrow.{Bor}
use Rattle.std.specs.List.{list_all, position_or_len}
use Rattle.std.proofs.lemmas.Bool.{cases_lt, le-ltb, lt-ltb}
use Rattle.std.proofs.lemmas.List.{drop-map, drop_all, get_or-drop, get_or-take, take-append-le}
use Rattle.std.proofs.lemmas.List.Folds.{list_all-map}
use Rattle.std.proofs.lemmas.List.Sums.{position_or_len_is}
use Rattle.std.proofs.Math.Seq.{take-length}
use Rattle.mcf_table.specs.HeadRows.{has_cell, has_heads, head_row}
use Rattle.mcf_table.specs.Private.Found.{row_in}
use Rattle.mcf_table.specs.Texts.{Record, no_record}
use Rattle.mcf_table.specs.declared.records.RowPart.{RowPart}

-- the rows that may be that of the heads
abbrev looked_at : ℕ → List Record → List Record
looked_at from records = take 10 (drop from records)

looked_len : (from : ℕ) (records : List Record) → length (looked_at from records) ≡ min 10 (length records - from)
looked_len from records = length-take 10 (drop from records) ∙ ap (min 10) (length-drop from records)

row_at : (from k : ℕ) (records : List Record) → k < 10 → get_or (looked_at from records) k no_record ≡ get_or records (from + k) no_record
row_at from k records few = get_or-take 10 (drop from records) k no_record few ∙ get_or-drop from records k no_record

-- no row from this one on, below a row, has all the heads
abbrev pub NoneBelow : ℕ → List (List ℕ) → List Record → ℕ → Type 0
NoneBelow from wanted records row = (k : ℕ) → from ≤ k → k < row → has_heads wanted (get_or records k no_record) ≡ false

none_looked : (from row : ℕ) (wanted : List (List ℕ)) (records : List Record) → NoneBelow from wanted records row → (k : ℕ)
    → k < 10 → from + k < row → has_heads wanted (get_or (looked_at from records) k no_record) ≡ false
none_looked from row wanted records none k few below =
    ap (has_heads wanted) (row_at from k records few) ∙ none (from + k) (omega arith) below

pub row_found : (from row : ℕ) (wanted : List (List ℕ)) (records : List Record) → from ≤ row → row < length records → row < from + 10
    → NoneBelow from wanted records row → has_heads wanted (get_or records row no_record) ≡ true → row ≡ head_row from wanted records
row_found from row wanted records after inside near none hit =
    let k = row - from in
    let few : k < 10 = omega (arith, after, near) in
    let back : from + k ≡ row = omega (arith, after) in
    let within : k < length (looked_at from records) = omega (arith, looked_len from records, after, inside, near) in
    let is : has_heads wanted (get_or (looked_at from records) k no_record) ≡ true =
    ap (has_heads wanted) (row_at from k records few ∙ ap (λ (n : ℕ). get_or records n no_record) back) ∙ hit in
    let at : position_or_len (has_heads wanted) (looked_at from records) ≡ k =
    position_or_len_is (has_heads wanted) (looked_at from records) k no_record (omega (arith, within))
    (λ j before. none_looked from row wanted records none j (omega (arith, before, few)) (omega (arith, before, back))) (λ _. is) in
    let found : position (has_heads wanted) (looked_at from records) ≡ Some k =
    ap (λ (n : ℕ). cond (ltb n (length (looked_at from records))) (Some n) None) at
    ∙ ap (λ (b : Bool). cond b (Some k) None) (lt-ltb k (length (looked_at from records)) within) in
    sym (ap (λ (o : Option ℕ). from + unwrap_or o 0) found ∙ back)

pub row_missing : (from row : ℕ) (wanted : List (List ℕ)) (records : List Record) → min (length records) (from + 10) ≤ row
    → NoneBelow from wanted records row → from ≡ head_row from wanted records
row_missing from row wanted records past none =
    let n = length (looked_at from records) in
    let at : position_or_len (has_heads wanted) (looked_at from records) ≡ n =
    position_or_len_is (has_heads wanted) (looked_at from records) n no_record (omega arith)
    (λ j before. none_looked from row wanted records none j (omega (arith, before, looked_len from records))
    (omega (arith, before, looked_len from records, past)))
    (λ less. absurd (omega (arith, less))) in
    let nowhere : position (has_heads wanted) (looked_at from records) ≡ None =
    ap (λ (m : ℕ). cond (ltb m n) (Some m) None) at ∙ ap (λ (b : Bool). cond b (Some n) None) (le-ltb n n (omega arith)) in
    let same : from + 0 ≡ from = omega arith in
    sym (ap (λ (o : Option ℕ). from + unwrap_or o 0) nowhere ∙ same)

pub heads_borrowed : (wanted : List (Bor (List ℕ))) (row : Record) → has_heads (map (λ head. head.now) wanted) row
    ≡ list_all (λ head. has_cell head.now row.cells) wanted
heads_borrowed wanted row = list_all-map (λ head. has_cell head row.cells) (λ (head : Bor (List ℕ)). head.now) wanted

pub none_more : (from row : ℕ) (wanted : List (List ℕ)) (records : List Record) → NoneBelow from wanted records row
    → has_heads wanted (get_or records row no_record) ≡ false → NoneBelow from wanted records (row + 1)
none_more from row wanted records none miss k after below =
    elim (cases_lt k row) [
      | inl lt ↦ none k after lt
      | inr past ↦
          (let same : k ≡ row = omega (arith, past, below) in
          ap (λ (n : ℕ). has_heads wanted (get_or records n no_record)) same ∙ miss)
    ]

-- what is left of a list that is turned round so many times, and cut
pub front_dropped : {A : Type 0} (xs : List A) (count : ℕ)
    → take (length xs - count) (drop (min count (length xs)) xs ++ take (min count (length xs)) xs) ≡ drop count xs
front_dropped {A} xs count =
    let len = length xs in
    let back = drop (min count len) xs in
    let front = take (min count len) xs in
    let enough : len - count ≡ length back = omega (arith, length-drop (min count len) xs) in
    let kept : take (len - count) (back ++ front) ≡ back =
    ap (λ (n : ℕ). take n (back ++ front)) enough ∙ take-append-le (length back) back front (omega arith) ∙ take-length back in
    kept ∙ elim (cases_lt count len) [
      | inl lt ↦ (let same : min count len ≡ count = omega (arith, lt) in ap (λ (n : ℕ). drop n xs) same)
      | inr past ↦ drop_all (min count len) xs (omega (arith, past)) ∙ sym (drop_all count xs past)
    ]

pub rows_dropped : (cells : List (List ℕ)) (parts left : List RowPart) (count len mid kept : ℕ) → len ≡ length parts → mid ≡ min count len
    → kept ≡ len - count → left ≡ take kept (drop mid parts ++ take mid parts)
    → map (row_in cells) left ≡ drop count (map (row_in cells) parts)
rows_dropped cells parts left count len mid kept len_is mid_is kept_is left_is =
    ap (map (row_in cells))
    (left_is
    ∙ ap₂ (λ (n m : ℕ). take n (drop m parts ++ take m parts)) (kept_is ∙ ap (λ (n : ℕ). n - count) len_is) (mid_is ∙ ap (min count) len_is)
    ∙ front_dropped parts count)
    ∙ sym (drop-map (row_in cells) count parts)
