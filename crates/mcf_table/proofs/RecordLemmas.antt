-- Records after a row, and without the last ones.
use Rattle.std.proofs.Common.{◌≡◌, ℕ, ◌+◌, ◌≤◌, List, [], ◌∷◌, ◌++◌, length, take, drop, map, All, refl, sym, ap, ap₂, ◌∙◌}
use Rattle.std.proofs.lemmas.List.{map_push}
use Rattle.std.proofs.lemmas.List.Elements.{All-head, All-tail}
use Rattle.std.proofs.Math.Seq.{drop-append_seam, take-length}
use Rattle.mcf_table.specs.Private.Found.{IsWithin, row_in}
use Rattle.mcf_table.specs.Texts.{Record}
use Rattle.mcf_table.specs.declared.records.RowPart.{RowPart}
use Rattle.mcf_table.proofs.CellLemmas.{part_more}

abbrev row : ℕ → List (List ℕ) → Record
row line cells = record { line = line; cells = cells }

abbrev part : ℕ → ℕ → ℕ → RowPart
part line first count = record { line = line; first = first; count = count }

-- more cells change no row
rows_more : (cells more : List (List ℕ)) (parts : List RowPart) → All (IsWithin cells) parts
    → map (row_in (cells ++ more)) parts ≡ map (row_in cells) parts
rows_more cells more [] within = refl
rows_more cells more (p ∷ parts) within =
    ap₂ (λ (xs : List (List ℕ)) (rows : List Record). row p.line xs ∷ rows)
    (part_more cells more p.first p.count (All-head (IsWithin cells) p parts within))
    (rows_more cells more parts (All-tail (IsWithin cells) p parts within))

pub still_rows : (cells cells2 more : List (List ℕ)) (parts parts2 : List RowPart) (old : List Record) → All (IsWithin cells) parts
    → old ≡ map (row_in cells) parts → cells2 ≡ cells ++ more → parts2 ≡ parts → map (row_in cells2) parts2 ≡ old
still_rows cells cells2 more parts parts2 old within view longer same =
    ap₂ (λ (xs : List (List ℕ)) (ps : List RowPart). map (row_in xs) ps) longer same ∙ rows_more cells more parts within ∙ sym view

pub row_pushed : (cells cells2 more : List (List ℕ)) (parts parts2 : List RowPart) (old : List Record) (line first count : ℕ)
    → All (IsWithin cells) parts → old ≡ map (row_in cells) parts → cells2 ≡ cells ++ more → parts2 ≡ parts ++ part line first count ∷ []
    → first ≡ length cells → count ≡ length more → map (row_in cells2) parts2 ≡ old ++ row line more ∷ []
row_pushed cells cells2 more parts parts2 old line first count within view longer longer_parts at size =
    let new : take count (drop first (cells ++ more)) ≡ more =
    ap₂ (λ (n m : ℕ). take n (drop m (cells ++ more))) size at ∙ ap (take (length more)) (drop-append_seam cells more) ∙ take-length more in
    ap₂ (λ (xs : List (List ℕ)) (ps : List RowPart). map (row_in xs) ps) longer longer_parts
    ∙ map_push (row_in (cells ++ more)) parts (part line first count)
    ∙ ap₂ (λ (rows : List Record) (xs : List (List ℕ)). rows ++ row line xs ∷ []) (rows_more cells more parts within ∙ sym view) new
