-- The text of a row, cell by cell.
use Rattle.std.proofs.Common.{◌≡◌, ℕ, List, [], ◌∷◌, ◌++◌, map, OnOk, Result, Ok, Err, Bor, sym, ap, ◌∙◌, append_assoc, append-nil}
use Rattle.std.specs.List.{IsFirstAndRest}
use Rattle.mcf_table.specs.Rows.{quoted}
use Rattle.mcf_table.specs.Written.{further_text, row_text}

-- the first cell, and then further ones
row_split : (separator : ℕ) (cell : List ℕ) (cells : List (List ℕ))
    → row_text separator (cell ∷ cells) ≡ quoted 0 cell ++ further_text separator cells
row_split separator cell [] = sym (append-nil (quoted 0 cell))
row_split separator cell (other ∷ cells) = ap (λ (xs : List ℕ). quoted 0 cell ++ separator ∷ xs) (row_split separator other cells)

-- the first cell is appended, and then further ones, if that works
pub cells_put : {E : Type 0} (r : Result (Unit {0}) E) (separator : ℕ) (old one all : List ℕ) (cells : List (Bor (List ℕ)))
    (cell : Bor (List ℕ)) (others : List (Bor (List ℕ))) → IsFirstAndRest cells cell others → one ≡ old ++ quoted 0 cell.now
    → OnOk r (all ≡ one ++ further_text separator (map (λ (c : Bor (List ℕ)). c.now) others))
    → OnOk r (all ≡ old ++ row_text separator (map (λ (c : Bor (List ℕ)). c.now) cells))
cells_put (Err fault) separator old one all cells cell others split first further = tt
cells_put (Ok done) separator old one all cells cell others split first further =
    let rest = map (λ (c : Bor (List ℕ)). c.now) others in
    further ∙ ap (λ (xs : List ℕ). xs ++ further_text separator rest) first
    ∙ append_assoc old (quoted 0 cell.now) (further_text separator rest)
    ∙ ap (λ (xs : List ℕ). old ++ xs) (sym (row_split separator cell.now rest))
    ∙ ap (λ (xs : List (Bor (List ℕ))). old ++ row_text separator (map (λ (c : Bor (List ℕ)). c.now) xs)) (sym split.0)
