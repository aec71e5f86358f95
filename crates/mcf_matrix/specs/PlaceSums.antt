-- Sums and sets of places, which count from 0.
-- Source: textbook
use Rattle.std.specs.Prelude.{ℕ, zero, suc, Bool, false, List, count_by, ℤ, pos, ◌+ℤ◌, slice_index_or}

-- the sum of a term over the places below n
abbrev pub sum_below : (ℕ → ℤ) → ℕ → ℤ
sum_below term zero = pos 0
sum_below term (suc n) = sum_below term n +ℤ term n

-- the entry at a place of a list of whole numbers
abbrev pub at_place : List ℤ → ℕ → ℤ
at_place xs i = slice_index_or xs i (pos 0)

-- whether a table, which has one entry for each place, marks a place
abbrev pub is_marked : List Bool → ℕ → Bool
is_marked table i = slice_index_or table i false

-- the number of places that a table marks
abbrev pub mark_count : List Bool → ℕ
mark_count table = count_by (λ b. b) table
