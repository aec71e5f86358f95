-- A row of a table of bits, as a slice of its entries.
use Rattle.std.proofs.Common.{◌≡◌, ℕ, ◌+◌, ◌*◌, ◌-◌, ◌<◌, ◌≤◌, List, length, get_or, take, drop, ap, sym, ◌∙◌, arith, length-take, length-drop, subst, inl, inr}
use Rattle.std.specs.List.{slice_range}
use Rattle.std.proofs.lemmas.List.{get_or-drop, get_or-take}
use Rattle.std.proofs.lemmas.Bool.{cases_lt}
use Rattle.mcf_matrix_doubles.specs.DoubleTables.{DoubleTable, IsFirstRefused, IsShaped, bits_at}
use Rattle.mcf_matrix_doubles.specs.Doubles.{IsEntry}

abbrev pub row_of : DoubleTable → ℕ → List ℕ
row_of t i = slice_range t.entries (i * t.stride) (i * t.stride + t.columns)

pub row_at : (t : DoubleTable) (i j : ℕ) → j < t.columns → get_or (row_of t i) j 0 ≡ bits_at t i j
row_at t i j h =
    let s = i * t.stride in
    let size : s + t.columns - s ≡ t.columns = omega arith in
    ap (λ n. get_or (take n (drop s t.entries)) j 0) size ∙ get_or-take t.columns (drop s t.entries) j 0 h ∙ get_or-drop s t.entries j 0

pub row_length : (t : DoubleTable) (i : ℕ) → IsShaped t → i < t.rows → length (row_of t i) ≡ t.columns
row_length t i shaped h =
    let s = i * t.stride in
    let size : s + t.columns - s ≡ t.columns = omega arith in
    let inside : s + t.columns ≤ length t.entries = shaped.inside i h in
    omega (arith, ap (λ n. length (take n (drop s t.entries))) size, length-take t.columns (drop s t.entries), length-drop s t.entries)

-- good entries of the rows so far, and of one more
pub rows_more : (t : DoubleTable) (i : ℕ) → IsShaped t → i < t.rows → ((k j : ℕ) → k < i → j < t.columns → IsEntry (bits_at t k j))
    → ((j : ℕ) → j < length (row_of t i) → IsEntry (get_or (row_of t i) j 0)) → (k j : ℕ) → k < i + 1 → j < t.columns → IsEntry (bits_at t k j)
rows_more t i shaped h before here k j a b =
    elim (cases_lt k i) [
      | inl less ↦ before k j less b
      | inr more ↦
          let same : i ≡ k = omega arith in
          subst (λ n. IsEntry (bits_at t n j)) same (subst IsEntry (row_at t i j b) (here j (omega (arith, row_length t i shaped h))))
    ]

-- the first refused entry of a row, after rows that have none
pub first_in_row : (t : DoubleTable) (i j : ℕ) → IsShaped t → i < t.rows → ((k l : ℕ) → k < i → l < t.columns → IsEntry (bits_at t k l))
    → (j < length (row_of t i)) × (¬ IsEntry (get_or (row_of t i) j 0)) × ((k : ℕ) → k < j → IsEntry (get_or (row_of t i) k 0)) → IsFirstRefused t i j
first_in_row t i j shaped h before found =
    let b : j < t.columns = omega (arith, found.0, row_length t i shaped h) in
    record {
      row = h;
      column = b;
      refused = subst (λ z. ¬ IsEntry z) (row_at t i j b) found.1;
      first = λ k l row column earlier. elim earlier [
        | inl above ↦ before k l above column
        | inr same ↦
            let e : i ≡ k = sym same.0 in
            subst (λ n. IsEntry (bits_at t n l)) e (subst IsEntry (row_at t i l column) (found.2 l same.1))
      ];
    }

-- what holds of each entry of a row and its place, for the rows so far and one more
pub places_more : (P : ℕ → ℕ → ℕ → Type 0) (t : DoubleTable) (i : ℕ) → IsShaped t → i < t.rows → ((k j : ℕ) → k < i → j < t.columns → P k j (bits_at t k j))
    → ((j : ℕ) → j < length (row_of t i) → P i j (get_or (row_of t i) j 0)) → (k j : ℕ) → k < i + 1 → j < t.columns → P k j (bits_at t k j)
places_more P t i shaped h before here k j a b =
    elim (cases_lt k i) [
      | inl less ↦ before k j less b
      | inr more ↦
          let same : i ≡ k = omega arith in
          subst (λ n. P n j (bits_at t n j)) same (subst (P i j) (row_at t i j b) (here j (omega (arith, row_length t i shaped h))))
    ]

-- and what holds of each place of a whole table, of a row
pub places_of_row : (P : ℕ → ℕ → ℕ → Type 0) (t : DoubleTable) (i : ℕ) → IsShaped t → i < t.rows → ((j : ℕ) → j < t.columns → P i j (bits_at t i j))
    → (j : ℕ) → j < length (row_of t i) → P i j (get_or (row_of t i) j 0)
places_of_row P t i shaped h all j b =
    let inside : j < t.columns = omega (arith, row_length t i shaped h) in
    subst (P i j) (sym (row_at t i j inside)) (all j inside)
