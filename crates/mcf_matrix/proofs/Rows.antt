-- A row of a table, as a slice of its entries.
use Rattle.std.proofs.Common.{◌≡◌, ℕ, ◌+◌, ◌*◌, ◌-◌, ◌<◌, ◌≤◌, length, get_or, take, drop, ℤ, pos, ap, sym, ◌∙◌, arith, length-take, length-drop, subst, inl, inr}
use Rattle.std.specs.List.{slice_range}
use Rattle.std.proofs.lemmas.List.{get_or-drop, get_or-take}
use Rattle.std.proofs.lemmas.Bool.{cases_lt}
use Rattle.mcf_matrix.specs.Tables.{IsFirstBeyond, IsShaped, IsSmallEntry, Table, entry, whole_costs}

pub row_at : (t : Table) (i j : ℕ) → j < t.columns → get_or (slice_range t.entries (i * t.stride) (i * t.stride + t.columns)) j (pos 0) ≡ entry t i j
row_at t i j h =
    let s = i * t.stride in
    let size : s + t.columns - s ≡ t.columns = omega arith in
    ap (λ n. get_or (take n (drop s t.entries)) j (pos 0)) size ∙ get_or-take t.columns (drop s t.entries) j (pos 0) h ∙ get_or-drop s t.entries j (pos 0)

pub row_length : (t : Table) (i : ℕ) → IsShaped t → i < t.rows → length (slice_range t.entries (i * t.stride) (i * t.stride + t.columns)) ≡ t.columns
row_length t i shaped h =
    let s = i * t.stride in
    let size : s + t.columns - s ≡ t.columns = omega arith in
    let inside : s + t.columns ≤ length t.entries = shaped.inside i h in
    omega (arith, ap (λ n. length (take n (drop s t.entries))) size, length-take t.columns (drop s t.entries), length-drop s t.entries)

-- what holds of each entry of a row, place by place
pub row_each : (P : ℤ → Type 0) (t : Table) (i : ℕ) → IsShaped t → i < t.rows
    → ((j : ℕ) → j < length (slice_range t.entries (i * t.stride) (i * t.stride + t.columns))
    → P (get_or (slice_range t.entries (i * t.stride) (i * t.stride + t.columns)) j (pos 0))) → (j : ℕ) → j < t.columns → P (entry t i j)
row_each P t i shaped h each j b =
    subst P (row_at t i j b) (each j (omega (arith, row_length t i shaped h)))

-- the same for the rows so far and one more
pub rows_more : (P : ℤ → Type 0) (t : Table) (i : ℕ) → IsShaped t → i < t.rows → ((k j : ℕ) → k < i → j < t.columns → P (entry t k j))
    → ((j : ℕ) → j < length (slice_range t.entries (i * t.stride) (i * t.stride + t.columns))
    → P (get_or (slice_range t.entries (i * t.stride) (i * t.stride + t.columns)) j (pos 0)))
    → (k j : ℕ) → k < i + 1 → j < t.columns → P (entry t k j)
rows_more P t i shaped h before here k j a b =
    elim (cases_lt k i) [
      | inl less ↦ before k j less b
      | inr more ↦
          let same : i ≡ k = omega arith in
          subst (λ n. P (entry t n j)) same (row_each P t i shaped h here j b)
    ]

-- the first entry of a row that isn't small, after rows that are
pub first_in_row : (t : Table) (i j : ℕ) → IsShaped t → i < t.rows → ((k l : ℕ) → k < i → l < t.columns → IsSmallEntry (entry t k l))
    → (j < length (slice_range t.entries (i * t.stride) (i * t.stride + t.columns)))
    × (¬ IsSmallEntry (get_or (slice_range t.entries (i * t.stride) (i * t.stride + t.columns)) j (pos 0)))
    × ((k : ℕ) → k < j → IsSmallEntry (get_or (slice_range t.entries (i * t.stride) (i * t.stride + t.columns)) k (pos 0)))
    → IsFirstBeyond (whole_costs t) i j
first_in_row t i j shaped h before found =
    let b : j < t.columns = omega (arith, found.0, row_length t i shaped h) in
    record {
      place = (h, b);
      beyond = subst (λ z. ¬ IsSmallEntry z) (row_at t i j b) found.1;
      first = λ k l place earlier. elim earlier [
        | inl above ↦ before k l above place.1
        | inr same ↦
            let e : i ≡ k = sym same.0 in
            subst (λ n. IsSmallEntry (entry t n l)) e (subst IsSmallEntry (row_at t i l place.1) (found.2 l same.1))
      ];
    }

-- what holds of each entry of a row and its place, for the rows so far and one more
pub places_more : (P : ℕ → ℕ → ℤ → Type 0) (t : Table) (i : ℕ) → IsShaped t → i < t.rows → ((k j : ℕ) → k < i → j < t.columns → P k j (entry t k j))
    → ((j : ℕ) → j < length (slice_range t.entries (i * t.stride) (i * t.stride + t.columns))
    → P i j (get_or (slice_range t.entries (i * t.stride) (i * t.stride + t.columns)) j (pos 0)))
    → (k j : ℕ) → k < i + 1 → j < t.columns → P k j (entry t k j)
places_more P t i shaped h before here k j a b =
    elim (cases_lt k i) [
      | inl less ↦ before k j less b
      | inr more ↦
          let same : i ≡ k = omega arith in
          subst (λ n. P n j (entry t n j)) same (subst (P i j) (row_at t i j b) (here j (omega (arith, row_length t i shaped h))))
    ]

-- and what holds of each place of a whole table, of a row
pub places_of_row : (P : ℕ → ℕ → ℤ → Type 0) (t : Table) (i : ℕ) → IsShaped t → i < t.rows → ((j : ℕ) → j < t.columns → P i j (entry t i j))
    → (j : ℕ) → j < length (slice_range t.entries (i * t.stride) (i * t.stride + t.columns))
    → P i j (get_or (slice_range t.entries (i * t.stride) (i * t.stride + t.columns)) j (pos 0))
places_of_row P t i shaped h all j b =
    let inside : j < t.columns = omega (arith, row_length t i shaped h) in
    subst (P i j) (sym (row_at t i j inside)) (all j inside)
