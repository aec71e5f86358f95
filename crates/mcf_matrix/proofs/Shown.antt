-- What the judge of assignments tests, as the definition has it.
use Rattle.std.proofs.Common.{◌≡◌, ℕ, ◌<◌, min, ltb, Bool, List, length, get_or, inl, inr, ℤ}
use Rattle.std.proofs.lemmas.Bool.{cases_Bool, cases_lt, lt-ltb, le-ltb}
use Rattle.mcf_matrix.specs.Costs.{Costs}
use Rattle.mcf_matrix.specs.Judging.{HasLengths, IsPricedPlace}
use Rattle.mcf_matrix.specs.Matchings.{pair_count}
use Rattle.mcf_matrix.specs.MatrixPrices.{AreColumnsPriced, AreNoneBelow, AreRowsPriced, IsShownMatching}
use Rattle.mcf_matrix.specs.PlaceSums.{at_place, is_marked}
use Rattle.mcf_matrix.specs.Private.Pairing.{AreGoodPairs, IsMarking}

-- the tests of prices, by the marks of columns and by the entries of rows
abbrev pub AreMarkedPriced : Costs → List Bool → List ℤ → Type 0
AreMarkedPriced m seen v = m.rows < m.columns → (j : ℕ) → j < m.columns → IsPricedPlace (at_place v j) (is_marked seen j)

abbrev pub AreListedPriced : Costs → List ℕ → List ℤ → Type 0
AreListedPriced m x u = m.columns < m.rows → (i : ℕ) → i < m.rows → IsPricedPlace (at_place u i) (ltb (get_or x i 0) m.columns)

columns_to : (m : Costs) (x : List ℕ) (seen : List Bool) (v : List ℤ) → IsMarking m x m.rows seen → AreMarkedPriced m seen v → AreColumnsPriced m x v
columns_to m x seen v marking h more j b = (
  (h more j b).0,
  (λ free. elim (cases_Bool (is_marked seen j)) [
    | inl marked ↦ let place = marking.some j b marked in absurd (free place.0 place.2)
    | inr unmarked ↦ (h more j b).1 unmarked
  ]),
)

columns_back : (m : Costs) (x : List ℕ) (seen : List Bool) (v : List ℤ) → IsMarking m x m.rows seen → AreColumnsPriced m x v → AreMarkedPriced m seen v
columns_back m x seen v marking h more j b =
    ((h more j b).0, (λ unmarked. (h more j b).1 (λ i pair. marking.free j b unmarked i pair.0 pair)))

rows_to : (m : Costs) (x : List ℕ) (u : List ℤ) → AreListedPriced m x u → AreRowsPriced m x u
rows_to m x u h more i b =
    ((h more i b).0, (λ free. (h more i b).1 (le-ltb (get_or x i 0) m.columns free)))

rows_back : (m : Costs) (x : List ℕ) (u : List ℤ) → AreRowsPriced m x u → AreListedPriced m x u
rows_back m x u h more i b = (
  (h more i b).0,
  (λ unlisted. elim (cases_lt (get_or x i 0) m.columns) [
    | inl less ↦ absurd (let listed = lt-ltb (get_or x i 0) m.columns less in (cc))
    | inr free ↦ (h more i b).1 free
  ]),
)

-- all tests passed
pub shown_from : (m : Costs) (x : List ℕ) (u v : List ℤ) (seen : List Bool) → HasLengths m.rows m.columns (length x) (length u) (length v)
    → AreGoodPairs m x u v → IsMarking m x m.rows seen → pair_count m x ≡ min m.rows m.columns → AreMarkedPriced m seen v → AreListedPriced m x u
    → AreNoneBelow m u v → IsShownMatching m x u v
shown_from m x u v seen lengths pairs marking full columns rows none =
    record {
      matching = record { one_per_row = lengths.entries_are; allowed = pairs.allowed; distinct = pairs.distinct; full = full };
      prices = record {
        feasible = record { one_per_row = lengths.row_prices_are; one_per_column = lengths.column_prices_are; none_below = none };
        tight = pairs.tight;
        columns_priced = columns_to m x seen v marking columns;
        rows_priced = rows_to m x u rows;
      };
    }

-- what a shown matching passes
pub shown_pairs : (m : Costs) (x : List ℕ) (u v : List ℤ) → IsShownMatching m x u v → AreGoodPairs m x u v
shown_pairs m x u v shown =
    record { allowed = shown.matching.allowed; tight = shown.prices.tight; distinct = shown.matching.distinct }

pub shown_columns : (m : Costs) (x : List ℕ) (u v : List ℤ) (seen : List Bool) → IsMarking m x m.rows seen → IsShownMatching m x u v → AreMarkedPriced m seen v
shown_columns m x u v seen marking shown = columns_back m x seen v marking shown.prices.columns_priced

pub shown_rows : (m : Costs) (x : List ℕ) (u v : List ℤ) → IsShownMatching m x u v → AreListedPriced m x u
shown_rows m x u v shown = rows_back m x u shown.prices.rows_priced
