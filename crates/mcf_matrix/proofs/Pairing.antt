-- The pass over the rows of a matching, a row at a time.
use Rattle.std.proofs.Common.{◌≡◌, ℕ, ◌+◌, ◌<◌, ◌≤◌, Bool, true, false, List, length, get_or, set, IsSomeAnd, IfSome, IsSome, Option, Some, None, inl, inr, ap, sym, ◌∙◌, subst, arith, ℤ, refl}
use Rattle.std.proofs.lemmas.Bool.{cases_eq}
use Rattle.std.proofs.lemmas.List.{get_or-set_other, get_or-set_same}
use Rattle.mcf_matrix.specs.Costs.{Costs}
use Rattle.mcf_matrix.specs.Judging.{IsGoodPair}
use Rattle.mcf_matrix.specs.Matchings.{IsPair}
use Rattle.mcf_matrix.specs.PlaceSums.{is_marked}
use Rattle.mcf_matrix.specs.Private.Pairing.{AreGoodPairs, ArePairedSoFar}

pub nothing_paired : (m : Costs) (x : List ℕ) (u v : List ℤ) (seen : List Bool) → ((j : ℕ) → j < m.columns → is_marked seen j ≡ false) → ArePairedSoFar m x u v 0 seen
nothing_paired m x u v seen none =
    record {
      good = λ i j b. absurd (omega arith);
      distinct = λ i k j b. absurd (omega arith);
      marking = record { some = λ j b marked. absurd (let free = none j b in (cc)); free = λ j b free i h. absurd (omega arith) };
    }

-- a row without a column
pub row_skipped : (m : Costs) (x : List ℕ) (u v : List ℤ) (i : ℕ) (seen : List Bool) → m.columns ≤ get_or x i 0 → ArePairedSoFar m x u v i seen
    → ArePairedSoFar m x u v (i + 1) seen
row_skipped m x u v i seen none before =
    record {
      good = λ k j b pair. before.good k j (earlier k j b pair) pair;
      distinct = λ k l j b d p q. before.distinct k l j (earlier k j b p) (earlier l j d q) p q;
      marking = record {
        some = λ j b marked. let at = before.marking.some j b marked in (at.0, omega (arith, at.1), at.2);
        free = λ j b free k h pair. before.marking.free j b free k (earlier k j h pair) pair;
      };
    }
  where
    earlier : (k j : ℕ) → k < i + 1 → IsPair m x k j → k < i
    earlier k j b pair =
        elim (cases_eq k i) [
          | inl same ↦ absurd (let e : get_or x i 0 ≡ j = ap (λ n. get_or x n 0) (sym same) ∙ pair.2 in omega (arith, e, none, pair.1))
          | inr other ↦ omega arith
        ]

-- a row with a column that no row before has
pub row_paired : (m : Costs) (x : List ℕ) (u v : List ℤ) (i : ℕ) (seen : List Bool) → i < m.rows → get_or x i 0 < m.columns → length seen ≡ m.columns
    → IsGoodPair m u v i (get_or x i 0) → is_marked seen (get_or x i 0) ≡ false → ArePairedSoFar m x u v i seen
    → ArePairedSoFar m x u v (i + 1) (set seen (get_or x i 0) true)
row_paired m x u v i seen row column size good new before =
    record {
      good = λ k j b pair. elim (cases_eq k i) [
        | inl same ↦ subst (λ n. IsGoodPair m u v n j) (sym same) (subst (IsGoodPair m u v i) (at k j same pair) good)
        | inr other ↦ before.good k j (omega arith) pair
      ];
      distinct = λ k l j b d p q. elim (cases_eq k i) [
        | inl first ↦ elim (cases_eq l i) [
          | inl second ↦ first ∙ sym second
          | inr other ↦ absurd (before.marking.free j p.1 (subst (λ n. is_marked seen n ≡ false) (at k j first p) new) l (omega arith) q)
        ]
        | inr fresh ↦ elim (cases_eq l i) [
          | inl second ↦ absurd (before.marking.free j p.1 (subst (λ n. is_marked seen n ≡ false) (at l j second q) new) k (omega arith) p)
          | inr other ↦ before.distinct k l j (omega arith) (omega arith) p q
        ]
      ];
      marking = record {
        some = λ j b marked. elim (cases_eq j (get_or x i 0)) [
          | inl same ↦ (i, omega arith, (row, b, sym same))
          | inr other ↦ let place = before.marking.some j b (sym (get_or-set_other seen (get_or x i 0) j true false other) ∙ marked) in (place.0, omega (arith, place.1), place.2)
        ];
        free = λ j b free k h pair. elim (cases_eq j (get_or x i 0)) [
          | inl same ↦ absurd (let marked = get_or-set_same seen (get_or x i 0) true false (omega (arith, size)) in
              let now : is_marked (set seen (get_or x i 0) true) (get_or x i 0) ≡ false = subst (λ n. is_marked (set seen (get_or x i 0) true) n ≡ false) same free in (cc))
          | inr other ↦ elim (cases_eq k i) [
            | inl last ↦ other (sym (at k j last pair))
            | inr old ↦ before.marking.free j b (sym (get_or-set_other seen (get_or x i 0) j true false other) ∙ free) k (omega arith) pair
          ]
        ];
      };
    }
  where
    at : (k j : ℕ) → k ≡ i → IsPair m x k j → get_or x i 0 ≡ j
    at k j same pair = ap (λ n. get_or x n 0) (sym same) ∙ pair.2

-- a cost that is there, and of which a fact holds
pub good_from : (o : Option ℤ) (P : ℤ → Type 0) → IsSomeAnd o P → IsSome o × IfSome o P
good_from None P h = absurd h
good_from (Some c) P h = (refl, h)

pub good_to : (o : Option ℤ) (P : ℤ → Type 0) → IsSome o → IfSome o P → IsSomeAnd o P
good_to None P some h = absurd (cc)
good_to (Some c) P some h = h

-- all rows
pub all_paired : (m : Costs) (x : List ℕ) (u v : List ℤ) (seen : List Bool) → ArePairedSoFar m x u v m.rows seen → AreGoodPairs m x u v
all_paired m x u v seen so_far =
    record {
      allowed = λ i j pair. (so_far.good i j pair.0 pair).0;
      tight = λ i j pair. (so_far.good i j pair.0 pair).1;
      distinct = λ i k j p q. so_far.distinct i k j p.0 q.0 p q;
    }

-- a pair that isn't good, and a column that comes again, refute all rows
pub good_pair : (m : Costs) (x : List ℕ) (u v : List ℤ) (i : ℕ) → i < m.rows → get_or x i 0 < m.columns → AreGoodPairs m x u v
    → IsGoodPair m u v i (get_or x i 0)
good_pair m x u v i row column all =
    (all.allowed i (get_or x i 0) (row, column, refl), all.tight i (get_or x i 0) (row, column, refl))

pub column_again : (m : Costs) (x : List ℕ) (u v : List ℤ) (i : ℕ) (seen : List Bool) → i < m.rows → get_or x i 0 < m.columns
    → is_marked seen (get_or x i 0) ≡ true → ArePairedSoFar m x u v i seen → AreGoodPairs m x u v → ⊥
column_again m x u v i seen row column again before all =
    let place = before.marking.some (get_or x i 0) column again in
    let same = all.distinct place.0 i (get_or x i 0) place.2 (row, column, refl) in
    omega (arith, place.1, same)
