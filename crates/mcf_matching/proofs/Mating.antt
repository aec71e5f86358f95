-- The mates of a partial matching, and those after an arc came out of it, and after one came in.
use Rattle.std.proofs.Common.{◌≡◌, ◌≢◌, ℕ, ◌-◌, ◌<◌, ◌≤◌, true, false, List, set, length, pos, ◌≤ℤ◌, refl, sym, ◌∙◌, ap, subst, arith, ◌⊎◌, inl, inr}
use Rattle.std.proofs.Common.{length-set}
use Rattle.std.proofs.lemmas.Bool.{cases_eq}
use Rattle.std.proofs.lemmas.Grind.{get_or-set_at}
use Rattle.std.proofs.lemmas.Int.{ints}
use Rattle.std.proofs.lemmas.List.{get_or-set_other}
use Rattle.mcf_flows.specs.Network.{IsArcNumber, IsNode, node_count}
use Rattle.mcf_network.specs.States.{Pseudoflow, pushed, room_of}
use Rattle.mcf_network.proofs.StateLaws.{rid}
use Rattle.mcf_matching.specs.declared.scene.Mate.{Mate}
use Rattle.mcf_matching.specs.Extending.{IsMatched}
use Rattle.mcf_matching.specs.Matchings.{IsMatchedColumn, IsMatchedRow, IsPair, IsPartialMatching, IsRow, column_of, row_of}
use Rattle.mcf_matching.specs.Private.Forests.{AreMates, mate, mate_at}
use Rattle.mcf_matching.proofs.PairLaws.{column_is, free_zero, pairing_at, row_column, row_is, row_matched}
use Rattle.mcf_matching.proofs.Pairing.{paired_ok, unpaired_ok}

module _ (s : Pseudoflow) (mates : List Mate) (mated : AreMates s mates) where
  -- the arc that stands at an end of a pair
  pub mate_arc : (v k : ℕ) → IsPair s k → (row_of s k ≡ v) ⊎ (column_of s k ≡ v) → (mate_at mates v).arc ≡ k
  mate_arc v k p (inl e) = ap (λ u. (mate_at mates u).arc) (sym e) ∙ ap (λ (m : Mate). m.arc) (mated.at_row k p)
  mate_arc v k p (inr e) = ap (λ u. (mate_at mates u).arc) (sym e) ∙ ap (λ (m : Mate). m.arc) (mated.at_column k p)

  -- where none stands there is no pair
  pub mate_none : (v : ℕ) → (mate_at mates v).arc ≡ 0 → ¬ IsMatched s v
  mate_none v none (k, p, at) = let is = mate_arc v k p at in let arc = p.arc in omega (arith, none, is, arc)

  pub mate_pair : (v : ℕ) → IsNode (node_count s.net) v → 0 < (mate_at mates v).arc → IsPair s (mate_at mates v).arc
  mate_pair v n some = (let (k, p, at) = mated.matched v n some in subst (λ i. IsPair s i) (sym (mate_arc v k p at)) p)

  pub row_mate : (v : ℕ) → IsPartialMatching s → IsRow s v → 0 < (mate_at mates v).arc
      → IsPair s (mate_at mates v).arc × (row_of s (mate_at mates v).arc ≡ v) × (column_of s (mate_at mates v).arc ≡ (mate_at mates v).node)
  row_mate v ok row some =
      let (k, p, e) = row_matched s v ok row (mated.matched v row.0 some) in
      subst (λ (m : Mate). IsPair s m.arc × (row_of s m.arc ≡ v) × (column_of s m.arc ≡ m.node))
      (sym (ap (mate_at mates) (sym e) ∙ mated.at_row k p)) (p, e, refl)

module _ (s : Pseudoflow) (mates : List Mate) (k : ℕ) (ok : IsPartialMatching s) (arc : IsArcNumber s.net k) (was : AreMates s mates) where
  -- other mates are written at the row and at the column of an arc
  module _ (x y : Mate) where
    abbrev written : List Mate
    written = set (set mates (row_of s k - 1) x) (column_of s k - 1) y

    count_now : length written ≡ node_count s.net
    count_now = length-set (set mates (row_of s k - 1) x) (column_of s k - 1) y ∙ length-set mates (row_of s k - 1) x ∙ was.count

    row_now : mate_at written (row_of s k) ≡ x
    row_now =
        let row = row_is s k ok arc in
        let column = column_is s k ok arc in
        let apart = row_column s (row_of s k) (column_of s k) row column in
        let count = was.count in
        let r = row.0 in
        let c = column.0 in
        get_or-set_other (set mates (row_of s k - 1) x) (column_of s k - 1) (row_of s k - 1) y (mate 0 0) (omega (arith, apart, r, c))
        ∙ get_or-set_at mates (row_of s k - 1) (row_of s k - 1) x (mate 0 0) refl (omega (arith, r, count))

    column_now : mate_at written (column_of s k) ≡ y
    column_now =
        let count = was.count in
        let c = (column_is s k ok arc).0 in
        let same = length-set mates (row_of s k - 1) x in
        get_or-set_at (set mates (row_of s k - 1) x) (column_of s k - 1) (column_of s k - 1) y (mate 0 0) refl (omega (arith, c, count, same))

    elsewhere : (v : ℕ) → 1 ≤ v → v ≢ row_of s k → v ≢ column_of s k → mate_at written v ≡ mate_at mates v
    elsewhere v low n m =
        let r = (row_is s k ok arc).0 in
        let c = (column_is s k ok arc).0 in
        get_or-set_other (set mates (row_of s k - 1) x) (column_of s k - 1) (v - 1) y (mate 0 0) (omega (arith, c, low, m))
        ∙ get_or-set_other mates (row_of s k - 1) (v - 1) x (mate 0 0) (omega (arith, r, low, n))

    -- a pair that has no end with the arc keeps its mates
    kept_at : (i : ℕ) → IsPair s i → row_of s i ≢ row_of s k → column_of s i ≢ column_of s k
        → (mate_at written (row_of s i) ≡ mate i (column_of s i)) × (mate_at written (column_of s i) ≡ mate i (row_of s i))
    kept_at i p n m =
        let row = row_is s i ok p.arc in
        let column = column_is s i ok p.arc in (
          elsewhere (row_of s i) row.0.0 n (row_column s (row_of s i) (column_of s k) row (column_is s k ok arc)) ∙ was.at_row i p,
          elsewhere (column_of s i) column.0.0 (λ e. row_column s (row_of s k) (column_of s i) (row_is s k ok arc) column (sym e)) m ∙ was.at_column i p,
        )

    -- where an arc stands now
    matched_now : (v : ℕ) → IsNode (node_count s.net) v → 0 < (mate_at written v).arc
        → ((row_of s k ≡ v) × (0 < x.arc)) ⊎ (((column_of s k ≡ v) × (0 < y.arc)) ⊎ ((v ≢ row_of s k) × (v ≢ column_of s k) × IsMatched s v))
    matched_now v n some =
        elim (cases_eq v (row_of s k)) [
          | inl e ↦ inl (sym e, subst (λ (m : Mate). 0 < m.arc) (ap (mate_at written) e ∙ row_now) some)
          | inr apart ↦ elim (cases_eq v (column_of s k)) [
            | inl e ↦ inr (inl (sym e, subst (λ (m : Mate). 0 < m.arc) (ap (mate_at written) e ∙ column_now) some))
            | inr other ↦ inr (inr (apart, other, was.matched v n (subst (λ (m : Mate). 0 < m.arc) (elsewhere v n.0 apart other) some)))
          ]
        ]

  pub parted_mates : IsPair s k → AreMates (pushed s (rid k true) (pos 1)) (written (mate 0 0) (mate 0 0))
  parted_mates pair =
      let out = unpaired_ok s k ok pair in
      let kept = λ (i : ℕ) (p : IsPair (pushed s (rid k true) (pos 1)) i).
      (let (before, other) = out.was i p in
      kept_at (mate 0 0) (mate 0 0) i before (λ e. other (ok.once_in_row i k before pair e)) (λ e. other (ok.once_in_column i k before pair e))) in
      record {
        count = count_now (mate 0 0) (mate 0 0);
        at_row = λ i p. (kept i p).0;
        at_column = λ i p. (kept i p).1;
        matched = λ v n some. elim (matched_now (mate 0 0) (mate 0 0) v n some) [
          | inl (e, more) ↦ absurd (omega (arith, more))
          | inr (inl (e, more)) ↦ absurd (omega (arith, more))
          | inr (inr (apart, other, m)) ↦ (
            m.0,
            out.kept m.0 m.1 (λ e. elim m.2 [
              | inl a ↦ apart (sym a ∙ ap (row_of s) e)
              | inr a ↦ other (sym a ∙ ap (column_of s) e)
            ]),
            m.2,
          )
        ];
      }

  pub joined_mates : ¬ IsMatchedRow s (row_of s k) → ¬ IsMatchedColumn s (column_of s k)
      → AreMates (pushed s (rid k false) (pos 1)) (written (mate k (column_of s k)) (mate k (row_of s k)))
  joined_mates free_row free_column =
      let x = mate k (column_of s k) in
      let y = mate k (row_of s k) in
      let into = paired_ok s k ok arc free_row free_column in
      let kept = λ (i : ℕ) (p : IsPair s i). kept_at x y i p (λ e. free_row (i, p, e)) (λ e. free_column (i, p, e)) in
      record {
        count = count_now x y;
        at_row = λ i p. elim (into.was i p) [
          | inl e ↦ subst (λ j. mate_at (written x y) (row_of s j) ≡ mate j (column_of s j)) (sym e) (row_now x y)
          | inr before ↦ (kept i before).0
        ];
        at_column = λ i p. elim (into.was i p) [
          | inl e ↦ subst (λ j. mate_at (written x y) (column_of s j) ≡ mate j (row_of s j)) (sym e) (column_now x y)
          | inr before ↦ (kept i before).1
        ];
        matched = λ v n some. elim (matched_now x y v n some) [
          | inl (e, more) ↦ (k, into.here, inl e)
          | inr (inl (e, more)) ↦ (k, into.here, inr e)
          | inr (inr (apart, other, m)) ↦ (m.0, into.kept m.0 m.1, m.2)
        ];
      }

pub joined_room : (s : Pseudoflow) (k : ℕ) → IsPartialMatching s → IsArcNumber s.net k → ¬ IsMatchedColumn s (column_of s k) → pos 1 ≤ℤ room_of s (rid k false)
joined_room s k ok arc free_column =
    let none = free_zero s k ok arc free_column in
    let cap = (pairing_at s k ok arc).cap_is in
    omega (arith, ints, none, cap)
