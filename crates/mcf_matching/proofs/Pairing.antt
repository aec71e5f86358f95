-- An arc taken out of a partial matching, and an arc put into one.
use Rattle.std.proofs.Common.{◌≡◌, ◌≢◌, ℕ, ◌-◌, Bool, true, false, get_or, ℤ, pos, ◌+ℤ◌, ◌-ℤ◌, refl, sym, ◌∙◌, ap, arith, ◌⊎◌, inl, inr}
use Rattle.std.proofs.lemmas.Int.{ints}
use Rattle.std.proofs.lemmas.Grind.{get_or-set_at}
use Rattle.std.proofs.lemmas.List.{get_or-set_other}
use Rattle.mcf_flows.specs.Network.{IsArcNumber}
use Rattle.mcf_network.specs.States.{Pseudoflow, IsPseudoflow, amount_at, pushed}
use Rattle.mcf_network.proofs.ArcLaws.{amount_of}
use Rattle.mcf_network.proofs.StateLaws.{pushed_ok, rid}
use Rattle.mcf_matching.specs.Matchings.{IsMatchedColumn, IsMatchedRow, IsPair, IsPartialMatching, column_of, row_of}
use Rattle.mcf_network.proofs.Marks.{read_set}
use Rattle.mcf_matching.proofs.PairLaws.{free_zero, pairing_at}

-- an arc of amount 1 ends at a node, of one end of the arcs
abbrev pub HasPairAt : Pseudoflow → (ℕ → ℕ) → ℕ → Type 0
HasPairAt s end v = (k : ℕ) × IsPair s k × (end k ≡ v)

-- an amount after a push along an arc
pub amount_pushed : (s : Pseudoflow) (k i : ℕ) (b : Bool) (x : ℤ) → IsPseudoflow s → IsArcNumber s.net k → IsArcNumber s.net i
    → ((i ≡ k) × (amount_at (pushed s (rid k b) x) i ≡ amount_at (pushed s (rid k b) x) k)) ⊎ ((i ≢ k) × (amount_at (pushed s (rid k b) x) i ≡ amount_at s i))
amount_pushed s k i b x ok hk hi =
    elim (read_set s.amounts (k - 1) (i - 1) (get_or (pushed s (rid k b) x).amounts (k - 1) (pos 0)) (pos 0) (amount_of s k ok hk).in_range) [
      | inl (e, is) ↦ inl (omega (arith, e, hk, hi), ap (λ j. get_or (pushed s (rid k b) x).amounts j (pos 0)) e)
      | inr (n, same) ↦ inr (λ e. n (ap (λ j. j - 1) e), get_or-set_other s.amounts (k - 1) (i - 1) _ (pos 0) n)
    ]

-- the arc j came out of a partial matching
pub record IsUnpaired (s s' : Pseudoflow) (j : ℕ) : Type 0 where
  pub matching : IsPartialMatching s'
  pub was : (i : ℕ) → IsPair s' i → IsPair s i × (i ≢ j)
  pub kept : (i : ℕ) → IsPair s i → i ≢ j → IsPair s' i

-- the arc k came into one
pub record IsPaired (s s' : Pseudoflow) (k : ℕ) : Type 0 where
  pub matching : IsPartialMatching s'
  pub here : IsPair s' k
  pub was : (i : ℕ) → IsPair s' i → (i ≡ k) ⊎ IsPair s i
  pub kept : (i : ℕ) → IsPair s i → IsPair s' i

pub unpaired_ok : (s : Pseudoflow) (j : ℕ) → IsPartialMatching s → IsPair s j → IsUnpaired s (pushed s (rid j true) (pos 1)) j
unpaired_ok s j ok pair =
    record {
      matching = record {
        flow = pushed_ok s j true (pos 1) ok.flow pair.arc (omega (arith, ints)) (let one = pair.one in omega (arith, ints, one));
        problem = ok.problem;
        once_in_row = λ k i p q e. ok.once_in_row k i (was k p).0 (was i q).0 e;
        once_in_column = λ k i p q e. ok.once_in_column k i (was k p).0 (was i q).0 e;
      };
      was = was;
      kept = λ i p n. elim (amount_pushed s j i true (pos 1) ok.flow pair.arc p.arc) [
        | inl (e, is) ↦ absurd (n e)
        | inr (m, same) ↦ record { arc = p.arc; one = same ∙ p.one }
      ];
    }
  where
    was : (i : ℕ) → IsPair (pushed s (rid j true) (pos 1)) i → IsPair s i × (i ≢ j)
    was i p =
        elim (amount_pushed s j i true (pos 1) ok.flow pair.arc p.arc) [
          | inl (e, is) ↦ absurd (let now = get_or-set_at s.amounts (j - 1) (j - 1) (amount_at s j -ℤ pos 1) (pos 0) refl (amount_of s j ok.flow pair.arc).in_range in let one = pair.one in let p1 = p.one in omega (arith, ints, p1, is, now, one))
          | inr (n, same) ↦ (record { arc = p.arc; one = sym same ∙ p.one }, n)
        ]

pub paired_ok : (s : Pseudoflow) (k : ℕ) → IsPartialMatching s → IsArcNumber s.net k → ¬ IsMatchedRow s (row_of s k)
    → ¬ IsMatchedColumn s (column_of s k) → IsPaired s (pushed s (rid k false) (pos 1)) k
paired_ok s k ok arc row column =
    let none = free_zero s k ok arc column in
    let cap = (pairing_at s k ok arc).cap_is in
    let now = get_or-set_at s.amounts (k - 1) (k - 1) (amount_at s k +ℤ pos 1) (pos 0) refl (amount_of s k ok.flow arc).in_range in
    record {
      matching = record {
        flow = pushed_ok s k false (pos 1) ok.flow arc (omega (arith, ints)) (omega (arith, ints, none, cap));
        problem = ok.problem;
        once_in_row = λ i j p q e. once (row_of s) ok.once_in_row row i j (was i p) (was j q) e;
        once_in_column = λ i j p q e. once (column_of s) ok.once_in_column column i j (was i p) (was j q) e;
      };
      here = record { arc = arc; one = omega (arith, ints, now, none) };
      was = was;
      kept = λ i p. elim (amount_pushed s k i false (pos 1) ok.flow arc p.arc) [
        | inl (e, is) ↦ record { arc = p.arc; one = omega (arith, ints, is, now, none) }
        | inr (n, same) ↦ record { arc = p.arc; one = same ∙ p.one }
      ];
    }
  where
    was : (i : ℕ) → IsPair (pushed s (rid k false) (pos 1)) i → (i ≡ k) ⊎ IsPair s i
    was i p =
        elim (amount_pushed s k i false (pos 1) ok.flow arc p.arc) [
          | inl (e, is) ↦ inl e
          | inr (n, same) ↦ inr (record { arc = p.arc; one = sym same ∙ p.one })
        ]

    once : (end : ℕ → ℕ) → ((i j : ℕ) → IsPair s i → IsPair s j → end i ≡ end j → i ≡ j) → ¬ HasPairAt s end (end k) → (i j : ℕ)
        → (i ≡ k) ⊎ IsPair s i → (j ≡ k) ⊎ IsPair s j → end i ≡ end j → i ≡ j
    once end before free i j (inl f) (inl g) e = f ∙ sym g
    once end before free i j (inl f) (inr q) e = absurd (free (j, q, sym e ∙ ap end f))
    once end before free i j (inr p) (inl g) e = absurd (free (i, p, e ∙ ap end g))
    once end before free i j (inr p) (inr q) e = before i j p q e

-- at which nodes pairs end after that
module _ {s s' : Pseudoflow} {k : ℕ} (end : ℕ → ℕ) where
  pub end_out : IsUnpaired s s' k → (v : ℕ) → HasPairAt s' end v → HasPairAt s end v
  end_out out v (i, p, e) = (i, (out.was i p).0, e)

  pub end_left : IsUnpaired s s' k → (v : ℕ) → HasPairAt s end v → v ≢ end k → HasPairAt s' end v
  end_left out v (i, p, e) n = (i, out.kept i p (λ f. n (sym e ∙ ap end f)), e)

  pub end_was : IsPaired s s' k → (v : ℕ) → HasPairAt s' end v → HasPairAt s end v ⊎ (end k ≡ v)
  end_was into v (i, p, e) =
      elim (into.was i p) [
        | inl f ↦ inr (ap end (sym f) ∙ e)
        | inr q ↦ inl (i, q, e)
      ]

  pub end_kept : IsPaired s s' k → (v : ℕ) → HasPairAt s end v → HasPairAt s' end v
  end_kept into v (i, p, e) = (i, into.kept i p, e)

-- what came out leaves its ends free
pub row_out : (s : Pseudoflow) (j v : ℕ) → IsPartialMatching s → IsPair s j → row_of s j ≡ v → ¬ IsMatchedRow (pushed s (rid j true) (pos 1)) v
row_out s j v ok pair at (i, p, e) =
    let (before, other) = (unpaired_ok s j ok pair).was i p in
    other (ok.once_in_row i j before pair (e ∙ sym at))

pub column_out : (s : Pseudoflow) (j v : ℕ) → IsPartialMatching s → IsPair s j → column_of s j ≡ v → ¬ IsMatchedColumn (pushed s (rid j true) (pos 1)) v
column_out s j v ok pair at (i, p, e) =
    let (before, other) = (unpaired_ok s j ok pair).was i p in
    other (ok.once_in_column i j before pair (e ∙ sym at))
