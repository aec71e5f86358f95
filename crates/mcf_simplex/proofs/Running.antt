-- What the loop keeps: so many pivots lead here, and each lowered the rank by one at least.
use Rattle.std.proofs.Common.{◌≡◌, ℕ, ◌+◌, ◌<◌, ◌≤◌, refl, ◌∙◌, arith, Option, Some, None, ℤ, pos, ◌+ℤ◌, ◌≤ℤ◌}
use Rattle.std.proofs.lemmas.Int.{ints}
use Rattle.mcf_basis.specs.Bases.{IsBasis}
use Rattle.mcf_basis.specs.Pivots.{IsPivot, PairFalls}
use Rattle.mcf_basis.specs.Ranks.{rank_above, rank_of}
use Rattle.mcf_basis.specs.Structures.{TreeStructure}
use Rattle.mcf_basis.proofs.RankDepths.{ranks_count_down_lem}
use Rattle.mcf_basis.proofs.RankLaws.{ranks_bound_pivots_lem, ranks_fall_lem}
use Rattle.mcf_simplex.specs.Private.Loops.{IsLoop}
use Rattle.mcf_simplex.specs.Runs.{Reached}
use Rattle.mcf_simplex.specs.Runs.Reached.{start, next}

pub record IsUnderWay {R : Type 0} (Picks : R → TreeStructure → Option ℕ → R → Type 0) (r : R) (b : TreeStructure) (s : R) (c : TreeStructure) : Type 0 where
  pub pivots : ℕ
  pub reached : Reached Picks r b s c pivots
  pub counted : c.pivots ≡ b.pivots + pivots
  pub basis : IsBasis c
  pub net : c.net ≡ b.net
  pub within : (pos pivots +ℤ rank_of c) ≤ℤ rank_of b

module _ {R : Type 0} (Picks : R → TreeStructure → Option ℕ → R → Type 0) (r : R) (b : TreeStructure) where
  pub under_way_start : IsBasis b → IsUnderWay Picks r b r b
  under_way_start ok = record { pivots = 0; reached = start; counted = omega arith; basis = ok; net = refl; within = omega (arith, ints) }

  pub under_way_next : (s t : R) (c d : TreeStructure) (k : ℕ) (moved : ℤ) → IsUnderWay Picks r b s c → Picks s c (Some k) t
      → IsPivot c k moved d → PairFalls c d → IsBasis d → IsUnderWay Picks r b t d
  under_way_next s t c d k moved w picks pivot falls ok =
      let less = ranks_fall_lem c d w.basis ok pivot.net falls in
      let within = w.within in
      let before = w.counted in
      let one_more = pivot.pivots in
      record {
        pivots = w.pivots + 1;
        reached = next w.reached picks pivot falls ok;
        counted = omega (arith, before, one_more);
        basis = ok;
        net = pivot.net ∙ w.net;
        within = omega (arith, ints, less, within);
      }

  pub under_way_end : (s t : R) (c : TreeStructure) → IsBasis b → IsUnderWay Picks r b s c → Picks s c None t → IsLoop Picks r b t c
  under_way_end s t c ok w picks =
      record {
        rule = s;
        pivots = w.pivots;
        reached = w.reached;
        counted = w.counted;
        bounded = λ floor least. ranks_bound_pivots_lem b c w.pivots floor ok w.basis w.net w.within least;
        found_none = picks;
      }

-- the measure of the loop
pub measure_falls : (c d : TreeStructure) (k : ℕ) (moved : ℤ) → IsBasis c → IsBasis d → IsPivot c k moved d → PairFalls c d → rank_above d < rank_above c
measure_falls c d k moved old new pivot falls = ranks_count_down_lem c d old new pivot.net falls

-- so many pivots lead here, to a basis of the same net
pub record IsMovedOn {R : Type 0} (Picks : R → TreeStructure → Option ℕ → R → Type 0) (r : R) (b : TreeStructure) (s : R) (c : TreeStructure) (pivots : ℕ) : Type 0 where
  pub reached : Reached Picks r b s c pivots
  pub basis : IsBasis c
  pub net : c.net ≡ b.net

module _ {R : Type 0} (Picks : R → TreeStructure → Option ℕ → R → Type 0) (r : R) (b : TreeStructure) where
  pub moved_on_start : IsBasis b → IsMovedOn Picks r b r b 0
  moved_on_start ok = record { reached = start; basis = ok; net = refl }

  pub moved_on_next : (s t : R) (c d : TreeStructure) (pivots k : ℕ) (moved : ℤ) → IsMovedOn Picks r b s c pivots → Picks s c (Some k) t
      → IsPivot c k moved d → PairFalls c d → IsBasis d → IsMovedOn Picks r b t d (pivots + 1)
  moved_on_next s t c d pivots k moved w picks pivot falls ok =
      record { reached = next w.reached picks pivot falls ok; basis = ok; net = pivot.net ∙ w.net }

  -- a run that goes on
  pub under_way_more : (s : R) (c : TreeStructure) → IsUnderWay Picks r b s c → (t : R) (d : TreeStructure) (pivots : ℕ) → Reached Picks s c t d pivots
      → IsUnderWay Picks r b t d
  under_way_more from x w _ _ _ start = w
  under_way_more from x w _ _ _ (next {s} {t} {c} {d} {pivots} {k} {moved} before picks pivot falls ok) =
      under_way_next Picks r b s t c d k moved (under_way_more from x w s c pivots before) picks pivot falls ok

-- what so many pivots change
pub record IsFurther (c d : TreeStructure) (pivots : ℕ) : Type 0 where
  pub basis : IsBasis d
  pub counted : d.pivots ≡ c.pivots + pivots
  pub fallen : (rank_above d + pivots) ≤ rank_above c

pub reached_further : {R : Type 0} (Picks : R → TreeStructure → Option ℕ → R → Type 0) (s : R) (c : TreeStructure) → IsBasis c
    → (t : R) (d : TreeStructure) (pivots : ℕ) → Reached Picks s c t d pivots → IsFurther c d pivots
reached_further Picks from x ok _ _ _ start = record { basis = ok; counted = omega arith; fallen = omega arith }
reached_further Picks from x ok _ _ _ (next {s} {t} {c} {d} {pivots} {k} {moved} before picks pivot falls good) =
    let so = reached_further Picks from x ok s c pivots before in
    let counted = so.counted in
    let fallen = so.fallen in
    let one_more = pivot.pivots in
    let less = measure_falls c d k moved so.basis good pivot falls in
    record {
      basis = good;
      counted = omega (arith, counted, one_more);
      fallen = omega (arith, fallen, less);
    }
