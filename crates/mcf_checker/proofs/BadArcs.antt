-- The first arc that the flow lines don't agree with: as a loop finds it, and what it means that
-- there is none.
use Rattle.std.proofs.Common.{◌≡◌, ℕ, zero, suc, ◌+◌, ◌-◌, ◌≤◌, ◌<◌, max, Bool, true, false, not, ◌&&◌, eqb, refl, ap, sym, ◌∙◌, arith, List, [], ◌∷◌, length}
use Rattle.std.proofs.Common.{get_or, map, Some, None}
use Rattle.std.specs.List.{AllZip, slice_get}
use Rattle.std.specs.Prelude.{int_le}
use Rattle.std.proofs.lemmas.Bool.{and_parts, and_from, eq-eqb, eqb-true, not_from_false, not_from_true, not-false, false≢true}
use Rattle.std.proofs.lemmas.List.{length-map}
use Rattle.std.proofs.lemmas.Option.{slice_get_past, slice_get_read, slice_get-get_or}
use Rattle.mcf_answer.specs.declared.answers.Sent.{Sent}
use Rattle.mcf_flows.proofs.IntLaws.{at_most, at_most_passes}
use Rattle.mcf_checker.specs.Correct.{amounts, arc_ends, sent_ends}
use Rattle.mcf_checker.specs.Judging.{arc_agrees, bad_arc}
use Rattle.mcf_checker.proofs.LeastNumbers.{least_none, least_none-each, least_some}
use Rattle.mcf_flows.specs.declared.arc.Arc.{Arc}
use Rattle.mcf_flows.specs.Flow.{CanCarry, IsWithinBounds}
use Rattle.mcf_flows.specs.Network.{Network}
use Rattle.mcf_flows.proofs.AllZips.{length-AllZip}
use Rattle.mcf_flows.proofs.ArcSums.{no_arc}

-- the arc and the flow line at a place, from 0, are both there and agree, or are both missing
abbrev pub agreement : List Arc → List Sent → ℕ → Bool
agreement arcs sent i = arc_agrees (slice_get arcs i) (slice_get sent i)

-- ---- as a loop finds it

test-is : (arcs : List Arc) (sent : List Sent) (i : ℕ) → not (agreement arcs sent (i + 1 - 1)) ≡ not (agreement arcs sent i)
test-is arcs sent i =
    let back : i + 1 - 1 ≡ i = omega arith in ap (λ m. not (agreement arcs sent m)) back

module _ (g : Network) (sent : List Sent) where
  pub bad_arc-some : (i : ℕ) → i < max (length g.arcs) (length sent) → ((j : ℕ) → j < i → agreement g.arcs sent j ≡ true) → agreement g.arcs sent i ≡ false
      → bad_arc g sent ≡ Some (i + 1)
  bad_arc-some i h before here =
      least_some (λ k. not (agreement g.arcs sent (k - 1))) (max (length g.arcs) (length sent)) i h
      (λ j k. test-is g.arcs sent j ∙ not_from_true (agreement g.arcs sent j) (before j k))
      (test-is g.arcs sent i ∙ not_from_false (agreement g.arcs sent i) here)

  pub bad_arc-none : ((j : ℕ) → j < max (length g.arcs) (length sent) → agreement g.arcs sent j ≡ true) → bad_arc g sent ≡ None
  bad_arc-none each =
      least_none (λ k. not (agreement g.arcs sent (k - 1))) (max (length g.arcs) (length sent))
      (λ j k. test-is g.arcs sent j ∙ not_from_true (agreement g.arcs sent j) (each j k))

  -- where the flow lines end before the arcs, and where they don't
  pub bad_arc_past : length sent < length g.arcs → ((j : ℕ) → j < length sent → agreement g.arcs sent j ≡ true) → bad_arc g sent ≡ Some (length sent + 1)
  bad_arc_past h before =
      bad_arc-some (length sent) (omega arith) before
      (rw (slice_get_past sent (length sent) (omega arith), slice_get-get_or g.arcs (length sent) no_arc h) refl)

  pub bad_arc_nowhere : length g.arcs ≤ length sent → ((j : ℕ) → j < length sent → agreement g.arcs sent j ≡ true) → bad_arc g sent ≡ None
  bad_arc_nowhere h each = bad_arc-none (λ j k. each j (omega arith))

  each_agrees : bad_arc g sent ≡ None → (j : ℕ) → j < max (length g.arcs) (length sent) → agreement g.arcs sent j ≡ true
  each_agrees e j h =
      not-false (agreement g.arcs sent j)
      (sym (test-is g.arcs sent j) ∙ least_none-each (λ k. not (agreement g.arcs sent (k - 1))) (max (length g.arcs) (length sent)) e j h)

-- the agreement at a place whose flow line the loop has read
pub agreement_read : (arcs : List Arc) (sent : List Sent) (i : ℕ) (s : Sent) (b : Bool) → i < length sent → s ≡ get_or sent i s
    → b ≡ arc_agrees (slice_get arcs i) (Some s) → agreement arcs sent i ≡ b
agreement_read arcs sent i s b h is e =
    ap (arc_agrees (slice_get arcs i)) (slice_get_read sent (length sent) i s refl h is) ∙ sym e

-- ---- what it means that there is none

-- a flow line that is that of the arc
pub record Agrees (a : Arc) (s : Sent) : Type 0 where
  pub src_is : s.src ≡ a.src
  pub dst_is : s.dst ≡ a.dst
  pub carried : CanCarry a s.flow

Agrees-from_test : (a : Arc) (s : Sent) → arc_agrees (Some a) (Some s) ≡ true → Agrees a s
Agrees-from_test a s e =
    let cap = and_parts (eqb s.src a.src && eqb s.dst a.dst && int_le a.low s.flow) (int_le s.flow a.cap) e in
    let low = and_parts (eqb s.src a.src && eqb s.dst a.dst) (int_le a.low s.flow) cap.0 in
    let ends = and_parts (eqb s.src a.src) (eqb s.dst a.dst) low.0 in
    record {
      src_is = eqb-true s.src a.src ends.0;
      dst_is = eqb-true s.dst a.dst ends.1;
      carried = (at_most a.low s.flow low.1, at_most s.flow a.cap cap.1);
    }

test-from_Agrees : (a : Arc) (s : Sent) → Agrees a s → arc_agrees (Some a) (Some s) ≡ true
test-from_Agrees a s h =
    and_from (eqb s.src a.src && eqb s.dst a.dst && int_le a.low s.flow) (int_le s.flow a.cap)
    (and_from (eqb s.src a.src && eqb s.dst a.dst) (int_le a.low s.flow)
    (and_from (eqb s.src a.src) (eqb s.dst a.dst) (eq-eqb s.src a.src h.src_is) (eq-eqb s.dst a.dst h.dst_is))
    (at_most_passes a.low s.flow h.carried.0))
    (at_most_passes s.flow a.cap h.carried.1)

all_agree : (arcs : List Arc) (sent : List Sent) → ((j : ℕ) → j < max (length arcs) (length sent) → agreement arcs sent j ≡ true) → AllZip Agrees arcs sent
all_agree [] [] each = tt
all_agree [] (s ∷ sent) each = absurd (false≢true (each 0 (omega arith)))
all_agree (a ∷ arcs) [] each = absurd (false≢true (each 0 (omega arith)))
all_agree (a ∷ arcs) (s ∷ sent) each =
    (Agrees-from_test a s (each 0 (omega arith)), all_agree arcs sent (λ j h. each (suc j) (omega arith)))

each_of_all : (arcs : List Arc) (sent : List Sent) → AllZip Agrees arcs sent → (j : ℕ) → agreement arcs sent j ≡ true
each_of_all [] [] h j = refl
each_of_all [] (s ∷ sent) h j = absurd h
each_of_all (a ∷ arcs) [] h j = absurd h
each_of_all (a ∷ arcs) (s ∷ sent) h zero = test-from_Agrees a s h.0
each_of_all (a ∷ arcs) (s ∷ sent) h (suc j) = each_of_all arcs sent h.1 j

ends_of : (arcs : List Arc) (sent : List Sent) → AllZip Agrees arcs sent → sent_ends sent ≡ map (λ a. (a.src, a.dst)) arcs
ends_of [] [] h = refl
ends_of [] (s ∷ sent) h = absurd h
ends_of (a ∷ arcs) [] h = absurd h
ends_of (a ∷ arcs) (s ∷ sent) h =
    let src : s.src ≡ a.src = h.0.src_is in
    let dst : s.dst ≡ a.dst = h.0.dst_is in
    let rest : sent_ends sent ≡ map (λ a. (a.src, a.dst)) arcs = ends_of arcs sent h.1 in
    cc

bounds_of : (arcs : List Arc) (sent : List Sent) → AllZip Agrees arcs sent → IsWithinBounds arcs (amounts sent)
bounds_of [] [] h = tt
bounds_of [] (s ∷ sent) h = absurd h
bounds_of (a ∷ arcs) [] h = absurd h
bounds_of (a ∷ arcs) (s ∷ sent) h = (h.0.carried, bounds_of arcs sent h.1)

cons_parts : (x y : ℕ × ℕ) (xs ys : List (ℕ × ℕ)) → x ∷ xs ≡ y ∷ ys → (x ≡ y) × (xs ≡ ys)
cons_parts x y xs ys e = (cc, cc)

all_from_ends : (arcs : List Arc) (sent : List Sent) → sent_ends sent ≡ map (λ a. (a.src, a.dst)) arcs → IsWithinBounds arcs (amounts sent)
    → AllZip Agrees arcs sent
all_from_ends [] [] e h = tt
all_from_ends [] (s ∷ sent) e h = absurd h
all_from_ends (a ∷ arcs) [] e h = absurd h
all_from_ends (a ∷ arcs) (s ∷ sent) e h =
    let parts = cons_parts (s.src, s.dst) (a.src, a.dst) (sent_ends sent) (map (λ a. (a.src, a.dst)) arcs) e in
    (record { src_is = ap (λ (p : ℕ × ℕ). p.0) parts.0; dst_is = ap (λ (p : ℕ × ℕ). p.1) parts.0; carried = h.0 }, all_from_ends arcs sent parts.1 h.1)

-- there are as many arcs as flow lines
pub count_is : (arcs : List Arc) (sent : List Sent) → IsWithinBounds arcs (amounts sent) → length arcs ≡ length sent
count_is arcs sent bounds =
    length-AllZip CanCarry arcs (amounts sent) bounds ∙ length-map sent (λ s. s.flow)

-- no arc is bad where each flow line is that of its arc
pub record AllAgree (g : Network) (sent : List Sent) : Type 0 where
  pub same_ends : sent_ends sent ≡ arc_ends g
  pub within_bounds : IsWithinBounds g.arcs (amounts sent)

pub AllAgree-from_none : (g : Network) (sent : List Sent) → bad_arc g sent ≡ None → AllAgree g sent
AllAgree-from_none g sent e =
    let all = all_agree g.arcs sent (each_agrees g sent e) in
    record { same_ends = ends_of g.arcs sent all; within_bounds = bounds_of g.arcs sent all }

pub none-from_AllAgree : (g : Network) (sent : List Sent) → AllAgree g sent → bad_arc g sent ≡ None
none-from_AllAgree g sent h =
    bad_arc-none g sent (λ j k. each_of_all g.arcs sent (all_from_ends g.arcs sent h.same_ends h.within_bounds) j)
