-- The marks that say which residual arcs have capacity.
use Rattle.std.proofs.Common.{◌≡◌, ◌≢◌, ℕ, ◌+◌, ◌-◌, ◌*◌, ◌/◌, ◌<◌, ◌≤◌, Bool, true, false, List, length, set, get_or, sym, ap, ◌∙◌, arith, subst, ℤ}
use Rattle.std.proofs.Common.{length-set, inl, inr}
use Rattle.std.proofs.lemmas.Bool.{cases_eq}
use Rattle.std.proofs.lemmas.List.{get_or_default, get_or-set_other, get_or-set_same}
use Rattle.mcf_flows.specs.Network.{Network, IsArcNumber}
use Rattle.mcf_network.specs.declared.rid.Rid.{Rid}
use Rattle.mcf_network.specs.States.{Pseudoflow, IsPseudoflow, amount_at, pushed, room_of}
use Rattle.mcf_network.proofs.StateLaws.{rid}
use Rattle.mcf_scaling.specs.Private.Stars.{Star, AreCapacityMarks, AreCapacityMarksUpTo, ArePositions, IsMarked, IsStarOf}
use Rattle.mcf_scaling.specs.Private.Stars.{IsCapacityMark, mark_of, out_at, residual_at, position_of, standing}
use Rattle.mcf_scaling.specs.declared.star.ResidualArc.{ResidualArc}
use Rattle.mcf_scaling.proofs.Fillings.{others_pushed, room_same}
use Rattle.mcf_scaling.proofs.StarLaws.{link_arc, link_back, link_forward, links_of, out_of_net}

-- ---- one arc

-- both marks of an arc were written, one after the other
module _ (s : Pseudoflow) (star : Star) (old : List Bool) (k x y : ℕ) (forward back : Bool) (h : IsArcNumber s.net k) (positions : ArePositions s.net star)
    (count : length old ≡ length star.outs) (at : x ≡ position_of star.positions (2 * (k - 1))) (behind : y ≡ position_of star.positions (2 * (k - 1) + 1))
    (some : IsCapacityMark s (rid k false) forward) (other : IsCapacityMark s (rid k true) back) where
  even_below : 2 * (k - 1) < length star.positions
  even_below = let all = positions.count in omega (arith, h, all)

  odd_below : 2 * (k - 1) + 1 < length star.positions
  odd_below = let all = positions.count in omega (arith, h, all)

  even_inside : x < length old
  even_inside =
      let below = subst (λ (j : ℕ). j < length star.outs) (sym at) (positions.within (2 * (k - 1)) even_below) in
      omega (arith, below, count)

  odd_inside : y < length old
  odd_inside =
      let below = subst (λ (j : ℕ). j < length star.outs) (sym behind) (positions.within (2 * (k - 1) + 1) odd_below) in
      omega (arith, below, count)

  even_link : (out_at star x).link ≡ 2 * (k - 1)
  even_link = ap (λ (j : ℕ). (out_at star j).link) at ∙ positions.there (2 * (k - 1)) even_below

  odd_link : (out_at star y).link ≡ 2 * (k - 1) + 1
  odd_link = ap (λ (j : ℕ). (out_at star j).link) behind ∙ positions.there (2 * (k - 1) + 1) odd_below

  apart_positions : x ≢ y
  apart_positions same =
      let e = ap (λ (j : ℕ). (out_at star j).link) same in
      let low = even_link in
      let high = odd_link in
      omega (arith, e, low, high)

  even_position : (i : ℕ) → i < length star.outs → (out_at star i).link ≡ 2 * (k - 1) → x ≡ i
  even_position i below is = at ∙ ap (position_of star.positions) (sym is) ∙ positions.only i below

  odd_position : (i : ℕ) → i < length star.outs → (out_at star i).link ≡ 2 * (k - 1) + 1 → y ≡ i
  odd_position i below is = behind ∙ ap (position_of star.positions) (sym is) ∙ positions.only i below

  even_mark : mark_of (set (set old x forward) y back) x ≡ forward
  even_mark =
      get_or-set_other (set old x forward) y x back false apart_positions ∙ get_or-set_same old x forward false even_inside

  odd_mark : mark_of (set (set old x forward) y back) y ≡ back
  odd_mark = get_or-set_same (set old x forward) y back false (let below = odd_inside in omega (arith, below, length-set old x forward))

  pub marked : IsMarked s star old (set (set old x forward) y back) k
  marked =
      record {
        count = length-set (set old x forward) y back ∙ length-set old x forward;
        here = λ i below same.
            let inside : i < length star.outs = omega (arith, below, length-set (set old x forward) y back, length-set old x forward, count) in
            elim (links_of k (out_at star i).link same) [
              | inl is ↦ subst (λ (j : ℕ). IsCapacityMark s (standing star j) (mark_of (set (set old x forward) y back) j)) (even_position i inside is)
                  (rw even_mark (subst (λ (r : Rid). IsCapacityMark s r forward) (sym (link_forward k (out_at star x).link h.0 even_link)) some))
              | inr is ↦ subst (λ (j : ℕ). IsCapacityMark s (standing star j) (mark_of (set (set old x forward) y back) j)) (odd_position i inside is)
                  (rw odd_mark (subst (λ (r : Rid). IsCapacityMark s r back) (sym (link_back k (out_at star y).link h.0 odd_link)) other))
            ];
        others = λ i below apart.
            get_or-set_other (set old x forward) y i back false (λ same.
            let e = ap (λ (j : ℕ). (out_at star j).link) same ∙ odd_link in
            apart (let arc : (out_at star i).link / 2 + 1 ≡ k = omega (arith, e, h) in arc))
            ∙ get_or-set_other old x i forward false (λ same.
            let e = ap (λ (j : ℕ). (out_at star j).link) same ∙ even_link in
            apart (let arc : (out_at star i).link / 2 + 1 ≡ k = omega (arith, e, h) in arc));
      }

-- ---- all arcs, one after another

pub marks_start : (s : Pseudoflow) (star : Star) (has_capacity : List Bool) → length has_capacity ≡ length star.outs → AreCapacityMarksUpTo s star has_capacity 0
marks_start s star has_capacity count = record { count = count; each = λ i below few. absurd (omega (arith, few)) }

pub marks_next : (s : Pseudoflow) (star : Star) (has_capacity after : List Bool) (n k : ℕ) → AreCapacityMarksUpTo s star has_capacity n → k ≡ n + 1
    → IsMarked s star has_capacity after k → AreCapacityMarksUpTo s star after (n + 1)
marks_next s star has_capacity after n k so e marks =
    record {
      count = marks.count ∙ so.count;
      each = λ i below few. elim (cases_eq (standing star i).arc k) [
        | inl same ↦ marks.here i below same
        | inr apart ↦ subst (IsCapacityMark s (standing star i)) (sym (marks.others i below apart))
            (so.each i (omega (arith, below, marks.count)) (omega (arith, few, apart, e)))
      ];
    }

-- the arc of the residual arc at a position
standing_arc : (g : Network) (star : Star) (i : ℕ) → IsStarOf g star → i < length star.outs → IsArcNumber g (standing star i).arc
standing_arc g star i ok below = link_arc g (out_at star i).link (out_of_net g star i ok below).link

pub marks_end : (s : Pseudoflow) (star : Star) (has_capacity : List Bool) (n : ℕ) → IsStarOf s.net star → AreCapacityMarksUpTo s star has_capacity n
    → length s.net.arcs ≤ n → AreCapacityMarks s star has_capacity
marks_end s star has_capacity n ok so all =
    record {
      count = so.count;
      each = λ i below. so.each i below (let arc = standing_arc s.net star i ok (omega (arith, below, so.count)) in omega (arith, arc, all));
    }

-- ---- a push

-- the marks of other arcs stay right
same_mark : (s t : Pseudoflow) (r : Rid) (mark : Bool) → s.net ≡ t.net → room_of s r ≡ room_of t r → IsCapacityMark s r mark → IsCapacityMark t r mark
same_mark s t r true net room so =
    record {
      yes = record { arc = subst (λ (g : Network). IsArcNumber g r.arc) net so.yes.arc; room = rw (sym room) so.yes.room };
      no = tt;
    }
same_mark s t r false net room so =
    record {
      yes = tt;
      no = λ has. so.no (record { arc = subst (λ (g : Network). IsArcNumber g r.arc) (sym net) has.arc; room = rw room has.room });
    }

pub pushed_marks : (s t : Pseudoflow) (k : ℕ) (b : Bool) (x : ℤ) (star : Star) (old new : List Bool) → IsPseudoflow s → IsArcNumber s.net k
    → t ≡ pushed s (rid k b) x → IsStarOf s.net star → AreCapacityMarks s star old → IsMarked t star old new k → AreCapacityMarks t star new
pushed_marks s t k b x star old new ok h e star_of so marks =
    let net : s.net ≡ t.net = ap (λ (p : Pseudoflow). p.net) (sym e) in
    record {
      count = marks.count ∙ so.count;
      each = λ i below. elim (cases_eq (standing star i).arc k) [
        | inl same ↦ marks.here i below same
        | inr apart ↦ (let inside : i < length old = omega (arith, below, marks.count) in
            let arc = standing_arc s.net star i star_of (omega (arith, inside, so.count)) in
            subst (IsCapacityMark t (standing star i)) (sym (marks.others i below apart)) (same_mark s t (standing star i) (mark_of old i) net
            (room_same s t (standing star i) net (sym (ap (λ (p : Pseudoflow). amount_at p (standing star i).arc) e
            ∙ others_pushed s k (standing star i).arc b x ok h arc apart))) (so.each i inside)))
      ];
    }

-- a look: what the mark of a position says of the residual arc there
pub told : (s : Pseudoflow) (star : Star) (has_capacity : List Bool) (i : ℕ) (mark : Bool) (p : ResidualArc) → AreCapacityMarks s star has_capacity → i < length star.outs
    → mark ≡ get_or has_capacity i mark → p ≡ out_at star i → IsCapacityMark s (residual_at p) mark
told s star has_capacity i mark p so below read is =
    subst (λ (q : ResidualArc). IsCapacityMark s (residual_at q) mark) (sym is)
    (subst (IsCapacityMark s (standing star i)) (sym (read ∙ get_or_default has_capacity i mark false (omega (arith, below, so.count))))
    (so.each i (omega (arith, below, so.count))))
