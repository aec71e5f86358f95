-- Residual arcs of negative reduced cost, filled one after another.
use Rattle.std.proofs.Common.{◌≡◌, ◌≢◌, ℕ, ◌+◌, ◌-◌, ◌<◌, ◌≤◌, Bool, true, false, List, length, refl, sym, ap, ◌∙◌, arith, subst, ℤ, pos, ◌+ℤ◌, ◌-ℤ◌, ◌≤ℤ◌, inl}
use Rattle.std.proofs.Common.{inr}
use Rattle.std.specs.Prelude.{◌<ℤ◌}
use Rattle.std.proofs.lemmas.Int.{ints}
use Rattle.std.proofs.lemmas.Bool.{cases_eq}
use Rattle.mcf_flows.specs.Network.{Network, IsArcNumber}
use Rattle.mcf_network.specs.declared.rid.Rid.{Rid}
use Rattle.mcf_network.specs.Residual.{arc_at}
use Rattle.mcf_network.specs.States.{Pseudoflow, IsPseudoflow, amount_at, pushed, room_of}
use Rattle.mcf_network.proofs.ArcLaws.{amount_of}
use Rattle.mcf_network.proofs.StateLaws.{read_written, rid}
use Rattle.mcf_scaling.specs.Optimality.{IsFilled, IsFilledAt, scaled_reduced}
use Rattle.mcf_scaling.proofs.StepLaws.{opposite_reduced}

-- the first i arcs are done, and the others as they were
pub record IsFilledUpTo (s s' : Pseudoflow) (prices : List ℤ) (i : ℕ) : Type 0 where
  pub net : s'.net ≡ s.net
  pub flow : IsPseudoflow s'
  pub full : (r : Rid) → IsArcNumber s.net r.arc → r.arc ≤ i → scaled_reduced s.net prices r <ℤ pos 0 → room_of s' r ≡ pos 0
  pub kept : (k : ℕ) → IsArcNumber s.net k → k ≤ i → scaled_reduced s.net prices (rid k false) ≡ pos 0 → amount_at s' k ≡ amount_at s k
  pub others : (k : ℕ) → IsArcNumber s.net k → i < k → amount_at s' k ≡ amount_at s k

pub filled_start : (s : Pseudoflow) (prices : List ℤ) → IsPseudoflow s → IsFilledUpTo s s prices 0
filled_start s prices ok =
    record {
      net = refl;
      flow = ok;
      full = λ r h few. absurd (omega (arith, h, few));
      kept = λ k h few. absurd (omega (arith, h, few));
      others = λ k h more. refl;
    }

-- the room of a residual arc, by the amount of its arc
pub room_same : (s t : Pseudoflow) (r : Rid) → s.net ≡ t.net → amount_at s r.arc ≡ amount_at t r.arc → room_of s r ≡ room_of t r
room_same s t r net same = go r.back r.arc net same
  where
    go : (b : Bool) (k : ℕ) → s.net ≡ t.net → amount_at s k ≡ amount_at t k → room_of s (rid k b) ≡ room_of t (rid k b)
    go true k net same = same
    go false k net same = let cap = ap (λ (g : Network). (arc_at g k).cap) net in omega (arith, ints, cap, same)

pub filled_next : (s t u : Pseudoflow) (prices : List ℤ) (i k : ℕ) → IsFilledUpTo s t prices i → IsFilledAt t u prices k → k ≡ i + 1
    → IsArcNumber s.net k → IsFilledUpTo s u prices k
filled_next s t u prices i k up at e h =
    let cost = λ (r : Rid). ap (λ (g : Network). scaled_reduced g prices r) up.net in
    record {
      net = at.net ∙ up.net;
      flow = at.flow;
      full = λ r q few less. elim (cases_eq r.arc k) [
        | inl same ↦ (let c = cost r in subst (λ (j : ℕ). room_of u (rid j r.back) ≡ pos 0) (sym same)
            (at.full r.back (subst (λ (j : ℕ). scaled_reduced t.net prices (rid j r.back) <ℤ pos 0) same (omega (arith, ints, c, less)))))
        | inr n ↦ room_same u t r at.net (at.others r.arc (subst (λ (g : Network). IsArcNumber g r.arc) (sym up.net) q) n) ∙ up.full r q (omega arith) less
      ];
      kept = λ j q few zero. elim (cases_eq j k) [
        | inl same ↦ (let c = cost (rid j false) in let here = at.kept
            (subst (λ (x : ℕ). scaled_reduced t.net prices (rid x false) ≡ pos 0) same (c ∙ zero)) in ap (amount_at u) same ∙ here ∙ ap (amount_at t)
            (sym same) ∙ up.others j q (omega arith))
        | inr n ↦ at.others j (subst (λ (g : Network). IsArcNumber g j) (sym up.net) q) n ∙ up.kept j q (omega arith) zero
      ];
      others = λ j q more. at.others j (subst (λ (g : Network). IsArcNumber g j) (sym up.net) q) (omega arith) ∙ up.others j q (omega arith);
    }

pub filled_end : (s t : Pseudoflow) (prices : List ℤ) (i : ℕ) → IsFilledUpTo s t prices i → length s.net.arcs ≤ i → IsFilled s t prices
filled_end s t prices i up all =
    record {
      net = up.net;
      flow = up.flow;
      full = λ r h. up.full r h (omega (arith, h, all));
      kept = λ k h. up.kept k h (omega (arith, h, all));
    }

-- ---- one arc

-- after all its room was pushed a residual arc has none, and no other arc is changed
room_pushed : (s : Pseudoflow) (k : ℕ) (b : Bool) → IsPseudoflow s → IsArcNumber s.net k → room_of (pushed s (rid k b) (room_of s (rid k b))) (rid k b) ≡ pos 0
room_pushed s k true ok h =
    elim (read_written s.amounts (k - 1) (k - 1) (amount_at s k -ℤ amount_at s k) (pos 0) (amount_of s k ok h).in_range) [
      | inl (e, w) ↦ omega (arith, ints, w)
      | inr (n, w) ↦ absurd (n refl)
    ]
room_pushed s k false ok h =
    elim (read_written s.amounts (k - 1) (k - 1) (amount_at s k +ℤ ((arc_at s.net k).cap -ℤ amount_at s k)) (pos 0) (amount_of s k ok h).in_range) [
      | inl (e, w) ↦ omega (arith, ints, w)
      | inr (n, w) ↦ absurd (n refl)
    ]

pub others_pushed : (s : Pseudoflow) (k j : ℕ) (b : Bool) (x : ℤ) → IsPseudoflow s → IsArcNumber s.net k → IsArcNumber s.net j → j ≢ k
    → amount_at (pushed s (rid k b) x) j ≡ amount_at s j
others_pushed s k j true x ok h q n =
    elim (read_written s.amounts (k - 1) (j - 1) (amount_at s k -ℤ x) (pos 0) (amount_of s k ok h).in_range) [
      | inl (e, w) ↦ absurd (n (omega arith))
      | inr (m, w) ↦ w
    ]
others_pushed s k j false x ok h q n =
    elim (read_written s.amounts (k - 1) (j - 1) (amount_at s k +ℤ x) (pos 0) (amount_of s k ok h).in_range) [
      | inl (e, w) ↦ absurd (n (omega arith))
      | inr (m, w) ↦ w
    ]

filled_by : (s : Pseudoflow) (prices : List ℤ) (k : ℕ) (b : Bool) → IsPseudoflow s → IsArcNumber s.net k
    → scaled_reduced s.net prices (rid k b) <ℤ pos 0 → IsPseudoflow (pushed s (rid k b) (room_of s (rid k b)))
    → IsFilledAt s (pushed s (rid k b) (room_of s (rid k b))) prices k
filled_by s prices k true ok h less after =
    let turned = opposite_reduced s.net prices k true in
    record {
      net = refl;
      flow = after;
      full = full;
      kept = λ zero. absurd (omega (arith, ints, zero, less, turned));
      others = λ j q n. others_pushed s k j true (room_of s (rid k true)) ok h q n;
    }
  where
    full : (c : Bool) → scaled_reduced s.net prices (rid k c) <ℤ pos 0 → room_of (pushed s (rid k true) (room_of s (rid k true))) (rid k c) ≡ pos 0
    full true q = room_pushed s k true ok h
    full false q = let turned = opposite_reduced s.net prices k true in absurd (omega (arith, ints, q, less, turned))
filled_by s prices k false ok h less after =
    record {
      net = refl;
      flow = after;
      full = full;
      kept = λ zero. absurd (omega (arith, ints, zero, less));
      others = λ j q n. others_pushed s k j false (room_of s (rid k false)) ok h q n;
    }
  where
    full : (c : Bool) → scaled_reduced s.net prices (rid k c) <ℤ pos 0 → room_of (pushed s (rid k false) (room_of s (rid k false))) (rid k c) ≡ pos 0
    full true q = let turned = opposite_reduced s.net prices k false in absurd (omega (arith, ints, q, less, turned))
    full false q = room_pushed s k false ok h

-- an arc of negative reduced cost, of positive one, and of none
pub filled_forward : (s t : Pseudoflow) (prices : List ℤ) (k : ℕ) (z : ℤ) → IsPseudoflow s → IsArcNumber s.net k
    → z ≡ scaled_reduced s.net prices (rid k false) → z <ℤ pos 0 → t ≡ pushed s (rid k false) (room_of s (rid k false)) → IsPseudoflow t
    → IsFilledAt s t prices k
filled_forward s t prices k z ok h is less e after =
    subst (λ (x : Pseudoflow). IsFilledAt s x prices k) (sym e) (filled_by s prices k false ok h (omega (arith, ints, is, less)) (subst IsPseudoflow e after))

pub filled_back : (s t : Pseudoflow) (prices : List ℤ) (k : ℕ) (z : ℤ) → IsPseudoflow s → IsArcNumber s.net k
    → z ≡ scaled_reduced s.net prices (rid k false) → pos 0 <ℤ z → t ≡ pushed s (rid k true) (room_of s (rid k true)) → IsPseudoflow t
    → IsFilledAt s t prices k
filled_back s t prices k z ok h is more e after =
    let turned = opposite_reduced s.net prices k false in
    subst (λ (x : Pseudoflow). IsFilledAt s x prices k) (sym e) (filled_by s prices k true ok h (omega (arith, ints, is, more, turned))
    (subst IsPseudoflow e after))

pub filled_none : (s : Pseudoflow) (prices : List ℤ) (k : ℕ) (z : ℤ) → IsPseudoflow s → z ≡ scaled_reduced s.net prices (rid k false) → pos 0 ≤ℤ z
    → z ≤ℤ pos 0 → IsFilledAt s s prices k
filled_none s prices k z ok is low high =
    record { net = refl; flow = ok; full = full; kept = λ zero. refl; others = λ j q n. refl }
  where
    full : (c : Bool) → scaled_reduced s.net prices (rid k c) <ℤ pos 0 → room_of s (rid k c) ≡ pos 0
    full true q = let turned = opposite_reduced s.net prices k false in absurd (omega (arith, ints, q, turned, is, high))
    full false q = absurd (omega (arith, ints, q, is, low))
