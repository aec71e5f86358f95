-- A residual arc that lowers a price keeps what is known of the labels.
use Rattle.std.proofs.Common.{◌≡◌, ◌≢◌, ℕ, zero, suc, ◌<◌, ◌≤◌, ◌+◌, ◌-◌, List, [], ◌∷◌, length, get_or, set, cond, eqb, Option, Some, None, ℤ, pos, ◌+ℤ◌, ◌-ℤ◌}
use Rattle.std.proofs.Common.{neg_ℤ, ◌≤ℤ◌, ◌<ℤ◌, refl, sym, ap, subst, ◌∙◌, arith, inl, inr, length-set, replicate}
use Rattle.std.proofs.lemmas.Int.{ints}
use Rattle.std.proofs.lemmas.Bool.{cases_eq, eq-eqb, ne_eqb}
use Rattle.std.proofs.lemmas.List.{get_or-replicate, length-replicate}
use Rattle.std.proofs.lemmas.List.Elements.{All-set}
use Rattle.std.proofs.lemmas.Grind.{get_or-set_at}
use Rattle.mcf_flows.specs.Flow.{AreLowPrices, AreNotAboveZero}
use Rattle.mcf_flows.specs.Network.{IsNode, at_node, node_count}
use Rattle.mcf_network.specs.declared.rid.Rid.{Rid}
use Rattle.mcf_network.specs.Residual.{tail, head}
use Rattle.mcf_network.specs.States.{Pseudoflow, IsPseudoflow}
use Rattle.mcf_network.specs.Walks.{HasRoom}
use Rattle.mcf_network.proofs.ArcLaws.{tail_is_node, head_is_node}
use Rattle.mcf_cancel.specs.Private.Labels.{Labels, IsLabelling, IsLinked, IsLink, offer, lowered, total}
use Rattle.mcf_engine.specs.Respecting.{AreAtLeast, Respects, cost_limit}
use Rattle.mcf_network.proofs.Marks.{read_node}
use Rattle.mcf_engine.proofs.Showing.{respects_from_shows, cost_small}

module _ (l : Labels) (r : Rid) (ok : IsLabelling l) (room : HasRoom l.flow r) (less : offer l r <ℤ at_node l.prices (tail l.flow.net r)) where
  from_in : IsNode (length l.prices) (tail l.flow.net r)
  from_in =
      let t = tail_is_node l.flow.net r.arc r.back ok.flow.of_net room.arc in
      (t.0, omega (arith, t, ok.count))

  links_in : IsNode (length l.links) (tail l.flow.net r)
  links_in =
      let t = tail_is_node l.flow.net r.arc r.back ok.flow.of_net room.arc in
      (t.0, omega (arith, t, ok.link_count))

  to_in : IsNode (node_count l.flow.net) (head l.flow.net r)
  to_in = head_is_node l.flow.net r.arc r.back ok.flow.of_net room.arc

  lowered_not_above : AreNotAboveZero (lowered l r).prices
  lowered_not_above =
      let here = ok.not_above_zero (tail l.flow.net r - 1) (pos 0) (let t = from_in in omega (arith, t)) in
      All-set (λ y. y ≤ℤ pos 0) l.prices (tail l.flow.net r - 1) (offer l r) (omega (arith, ints, here, less)) ok.not_above_zero

  lowered_above : (others : List ℤ) → AreLowPrices l.flow.net others l.flow.amounts → (v : ℕ) → IsNode (node_count l.flow.net) v
      → at_node others v ≤ℤ at_node (lowered l r).prices v
  lowered_above others low v h =
      elim (read_node l.prices (tail l.flow.net r) v (offer l r) (pos 0) from_in h.0) [
        | inl (e, w) ↦ (let keeps = respects_from_shows l.flow others r.arc r.back ok.flow low.show_flow room in
            let there = ok.above others low (head l.flow.net r) to_in in rw (w, e) (omega (arith, ints, keeps, there)))
        | inr (n, w) ↦ (let b = ok.above others low v h in rw w b)
      ]

  -- the node that was lowered is stamped anew
  stamped : (ℕ → ℕ) → ℕ → ℕ → ℕ
  stamped stamp clock v = cond (eqb v (tail l.flow.net r)) (clock + 1) (stamp v)

  stamped_same : (stamp : ℕ → ℕ) (clock v : ℕ) → v ≡ tail l.flow.net r → stamped stamp clock v ≡ clock + 1
  unfolding stamped
  stamped_same stamp clock v e = rw (eq-eqb v (tail l.flow.net r) e) refl

  stamped_other : (stamp : ℕ → ℕ) (clock v : ℕ) → v ≢ tail l.flow.net r → stamped stamp clock v ≡ stamp v
  unfolding stamped
  stamped_other stamp clock v n = rw (ne_eqb v (tail l.flow.net r) n) refl

  -- the price at the tail
  price_here : (v : ℕ) → v ≡ tail l.flow.net r → at_node (lowered l r).prices v ≡ offer l r
  price_here v e =
      let same : v - 1 ≡ tail l.flow.net r - 1 = ap (λ k. k - 1) e in
      get_or-set_at l.prices (tail l.flow.net r - 1) (v - 1) (offer l r) (pos 0) same (let t = from_in in omega (arith, t))

  -- other prices stay
  pub lowered_other : (v : ℕ) → 1 ≤ v → v ≢ tail l.flow.net r → at_node (lowered l r).prices v ≡ at_node l.prices v
  lowered_other v low n =
      elim (read_node l.prices (tail l.flow.net r) v (offer l r) (pos 0) from_in low) [
        | inl (e, w) ↦ absurd (n e)
        | inr (m, w) ↦ w
      ]

  linked_here : (stamp : ℕ → ℕ) (clock : ℕ) → ((v : ℕ) → stamp v ≤ clock) → (v : ℕ) → v ≡ tail l.flow.net r → IsLink (lowered l r) (stamped stamp clock) v r
  linked_here stamp clock before v e =
      let p = price_here v e in
      record {
        from = sym e;
        has_room = room;
        falls = elim (read_node l.prices (tail l.flow.net r) (head l.flow.net r) (offer l r) (pos 0) from_in to_in.0) [
          | inl (h, w) ↦ inl (let old = ap (at_node l.prices) h in omega (arith, ints, w, p, old, less))
          | inr (n, w) ↦ inr (
            omega (arith, ints, w, p),
            omega (
              arith,
              stamped_same stamp clock v e,
              stamped_other stamp clock (head l.flow.net r) n,
              before
                  (head l.flow.net r),
            ),
          )
        ];
      }

  head_low : (q : Rid) → HasRoom l.flow q → 1 ≤ head l.flow.net q
  head_low q h = (head_is_node l.flow.net q.arc q.back ok.flow.of_net h.arc).0

  linked_there : (stamp : ℕ → ℕ) (clock : ℕ) → (v : ℕ) (q : Rid) → 1 ≤ v → v ≢ tail l.flow.net r → IsLink l stamp v q
      → IsLink (lowered l r) (stamped stamp clock) v q
  linked_there stamp clock v q h n link =
      let same = lowered_other v h n in
      record {
        from = link.from;
        has_room = link.has_room;
        falls = elim (read_node l.prices (tail l.flow.net r) (head l.flow.net q) (offer l r) (pos 0) from_in (head_low q link.has_room)) [
          | inl (e, w) ↦ (let old = ap (at_node l.prices) e in elim link.falls [
            | inl f ↦ inl (omega (arith, ints, w, old, same, less, f))
            | inr (f, _) ↦ inl (omega (arith, ints, w, old, same, less, f))
          ])
          | inr (m, w) ↦ elim link.falls [
            | inl f ↦ inl (omega (arith, ints, w, same, f))
            | inr (f, g) ↦ inr (
              omega (arith, ints, w, same, f),
              omega (
                arith,
                g,
                stamped_other stamp clock v n,
                stamped_other stamp clock
                    (head l.flow.net q) m,
              ),
            )
          ]
        ];
      }

  -- a node of the links that were written is one of the links that were
  old_node : (v : ℕ) → IsNode (length (lowered l r).links) v → IsNode (length l.links) v
  old_node v h = (h.0, omega (arith, h, length-set l.links (tail l.flow.net r - 1) (Some r)))

  lowered_linked : IsLinked (lowered l r)
  lowered_linked =
      let old = ok.linked in
      record {
        stamp = stamped old.stamp old.clock;
        clock = old.clock + 1;
        before = λ v. elim (cases_eq v (tail l.flow.net r)) [
          | inl e ↦ omega (arith, stamped_same old.stamp old.clock v e)
          | inr n ↦ omega (arith, stamped_other old.stamp old.clock v n, old.before v)
        ];
        links = λ v q h is. elim (read_node l.links (tail l.flow.net r) v (Some r) None links_in h.0) [
          | inl (e, w) ↦ (let same : r ≡ q = cc in subst (λ x. IsLink (lowered l r) (stamped old.stamp old.clock) v x) same
              (linked_here old.stamp old.clock old.before v e))
          | inr (n, w) ↦ linked_there old.stamp old.clock v q h.0 n (old.links v q (old_node v h) (cc))
        ];
        roots = λ v h is. elim (read_node l.links (tail l.flow.net r) v (Some r) None links_in h.0) [
          | inl (e, w) ↦ (cc)
          | inr (n, w) ↦ (lowered_other v h.0 n ∙ old.roots v (old_node v h) (cc))
        ];
      }

  pub lowered_ok : IsLabelling (lowered l r)
  lowered_ok =
      record {
        flow = ok.flow;
        count = length-set l.prices (tail l.flow.net r - 1) (offer l r) ∙ ok.count;
        link_count = length-set l.links (tail l.flow.net r - 1) (Some r) ∙ ok.link_count;
        not_above_zero = lowered_not_above;
        above = lowered_above;
        linked = lowered_linked;
      }

  -- no price rises
  pub lowered_no_rise : (v : ℕ) → 1 ≤ v → at_node (lowered l r).prices v ≤ℤ at_node l.prices v
  lowered_no_rise v low =
      elim (read_node l.prices (tail l.flow.net r) v (offer l r) (pos 0) from_in low) [
        | inl (e, w) ↦ (let old = ap (at_node l.prices) e in omega (arith, ints, w, old, less))
        | inr (n, w) ↦ omega (arith, ints, w)
      ]

  -- the total falls
  pub lowered_total : total (lowered l r).prices <ℤ total l.prices
  lowered_total =
      omega (arith, ints, less, total-set l.prices (tail l.flow.net r - 1) (offer l r) (let t = from_in in omega (arith, t)))
    where
      total-set : (ys : List ℤ) (i : ℕ) (y : ℤ) → i < length ys → total (set ys i y) ≡ total ys +ℤ y -ℤ get_or ys i (pos 0)
      total-set [] i y h = absurd (omega arith)
      total-set (x ∷ xs) zero y h = omega (arith, ints)
      total-set (x ∷ xs) (suc i) y h = omega (arith, ints, total-set xs i y (omega arith))

  -- what the arc offers is at most the greatest cost below the price of its head
  pub offer_low : (at_node l.prices (head l.flow.net r) -ℤ pos cost_limit) ≤ℤ offer l r
  offer_low =
      let small = cost_small l.flow.net r.arc r.back ok.flow.of_net room.arc in
      let low = small.0 in
      omega (arith, ints, low)

  -- and where it is at least -f, so are all prices that were
  pub lowered_floor : (f : ℕ) → AreAtLeast f l.prices → neg_ℤ (pos f) ≤ℤ offer l r → AreAtLeast f (lowered l r).prices
  lowered_floor f floor low v h =
      elim (read_node l.prices (tail l.flow.net r) v (offer l r) (pos 0) from_in h.0) [
        | inl (e, w) ↦ rw w low
        | inr (n, w) ↦ rw w (floor v (h.0, omega (arith, h, length-set l.prices (tail l.flow.net r - 1) (offer l r))))
      ]

  -- the arc itself is respected
  pub lowered_respects : head l.flow.net r ≢ tail l.flow.net r → Respects l.flow (lowered l r).prices r
  lowered_respects n _ =
      let here = price_here (tail l.flow.net r) refl in
      let there = lowered_other (head l.flow.net r) to_in.0 n in
      omega (arith, ints, here, there)

-- all prices 0 and no link
pub start_ok : (s : Pseudoflow) → IsPseudoflow s → IsLabelling (record {
  flow = s;
  prices = replicate (node_count s.net) (pos 0);
  links = replicate (node_count s.net) None;
})
start_ok s ok =
    let n = node_count s.net in
    let m = length-replicate n (pos 0) in
    let k = length-replicate {A = Option Rid} n None in
    record {
      flow = ok;
      count = m;
      link_count = k;
      not_above_zero = λ i d h. rw (get_or-replicate n i (pos 0) d (omega (arith, m, h))) (omega (arith, ints));
      above = λ others low v h. rw (get_or-replicate n (v - 1) (pos 0) (pos 0) (omega (arith, h)))
          (low.not_above_zero (v - 1) (pos 0) (omega (arith, h, low.one_per_node)));
      linked = record {
        stamp = λ _. 0;
        clock = 0;
        before = λ v. omega arith;
        links = λ v r h is. (let none = get_or-replicate {A = Option Rid} n (v - 1) None None (omega (arith, h, k)) in cc);
        roots = λ v h is. get_or-replicate n (v - 1) (pos 0) (pos 0) (omega (arith, h, k));
      };
    }
