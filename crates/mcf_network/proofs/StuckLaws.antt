-- States without surplus, and sets that no surplus can leave.
use Rattle.std.proofs.Common.{◌≡◌, ℕ, ◌+◌, ◌-◌, ◌<◌, Bool, true, false, not, ◌&&◌, length, get_or, refl, sym, ap, ◌∙◌, arith, subst, ℤ, pos, ◌-ℤ◌, ◌≤ℤ◌}
use Rattle.std.specs.Prelude.{◌<ℤ◌}
use Rattle.std.specs.List.{AllZip}
use Rattle.std.proofs.lemmas.Int.{ints, by_lt_z}
use Rattle.std.proofs.lemmas.Bool.{false≢true}
use Rattle.std.proofs.lemmas.List.{get_or_default}
use Rattle.mcf_flows.specs.declared.arc.Arc.{Arc}
use Rattle.mcf_flows.specs.Blocking.{can_send, must_send, enters, leaves, supply_in}
use Rattle.mcf_flows.specs.Flow.{IsFeasible, net}
use Rattle.mcf_flows.specs.Network.{IsArcNumber, at_node, flow_sum, node_count, node_sum, when}
use Rattle.mcf_flows.proofs.AllZips.{AllZip_from}
use Rattle.mcf_flows.proofs.ArcSums.{flow_sum-arc_sum, flow_sum-same_at}
use Rattle.mcf_flows.proofs.Hoffman.{nets_across}
use Rattle.mcf_flows.proofs.NodeSums.{node_sum-same, node_sum-sub, node_sum_above_zero}
use Rattle.mcf_network.specs.Laws.{FeasibleFlowsAreStates, StuckSetsBlock}
use Rattle.mcf_network.specs.Residual.{no_arc, arc_at}
use Rattle.mcf_network.specs.States.{Pseudoflow, IsPseudoflow, HasNoSurplus, amount_at, room_of, surplus_at}
use Rattle.mcf_network.specs.Stuck.{IsStuck}
use Rattle.mcf_network.proofs.ArcLaws.{amount_count, amount_of, net_arc_at}
use Rattle.mcf_network.proofs.StateLaws.{rid, when-sub}

pub feasible_of_state : (s : Pseudoflow) → IsPseudoflow s → HasNoSurplus s → IsFeasible s.net s.amounts
feasible_of_state s ok none =
    record {
      within_bounds = ok.within_bounds;
      meets_supplies = λ v h. let e = none v h in omega (arith, ints, e);
    }

pub no_surplus_of_feasible : (s : Pseudoflow) → IsFeasible s.net s.amounts → HasNoSurplus s
no_surplus_of_feasible s feasible v h =
    let e = feasible.meets_supplies v h in omega (arith, ints, e)

pub feasible_flows_are_states_lem : FeasibleFlowsAreStates
feasible_flows_are_states_lem g flow ok = (
  λ feasible. (record { of_net = ok; within_bounds = feasible.within_bounds }, no_surplus_of_feasible (record { net = g; amounts = flow }) feasible),
  λ state. feasible_of_state (record { net = g; amounts = flow }) state.0 state.1,
)

-- ---- stuck sets

when_at_least_zero : (b : Bool) (x : ℤ) → (b ≡ true → pos 0 ≤ℤ x) → pos 0 ≤ℤ when b x
when_at_least_zero true x low = low refl
when_at_least_zero false x low = omega (arith, ints)

when-true : (b : Bool) (x : ℤ) → b ≡ true → when b x ≡ x
when-true true x e = refl
when-true false x e = absurd (false≢true e)

-- the arcs that leave the set are full, and those that enter it carry their low
abbrev Crosses : (ℕ → Bool) → Arc → ℤ → Type 0
Crosses set a f = (when (leaves set a) f ≡ when (leaves set a) a.cap) × (when (enters set a) f ≡ when (enters set a) a.low)

crosses_at : (s t : Bool) (f cap low : ℤ) → (s ≡ true → t ≡ false → f ≡ cap) → (t ≡ true → s ≡ false → f ≡ low)
    → (when (s && not t) f ≡ when (s && not t) cap) × (when (t && not s) f ≡ when (t && not s) low)
crosses_at true true f cap low full empty = (refl, refl)
crosses_at true false f cap low full empty = (full refl refl, refl)
crosses_at false true f cap low full empty = (refl, empty refl refl)
crosses_at false false f cap low full empty = (refl, refl)

module _ (s : Pseudoflow) (set : ℕ → Bool) (ok : IsPseudoflow s) (stuck : IsStuck s set) where
  full : (k : ℕ) → IsArcNumber s.net k → set (arc_at s.net k).src ≡ true → set (arc_at s.net k).dst ≡ false → amount_at s k ≡ (arc_at s.net k).cap
  full k h b c =
      let a = amount_of s k ok h in
      let high = a.high in
      by_lt_z (pos 0) (room_of s (rid k false))
      (λ p. absurd (false≢true (sym c ∙ stuck.closed (rid k false) (record { arc = h; room = p }) b)))
      (λ p. omega (arith, ints, p, high))

  empty : (k : ℕ) → IsArcNumber s.net k → set (arc_at s.net k).dst ≡ true → set (arc_at s.net k).src ≡ false → amount_at s k ≡ (arc_at s.net k).low
  empty k h b c =
      let a = amount_of s k ok h in
      let low = a.low in
      let none = (net_arc_at s.net k ok.of_net h).no_low in
      by_lt_z (pos 0) (room_of s (rid k true))
      (λ p. absurd (false≢true (sym c ∙ stuck.closed (rid k true) (record { arc = h; room = p }) b)))
      (λ p. omega (arith, ints, p, low, none))

  crosses : (k : ℕ) → IsArcNumber s.net k → Crosses set (arc_at s.net k) (amount_at s k)
  crosses k h = crosses_at (set (arc_at s.net k).src) (set (arc_at s.net k).dst) (amount_at s k) (arc_at s.net k).cap (arc_at s.net k).low (full k h)
      (empty k h)

  cross_at : (i : ℕ) → i < length s.net.arcs → Crosses set (get_or s.net.arcs i no_arc) (get_or s.amounts i (pos 0))
  cross_at i h =
      let back : i + 1 - 1 ≡ i = omega arith in
      subst (λ (j : ℕ). Crosses set (get_or s.net.arcs j no_arc) (get_or s.amounts j (pos 0))) back (crosses (i + 1) (omega arith))

  all_cross : AllZip (Crosses set) s.net.arcs s.amounts
  all_cross =
      AllZip_from (Crosses set) s.net.arcs s.amounts (amount_count s ok)
      (λ i h a f. subst (λ (b : Arc). Crosses set b (get_or s.amounts i f)) (get_or_default s.net.arcs i no_arc a h)
      (subst (λ (x : ℤ). Crosses set (get_or s.net.arcs i no_arc) x) (get_or_default s.amounts i (pos 0) f (omega (arith, amount_count s ok)))
      (cross_at i h)))

  surplus_in_set : node_sum (λ v. when (set v) (surplus_at s v)) (node_count s.net) ≡ supply_in s.net.supplies set -ℤ
      (flow_sum (λ a f. when (leaves set a) f) s.net.arcs s.amounts -ℤ flow_sum (λ a f. when (enters set a) f) s.net.arcs s.amounts)
  surplus_in_set =
      node_sum-same (λ v. when (set v) (surplus_at s v)) (λ v. when (set v) (at_node s.net.supplies v) -ℤ when (set v) (net s.net.arcs s.amounts v))
      (node_count s.net) (λ v h. when-sub (set v) (at_node s.net.supplies v) (net s.net.arcs s.amounts v))
      ∙ node_sum-sub (λ v. when (set v) (at_node s.net.supplies v)) (λ v. when (set v) (net s.net.arcs s.amounts v)) (node_count s.net)
      ∙ ap (λ z. supply_in s.net.supplies set -ℤ z) (nets_across (node_count s.net) s.net.arcs s.amounts set ok.of_net.ends)

  surplus_above_zero : pos 0 <ℤ node_sum (λ v. when (set v) (surplus_at s v)) (node_count s.net)
  surplus_above_zero =
      let (u, h, inside, positive) = stuck.source in
      node_sum_above_zero (λ v. when (set v) (surplus_at s v)) (node_count s.net) u h (rw (when-true (set u) (surplus_at s u) inside) positive)
      (λ v q. when_at_least_zero (set v) (surplus_at s v) (stuck.no_deficit v q))

  pub stuck_blocks : can_send s.net set <ℤ must_send s.net set
  stuck_blocks =
      let out = flow_sum-same_at (Crosses set) (λ a f. when (leaves set a) f) (λ a f. when (leaves set a) a.cap) (λ a f q. q.0) s.net.arcs s.amounts all_cross
      ∙ flow_sum-arc_sum (Crosses set) (λ a. when (leaves set a) a.cap) s.net.arcs s.amounts all_cross in
      let into = flow_sum-same_at (Crosses set) (λ a f. when (enters set a) f) (λ a f. when (enters set a) a.low) (λ a f q. q.1) s.net.arcs s.amounts all_cross
      ∙ flow_sum-arc_sum (Crosses set) (λ a. when (enters set a) a.low) s.net.arcs s.amounts all_cross in
      omega (arith, ints, surplus_above_zero, surplus_in_set, out, into)

pub stuck_sets_block_lem : StuckSetsBlock
stuck_sets_block_lem s set ok stuck = stuck_blocks s set ok stuck
