-- What a loop over the arcs and their flows needs at one of them: the steps of the sums, as it
-- reads them.
use Rattle.std.proofs.Common.{◌≡◌, ℕ, ◌+◌, ◌-◌, ◌≤◌, ap, subst, sym, ◌∙◌, arith, inl, inr, List, [], length, take, set, get_or, map, Some, ℤ, pos}
use Rattle.std.proofs.Common.{◌+ℤ◌, ◌-ℤ◌}
use Rattle.std.specs.Prelude.{replicate}
use Rattle.std.specs.List.{All, slice_get, sum}
use Rattle.std.proofs.Math.Seq.{take-length}
use Rattle.std.proofs.lemmas.Bool.{cases_lt}
use Rattle.std.proofs.lemmas.List.{get_or-replicate, length-replicate}
use Rattle.std.proofs.lemmas.Option.{get_or_from_slice_get, none-some, slice_get_past, slice_get_within}
use Rattle.mcf_flows.specs.declared.arc.Arc.{Arc}
use Rattle.mcf_flows.specs.Flow.{IsWithinBounds, AreNets}
use Rattle.mcf_flows.specs.Limits.{arc_limit, total_limit, limits}
use Rattle.mcf_flows.specs.Network.{at_node}
use Rattle.mcf_flows.specs.WellFormed.{HasEnds, IsArcWithinLimits, weight}
use Rattle.mcf_flows.proofs.Bounds.{CostStep, cost_step}
use Rattle.mcf_flows.proofs.NetSteps.{NetStep, NetStepSecond, net_step, net_step_second}

-- what holds of each arc holds of one that is read
pub arc_has : (P : Arc → Type 0) (arcs : List Arc) (i : ℕ) (a : Arc) → slice_get arcs i ≡ Some a → All P arcs → P a
arc_has P arcs i a at all =
    elim (cases_lt i (length arcs)) [
      | inl h ↦ subst P (get_or_from_slice_get arcs i a a at) (all i a h)
      | inr past ↦ absurd (none-some a (sym (slice_get_past arcs i past) ∙ at))
    ]

-- the first arcs are all of them at the end
pub take_whole : (arcs : List Arc) (i : ℕ) → i ≡ length arcs → take i arcs ≡ arcs
take_whole arcs i e = ap (λ n. take n arcs) e ∙ take-length arcs

-- nets of no arcs
pub nets_at_start : (nodes : ℕ) (flow nets : List ℤ) → nets ≡ replicate nodes (pos 0) → AreNets nodes [] flow nets
nets_at_start nodes flow nets e = record {
  one_per_node = ap length e ∙ length-replicate nodes (pos 0);
  each = λ v h. ap (λ (xs : List ℤ). at_node xs v) e ∙ get_or-replicate nodes (v - 1) (pos 0) (pos 0) (omega (arith, h));
}

-- the arc at a place and its flow, as the loop has read them
module _ (arcs : List Arc) (flow : List ℤ) (i : ℕ) (a : Arc) (f : ℤ) (at : slice_get arcs i ≡ Some a) (carried : slice_get flow i ≡ Some f) where
  arc_is : get_or arcs i a ≡ a
  arc_is = get_or_from_slice_get arcs i a a at

  flow_is : get_or flow i f ≡ f
  flow_is = get_or_from_slice_get flow i f f carried

  pub cost_at : All (IsArcWithinLimits limits) arcs → sum (map weight arcs) ≤ total_limit → IsWithinBounds arcs flow → CostStep arcs flow i a f
  cost_at small total bounds =
      rw (arc_is, flow_is) at (cost_step arcs flow i a f small total bounds (slice_get_within arcs i a at))

  -- where the entries of the ends stand at these places
  module _ (nodes : ℕ) (nets : List ℤ) (p q : ℕ) (src : p ≡ a.src - 1) (dst : q ≡ a.dst - 1) (ends : All (HasEnds nodes) arcs)
      (small : All (IsArcWithinLimits limits) arcs) (count : length arcs ≤ arc_limit) (bounds : IsWithinBounds arcs flow)
      (known : AreNets nodes (take i arcs) flow nets) where
    src_is : (get_or arcs i a).src - 1 ≡ p
    src_is = ap (λ (b : Arc). b.src - 1) arc_is ∙ sym src

    dst_is : (get_or arcs i a).dst - 1 ≡ q
    dst_is = ap (λ (b : Arc). b.dst - 1) arc_is ∙ sym dst

    pub net_at : (x : ℤ) → x ≡ get_or nets p x → NetStep arcs flow i f x
    net_at x is-x =
        rw flow_is at (net_step nodes arcs flow nets i a f ends small count bounds known (slice_get_within arcs i a at) x (rw src_is is-x))

    pub net_at_second : (x y : ℤ) → x ≡ get_or nets p x → y ≡ get_or (set nets p (x +ℤ f)) q y
        → NetStepSecond nodes (take (i + 1) arcs) flow (set (set nets p (x +ℤ f)) q (y -ℤ f)) f y
    net_at_second x y is-x is-y =
        rw (src_is, dst_is, flow_is) at (net_step_second nodes arcs flow nets i a f ends small count bounds known (slice_get_within arcs i a at) x y
        (rw src_is is-x) (rw (src_is, dst_is, flow_is) is-y))
