-- The labels at the end of a search for the greatest prices, divided by the scale and rounded down.
use Rattle.std.proofs.Common.{◌≡◌, ℕ, ◌+◌, ◌-◌, ◌*◌, ◌<◌, ◌≤◌, List, [], length, get_or, ℤ, pos, neg_ℤ, ◌*ℤ◌, ◌≤ℤ◌, ◌<ℤ◌, false, ap, subst, ◌∙◌, arith, inl}
use Rattle.std.proofs.Common.{inr}
use Rattle.std.proofs.lemmas.Int.{ints}
use Rattle.std.proofs.lemmas.List.{get_or_default}
use Rattle.std.specs.Prelude.{unsigned_abs}
use Rattle.mcf_flows.specs.Flow.{AreGreatestPrices, AreNotAboveZero}
use Rattle.mcf_flows.specs.Network.{IsNode, at_node, node_count}
use Rattle.mcf_flows.proofs.IntLaws.{neg-mul, add-mul, one-mul}
use Rattle.mcf_network.specs.declared.rid.Rid.{Rid}
use Rattle.mcf_network.specs.NodeSets.{member_count}
use Rattle.mcf_network.specs.Residual.{tail, head, unit_cost}
use Rattle.mcf_network.proofs.ArcLaws.{head_is_node, tail_is_node}
use Rattle.mcf_network.proofs.Marks.{count_none, unmarked}
use Rattle.mcf_engine.specs.Heaps.{Keyed, NoneWaits}
use Rattle.mcf_engine.specs.Respecting.{Respects}
use Rattle.mcf_engine.specs.declared.near_state.NearState.{NearState}
use Rattle.mcf_engine.specs.Outcomes.{AreStatePrices}
use Rattle.mcf_engine.specs.Private.Raisings.{AreRounded, IsLength, IsRaising, IsRoundedDown, Settled, label}
use Rattle.mcf_engine.proofs.LabelLengths.{cancelled, rounded_above, rounded_respects}
use Rattle.mcf_engine.proofs.RaisingSteps.{none_contained}
use Rattle.mcf_engine.proofs.PriceFloors.{greatest_are_small}
use Rattle.mcf_engine.proofs.Showing.{shows_from_respects}

-- the negative of a quotient that was rounded up
pub rounded_is : (scale depth q : ℕ) (z g : ℤ) → z ≤ℤ pos 0 → depth ≡ unsigned_abs z → g ≡ neg_ℤ (pos q) → depth ≤ q * scale → q * scale < depth + scale
    → IsRoundedDown scale z g
rounded_is scale depth q z g high depth_is is enough least =
    let times : g *ℤ pos scale ≡ neg_ℤ (pos (q * scale)) = ap (λ x. x *ℤ pos scale) is ∙ neg-mul (pos q) (pos scale) in
    let same : z ≡ neg_ℤ (pos depth) = low z high depth_is in
    record {
      below = omega (arith, ints, times, same, enough);
      next = omega (arith, ints, times, same, least, add-mul g (pos 1) (pos scale), one-mul (pos scale));
    }
  where
    low : (x : ℤ) → x ≤ℤ pos 0 → depth ≡ unsigned_abs x → x ≡ neg_ℤ (pos depth)
    low x l e = omega (arith, ints)

module _ (p : NearState) (h : Keyed) (z : List ℤ)
    (search : IsRaising p h []) (none : NoneWaits h) (rounded : AreRounded p.scale p.prices.now h z) where
  all_settled : (v : ℕ) → Settled h v
  all_settled v = ap (λ t. get_or t (v - 1) false) none ∙ unmarked (length h.waiting) v

  none_left : member_count h.waiting ≡ 0
  none_left = ap member_count none ∙ count_none (length h.waiting)

  walk : (v : ℕ) → IsNode (node_count p.state.now.net) v → IsLength p.scale p.slack 1 (node_count p.state.now.net) (label p.prices.now h v)
  walk v n = subst (λ m. IsLength p.scale p.slack (m + 1) (node_count p.state.now.net) (label p.prices.now h v)) none_left (search.shorter v n (all_settled v))

  round : (v : ℕ) → IsNode (node_count p.state.now.net) v → IsRoundedDown p.scale (label p.prices.now h v) (at_node z v)
  round v n = rounded.each v (n.0, (let count = p.near.one_per_node in omega (arith, n, count)))

  count : length z ≡ node_count p.state.now.net
  count = rounded.count ∙ p.near.one_per_node

  -- no price is above 0
  low_price : (v : ℕ) → IsNode (node_count p.state.now.net) v → at_node z v ≤ℤ pos 0
  low_price v n =
      let below = (round v n).below in
      let up = search.not_above v n in
      let fits = p.near.slack_small in
      let less : at_node z v <ℤ pos 1 = cancelled (at_node z v) (pos 1) p.scale (omega (arith, ints, below, up, fits, one-mul (pos p.scale))) in
      omega (arith, ints, less)

  low_prices : AreNotAboveZero z
  low_prices i d l =
      let back : i + 1 - 1 ≡ i = omega arith in
      let here = low_price (i + 1) (omega arith, omega (arith, l, count)) in
      let read = get_or_default z i (pos 0) d l in
      let same = ap (λ j. get_or z j (pos 0)) back in
      omega (arith, ints, here, read, same)

  respected : (r : Rid) → Respects p.state.now z r
  respected r room =
      let from = tail_is_node p.state.now.net r.arc r.back search.flow.of_net room.arc in
      let to = head_is_node p.state.now.net r.arc r.back search.flow.of_net room.arc in
      elim (search.respects r room (all_settled (head p.state.now.net r))) [
        | inl a ↦ rounded_respects p.scale p.slack (node_count p.state.now.net) (unit_cost p.state.now.net r) (label p.prices.now h (tail p.state.now.net r)) (label p.prices.now h (head p.state.now.net r))
            (at_node z (tail p.state.now.net r)) (at_node z (head p.state.now.net r)) p.near.slack_small (walk (head p.state.now.net r) to) a (round (tail p.state.now.net r) from)
            (round (head p.state.now.net r) to)
        | inr has ↦ absurd (none_contained _ has)
      ]

  raised_greatest : AreGreatestPrices p.state.now.net z p.state.now.amounts
  raised_greatest =
      record {
        low = record {
          one_per_node = count;
          not_above_zero = low_prices;
          show_flow = shows_from_respects p.state.now z search.flow respected;
        };
        greatest = λ others low v n. rounded_above p.scale (label p.prices.now h v) (at_node z v) (at_node others v) (search.above others low v n) (round v n);
      }

  pub raised : AreStatePrices p.state.now.net p.state.now z
  raised = record { greatest = raised_greatest; small = greatest_are_small p.state.now z search.flow raised_greatest }
