-- A partial matching with its prices costs no more than any other that matches the same rows.
use Rattle.std.proofs.Common.{◌≡◌, ℕ, zero, suc, List, sym, ◌∙◌, ap, subst, arith, inl, inr, ℤ, pos, negsuc, ◌+ℤ◌, ◌-ℤ◌, ◌≤ℤ◌, ◌<ℤ◌}
use Rattle.std.specs.List.{All}
use Rattle.std.proofs.Math.IntN.{◌*ℤ◌}
use Rattle.std.proofs.lemmas.Int.{ints}
use Rattle.mcf_flows.specs.declared.arc.Arc.{Arc}
use Rattle.mcf_flows.specs.Network.{Network, IsNode, at_node, flow_sum, node_count, node_sum}
use Rattle.mcf_flows.specs.Flow.{CanCarry, IsComplementary, cost, net, reduced_cost}
use Rattle.mcf_flows.specs.WellFormed.{HasEnds}
use Rattle.mcf_flows.proofs.IntLaws.{mul-mono, mul-anti, sub-mul}
use Rattle.mcf_flows.proofs.ArcSums.{flow_sum-sub, flow_sum-same, flow_sum-le_two}
use Rattle.mcf_flows.proofs.NodeSums.{node_sum-le, node_sum-net}
use Rattle.mcf_network.specs.States.{Pseudoflow, surplus_at}
use Rattle.mcf_matching.specs.Matchings.{AreMatchingPrices, IsLeastMatching, IsPartialMatching, IsRow, MatchSameRows}
use Rattle.mcf_matching.proofs.Surpluses.{column_matched_or_not, column_surplus, free_column, free_row, matched_column, matched_row, matching_shown, row_matched_or_not}
use Rattle.mcf_matching.proofs.Surpluses.{row_or_column}

-- where an arc is complementary, no other flow within its bounds has a smaller product with the
-- reduced cost r
no_smaller : (r low cap f other : ℤ) → (pos 0 <ℤ r → f ≡ low) → (r <ℤ pos 0 → f ≡ cap) → low ≤ℤ other → other ≤ℤ cap → (r *ℤ f) ≤ℤ (r *ℤ other)
no_smaller (pos zero) low cap f other above below l u = omega (arith, ints)
no_smaller (pos (suc n)) low cap f other above below l u =
    let e : f ≡ low = above (omega (arith, ints)) in mul-mono (pos (suc n)) f other (omega (arith, ints)) (omega (arith, ints))
no_smaller (negsuc n) low cap f other above below l u =
    let e : f ≡ cap = below (omega (arith, ints)) in mul-anti (negsuc n) other f (omega (arith, ints)) (omega (arith, ints))

-- the sum of reduced costs by amounts is the cost less what the prices make of the nets
reduced_sum : (g : Network) (prices flow : List ℤ) → All (HasEnds (node_count g)) g.arcs
    → flow_sum (λ a f. reduced_cost prices a *ℤ f) g.arcs flow ≡ cost g.arcs flow -ℤ node_sum (λ v. at_node prices v *ℤ net g.arcs flow v) (node_count g)
reduced_sum g prices flow ends =
    flow_sum-same (HasEnds (node_count g)) (λ a f. reduced_cost prices a *ℤ f) (λ a f. a.cost *ℤ f -ℤ (at_node prices a.src -ℤ at_node prices a.dst) *ℤ f) split
    g.arcs flow ends
    ∙ flow_sum-sub (λ a f. a.cost *ℤ f) (λ a f. (at_node prices a.src -ℤ at_node prices a.dst) *ℤ f) g.arcs flow
    ∙ ap (λ z. cost g.arcs flow -ℤ z) (sym (node_sum-net (at_node prices) (node_count g) g.arcs flow ends))
  where
    regroup : (c s t : ℤ) → c -ℤ s +ℤ t ≡ c -ℤ (s -ℤ t)
    regroup c s t = omega (arith, ints)

    split : (a : Arc) (f : ℤ) → HasEnds (node_count g) a → reduced_cost prices a *ℤ f ≡ a.cost *ℤ f -ℤ (at_node prices a.src -ℤ at_node prices a.dst) *ℤ f
    split a f h =
        ap (λ z. z *ℤ f) (regroup a.cost (at_node prices a.src) (at_node prices a.dst))
        ∙ sub-mul a.cost (at_node prices a.src -ℤ at_node prices a.dst) f

module _ (s : Pseudoflow) (y others : List ℤ) (ok : IsPartialMatching s) (shown : AreMatchingPrices s y)
    (ok' : IsPartialMatching (record { net = s.net; amounts = others })) (same : MatchSameRows s (record { net = s.net; amounts = others })) where
  abbrev t : Pseudoflow
  t = record { net = s.net; amounts = others }

  -- at a row both have the same net
  row_same : (v : ℕ) → IsRow s v → surplus_at s v ≡ surplus_at t v
  row_same v row =
      elim (row_matched_or_not s v ok) [
        | inl m ↦ matched_row s v ok row m ∙ sym (matched_row t v ok' row (same.0 v m))
        | inr f ↦ free_row s v ok row f ∙ sym (free_row t v ok' row (λ m. f (same.1 v m)))
      ]

  at_each : (v : ℕ) → IsNode (node_count s.net) v → (at_node y v *ℤ net s.net.arcs s.amounts v) ≤ℤ (at_node y v *ℤ net s.net.arcs others v)
  at_each v n =
      elim (row_or_column s v ok n) [
        | inl row ↦ (
            let e = row_same v row in
            let nets : net s.net.arcs s.amounts v ≡ net s.net.arcs others v = omega (arith, ints, e) in
            let products = ap (λ z. at_node y v *ℤ z) nets in
            omega (arith, ints, products))
        | inr column ↦ elim (column_matched_or_not s v ok) [
          | inl m ↦ (
              let none = matched_column s v ok column m in
              let bounds = column_surplus t v ok' column in
              let price = shown.columns v column in
              mul-mono (at_node y v) (net s.net.arcs s.amounts v) (net s.net.arcs others v) price (omega (arith, ints, none, bounds)))
          | inr f ↦ (
              let less = free_column s v ok column f in
              let bounds = column_surplus t v ok' column in
              let price = shown.free v column f in
              mul-anti (at_node y v) (net s.net.arcs others v) (net s.net.arcs s.amounts v) (omega (arith, ints, price)) (omega (arith, ints, less, bounds)))
        ]
      ]

  pub least_at : cost s.net.arcs s.amounts ≤ℤ cost s.net.arcs others
  least_at =
      let r = λ (a : Arc) (f : ℤ). reduced_cost y a *ℤ f in
      let le : flow_sum r s.net.arcs s.amounts ≤ℤ flow_sum r s.net.arcs others =
      flow_sum-le_two (IsComplementary y) CanCarry r r (λ a f h p q. no_smaller (reduced_cost y a) a.low a.cap f h p.0 p.1 q.0 q.1) s.net.arcs s.amounts others
      (matching_shown s y ok shown) ok'.flow.within_bounds
      in
      let nets = node_sum-le (λ v. at_node y v *ℤ net s.net.arcs s.amounts v) (λ v. at_node y v *ℤ net s.net.arcs others v) (node_count s.net) at_each in
      omega (arith, ints, le, nets, reduced_sum s.net y s.amounts ok.flow.of_net.ends, reduced_sum s.net y others ok.flow.of_net.ends)

pub least_matching : (s : Pseudoflow) (y : List ℤ) → IsPartialMatching s → AreMatchingPrices s y → IsLeastMatching s
least_matching s y ok shown t ok' e same =
    let P : Network → Type 0 = λ n. IsPartialMatching (record { net = n; amounts = t.amounts }) × MatchSameRows s (record { net = n; amounts = t.amounts }) in
    let both = subst P e (ok', same) in
    least_at s y t.amounts ok shown both.0 both.1
