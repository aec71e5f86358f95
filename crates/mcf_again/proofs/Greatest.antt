-- Why exits show that prices are the greatest.
use Rattle.std.proofs.Common.{◌≡◌, ℕ, ◌+◌, ◌-◌, ◌<◌, List, get_or, ℤ, pos, ◌≤ℤ◌, ap, inl, inr, suc, zero, arith}
use Rattle.std.proofs.lemmas.Int.{ints}
use Rattle.std.proofs.lemmas.List.{get_or_default}
use Rattle.mcf_flows.specs.Flow.{AreGreatestPrices, AreLowPrices, AreNotAboveZero}
use Rattle.mcf_flows.specs.Network.{IsNode, at_node, node_count}
use Rattle.mcf_flows.proofs.IntLaws.{mul-one}
use Rattle.mcf_network.specs.declared.rid.Rid.{Rid}
use Rattle.mcf_network.specs.Residual.{head, unit_cost}
use Rattle.mcf_network.specs.States.{IsPseudoflow, Pseudoflow}
use Rattle.mcf_network.proofs.ArcLaws.{head_is_node}
use Rattle.mcf_engine.specs.NearPrices.{AreNearPrices}
use Rattle.mcf_engine.specs.Respecting.{Respects}
use Rattle.mcf_engine.specs.Outcomes.{AreStatePrices}
use Rattle.mcf_engine.proofs.PriceFloors.{greatest_are_small}
use Rattle.mcf_engine.proofs.Showing.{respects_from_shows, shows_from_respects}
use Rattle.mcf_again.specs.Private.Exits.{HasExit, rank_of}

-- a fact of each node that follows from that of all nodes of lower rank
by_rank : (rank : ℕ → ℕ) (P : ℕ → Type 0) → ((v : ℕ) → ((w : ℕ) → rank w < rank v → P w) → P v) → (v : ℕ) → P v
by_rank rank P step v = below (rank v + 1) v (omega arith)
  where
    below : (bound : ℕ) (u : ℕ) → rank u < bound → P u
    below zero u h = absurd (omega (arith, h))
    below (suc bound) u h = step u (λ w less. below bound w (omega (arith, h, less)))

module _ (s : Pseudoflow) (prices : List ℤ) (ranks : List ℕ) (near : AreNearPrices s 1 0 prices) (ok : IsPseudoflow s)
    (exits : (v : ℕ) → IsNode (node_count s.net) v → HasExit s prices ranks v) where
  low : (v : ℕ) → IsNode (node_count s.net) v → at_node prices v ≤ℤ pos 0
  low v node =
      elim (exits v node) [
        | inl e ↦ omega (arith, ints, e)
        | inr found ↦ (let below = found.0 in omega (arith, ints, below))
      ]

  low_prices : AreNotAboveZero prices
  low_prices i d l =
      let back : i + 1 - 1 ≡ i = omega arith in
      let count = near.one_per_node in
      let here = low (i + 1) (omega arith, omega (arith, l, count)) in
      let read = get_or_default prices i (pos 0) d l in
      let same = ap (λ j. get_or prices j (pos 0)) back in
      omega (arith, ints, here, read, same)

  respected : (r : Rid) → Respects s prices r
  respected r room =
      let fact = near.near r room in
      let times = mul-one (unit_cost s.net r) in
      omega (arith, ints, fact, times)

  -- prices that show the flow are no greater at any node
  no_greater : (others : List ℤ) → AreLowPrices s.net others s.amounts → (v : ℕ) → IsNode (node_count s.net) v → at_node others v ≤ℤ at_node prices v
  no_greater others are = by_rank (rank_of ranks) (λ v. IsNode (node_count s.net) v → at_node others v ≤ℤ at_node prices v) (λ v before node. elim (exits v node) [
    | inl zero_is ↦ (
        let other = are.not_above_zero (v - 1) (pos 0) (let count = are.one_per_node in omega (arith, node, count)) in
        omega (arith, ints, other, zero_is))
    | inr found ↦ (
        let exit = found.1.1 in
        let next = before (head s.net found.1.0) exit.lower (head_is_node s.net found.1.0.arc found.1.0.back ok.of_net exit.room.arc) in
        let offered = respects_from_shows s others found.1.0.arc found.1.0.back ok are.show_flow exit.room in
        let leaves = ap (λ (u : ℕ). at_node others u) exit.leaves in
        let offers = exit.offers in
        omega (arith, ints, next, offered, leaves, offers))
  ])

  pub greatest : AreGreatestPrices s.net prices s.amounts
  greatest =
      record {
        low = record {
          one_per_node = near.one_per_node;
          not_above_zero = low_prices;
          show_flow = shows_from_respects s prices ok respected;
        };
        greatest = no_greater;
      }

  pub state_prices : AreStatePrices s.net s prices
  state_prices = record { greatest = greatest; small = greatest_are_small s prices ok greatest }
