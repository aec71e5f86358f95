-- How far from 0 numbers lie.
use Rattle.std.proofs.Common.{◌≡◌, ℕ, ◌+◌, ◌-◌, ◌*◌, ◌^◌, ◌≤◌, List, get_or, subst, arith, ℤ, pos, negsuc, neg_ℤ, ◌+ℤ◌, ◌≤ℤ◌}
use mir.Syntax.{w128}
use mir.Val.{SFits}
use Rattle.std.proofs.Math.IntN.{◌*ℤ◌}
use Rattle.std.specs.List.{All}
use Rattle.std.proofs.lemmas.Int.{ints}
use Rattle.std.proofs.lemmas.List.Elements.{All-from_get_or}
use Rattle.mcf_flows.specs.Network.{Network, IsArcNumber, node_count}
use Rattle.mcf_flows.specs.WellFormed.{IsUpTo}
use Rattle.mcf_flows.proofs.Bounds.{mul_up_to}
use Rattle.mcf_network.specs.declared.rid.Rid.{Rid}
use Rattle.mcf_network.specs.Nets.{IsNet}
use Rattle.mcf_network.specs.Residual.{head, tail, unit_cost}
use Rattle.mcf_network.specs.States.{Pseudoflow, IsPseudoflow}
use Rattle.mcf_network.proofs.ArcLaws.{head_is_node, tail_is_node}
use Rattle.mcf_engine.specs.NearPrices.{near_limit}
use Rattle.mcf_engine.proofs.Showing.{cost_small}
use Rattle.mcf_scaling.specs.Optimality.{AreSmallPrices, IsLeastReduced, ceiling, scaled_reduced}
use Rattle.mcf_scaling.specs.Refinements.{Refinement, IsRefinement, within}
use Rattle.mcf_scaling.proofs.ScaleLaws.{power_small}

-- a number up to 10^22
pub record IsShort (z : ℤ) : Type 0 where
  pub low : neg_ℤ (pos (10 ^ 22)) ≤ℤ z
  pub high : z ≤ℤ pos (10 ^ 22)
  pub fits : SFits w128 z

fits : (z : ℤ) → IsUpTo (2 * 10 ^ 21) z → SFits w128 z
fits (pos n) small = let high = small.1 in record { sfits = omega (arith, ints, high) }
fits (negsuc n) small = let low = small.0 in record { sfits = omega (arith, ints, low) }

short : (z : ℤ) → IsUpTo (2 * 10 ^ 21) z → IsShort z
short z small =
    let low = small.0 in
    let high = small.1 in
    record {
      low = omega (arith, ints, low);
      high = omega (arith, ints, high);
      fits = fits z small;
    }

pub short_product : (a b : ℤ) → IsUpTo (10 ^ 15) a → IsUpTo (2 * 10 ^ 6) b → IsShort (a *ℤ b)
short_product a b h k = short (a *ℤ b) (mul_up_to a b (10 ^ 15) (2 * 10 ^ 6) h k)

-- the reduced cost of a residual arc
pub reduced_up_to : (g : Network) (prices : List ℤ) (r : Rid) → IsNet g → AreSmallPrices (node_count g) prices → IsArcNumber g r.arc
    → IsUpTo (10 ^ 30) (scaled_reduced g prices r)
reduced_up_to g prices r ok small h =
    let cost = cost_small g r.arc r.back ok h in
    let nodes = ok.nodes in
    let scale : IsUpTo (2 * 10 ^ 6) (pos (node_count g + 1)) = (omega (arith, ints), omega (arith, ints, nodes)) in
    let product = short_product (unit_cost g r) (pos (node_count g + 1)) cost scale in
    let low = product.low in
    let high = product.high in
    let from = small.each (tail g r) (tail_is_node g r.arc r.back ok h) in
    let to = small.each (head g r) (head_is_node g r.arc r.back ok h) in
    let from_low = from.0 in
    let from_high = from.1 in
    let to_low = to.0 in
    let to_high = to.1 in
    (omega (arith, ints, low, high, from_low, from_high, to_low, to_high), omega (arith, ints, low, high, from_low, from_high, to_low, to_high))

-- the prices of a refinement
pub small_prices : (a : Refinement) → IsRefinement a → AreSmallPrices (node_count a.flow.net) a.prices
small_prices a ok =
    record {
      count = ok.count;
      each = λ v h.
          let was = ok.risen v h in
          let floor = was.floor in
          let low = was.low in
          let high = was.high in
          let top = was.top in
          let twice : 6 * within a * node_count a.flow.net ≡ 3 * within a * node_count a.flow.net + 3 * within a * node_count a.flow.net = omega arith in
          (omega (arith, ints, floor, low), omega (arith, ints, high, top, twice));
    }

-- a rise
pub rise_up_to : (s : Pseudoflow) (prices : List ℤ) (v k : ℕ) (least z : ℤ) → IsPseudoflow s → AreSmallPrices (node_count s.net) prices → k ≤ 70
    → IsLeastReduced s prices v least → z ≡ least +ℤ pos (2 ^ k) → IsUpTo (10 ^ 31) z
rise_up_to s prices v k least z ok small h is e =
    let (r, room, from, at) = is.reached in
    let cost = reduced_up_to s.net prices r ok.of_net small room.arc in
    let low = cost.0 in
    let high = cost.1 in
    let power = power_small k h in
    (omega (arith, ints, low, high, at, e, power), omega (arith, ints, low, high, at, e, power))

pub least_up_to : (s : Pseudoflow) (prices : List ℤ) (v : ℕ) (least : ℤ) → IsPseudoflow s → AreSmallPrices (node_count s.net) prices
    → IsLeastReduced s prices v least → IsUpTo (10 ^ 31) least
least_up_to s prices v least ok small is =
    let (r, room, from, at) = is.reached in
    let cost = reduced_up_to s.net prices r ok.of_net small room.arc in
    let low = cost.0 in
    let high = cost.1 in
    (omega (arith, ints, low, high, at), omega (arith, ints, low, high, at))

pub power_up_to : (k : ℕ) → k ≤ 70 → IsUpTo (10 ^ 31) (pos (2 ^ k))
power_up_to k h = let small = power_small k h in (omega (arith, ints), omega (arith, ints, small))

-- prices so small are within the bound of prices that nearly show a flow
pub small_near : (nodes : ℕ) (prices : List ℤ) → AreSmallPrices nodes prices → All (IsUpTo near_limit) prices
small_near nodes prices small =
    All-from_get_or (IsUpTo near_limit) prices (pos 0) (λ i below.
    let back : i + 1 - 1 ≡ i = omega arith in
    let at : IsUpTo ceiling (get_or prices i (pos 0)) = subst (λ (j : ℕ). IsUpTo ceiling (get_or prices j (pos 0))) back
    (small.each (i + 1) (omega arith, omega (arith, below, small.count))) in
    let low = at.0 in
    let high = at.1 in
    (omega (arith, ints, low), omega (arith, ints, high)))
