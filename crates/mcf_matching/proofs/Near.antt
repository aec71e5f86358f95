-- How far the distances of a search lie from the prices.
use Rattle.std.proofs.Common.{◌≡◌, ℕ, ◌+◌, ◌*◌, ◌^◌, ◌-◌, ◌<◌, ◌≤◌, zero, suc, List, [], ◌∷◌, Some, ℤ, pos, ◌+ℤ◌, ◌-ℤ◌, get_or, length, take, ap, ◌∙◌, subst, sym, arith}
use Rattle.std.specs.List.{All}
use Rattle.std.specs.Prelude.{max, unsigned_abs}
use Rattle.std.proofs.lemmas.Int.{ints}
use Rattle.std.proofs.lemmas.List.Elements.{All-from_get_or}
use Rattle.std.proofs.Math.Nat.{mul-le-mul, mul-le-mul_left}
use Rattle.mcf_flows.proofs.Bounds.{size_up_to}
use Rattle.mcf_flows.specs.declared.arc.Arc.{Arc}
use Rattle.mcf_flows.specs.Limits.{limits, node_limit}
use Rattle.mcf_flows.specs.Network.{Network, IsArcNumber, IsNode, at_node, node_count}
use Rattle.mcf_flows.specs.WellFormed.{IsUpTo}
use Rattle.mcf_network.specs.declared.rid.Rid.{Rid}
use Rattle.mcf_network.specs.States.{Pseudoflow}
use Rattle.mcf_network.specs.NodeSets.{member_count}
use Rattle.mcf_network.specs.Nets.{IsNet, greatest_cost}
use Rattle.mcf_network.specs.Residual.{arc_at, no_arc}
use Rattle.mcf_network.proofs.Costs.{cost_within, greatest_small}
use Rattle.mcf_network.proofs.Marks.{count_small}
use Rattle.mcf_matching.specs.Private.Labels.{Target}
use Rattle.mcf_matching.specs.Matchings.{IsPartialMatching, column_of, price_limit, row_of}
use Rattle.mcf_matching.specs.Private.Keeping.{AreNearZero}
use Rattle.mcf_matching.specs.Private.Reaches.{HasWidth, path_cost, row_reach}
use Rattle.mcf_matching.specs.Private.Searches.{IsNear, IsSearch, Search, Settled, dist_at, offer, reach_of}
use Rattle.mcf_matching.proofs.PairLaws.{row_is}

-- ---- what a path costs

-- no arc of a net costs more
pub cost_near : (g : Network) (k : ℕ) → IsArcNumber g k → IsUpTo (greatest_cost g.arcs) (arc_at g k).cost
cost_near g k arc = cost_within g.arcs (k - 1) no_arc (omega (arith, arc))

pub cost_small : (g : Network) → IsNet g → greatest_cost g.arcs ≤ limits.cost
cost_small g ok = greatest_small g.arcs ok.each_arc

-- nor does a path with fewer arcs than there are nodes
pub cost_short : (g : Network) (n : ℕ) → n ≤ node_count g → n * greatest_cost g.arcs ≤ path_cost g
unfolding path_cost
cost_short g n h = mul-le-mul h (omega arith)

-- within the limits of nets it costs no more than this
pub path_small : (g : Network) → IsNet g → path_cost g ≤ 10 ^ 21
unfolding path_cost
path_small g ok =
    let nodes = ok.nodes in
    let cost = greatest_small g.arcs ok.each_arc in
    let a : node_count g * greatest_cost g.arcs ≤ node_limit * greatest_cost g.arcs = mul-le-mul nodes (omega arith) in
    let b : node_limit * greatest_cost g.arcs ≤ node_limit * limits.cost = mul-le-mul_left node_limit cost in
    omega (arith, a, b)

-- so 128 bits have room
pub is_wide : (g : Network) → IsNet g → HasWidth (2 ^ 127 - 1) g
is_wide g ok = let small = path_small g ok in omega (arith, small)

-- ---- distances

-- an offer from a settled row
pub offer_near : (s : Pseudoflow) (y : List ℤ) (q : Search) (source b k : ℕ) → IsPartialMatching s → IsNear s y q source b → IsArcNumber s.net k
    → Settled q (row_of s k) → IsUpTo (b + greatest_cost s.net.arcs) (offer s y q k +ℤ at_node y source -ℤ at_node y (column_of s k))
offer_near s y q source b k ok near arc settled =
    let row = near (row_of s k) (row_is s k ok arc).0 settled in
    let cost = cost_near s.net k arc in
    (omega (arith, ints, row, cost), omega (arith, ints, row, cost))

-- the target
pub target_near : (s : Pseudoflow) (y : List ℤ) (q : Search) (source : ℕ) (rest : List Rid) (t : Target) → IsPartialMatching s → IsSearch s y q source rest
    → q.best ≡ Some t → IsUpTo (reach_of s.net q + greatest_cost s.net.arcs) (t.dist +ℤ at_node y source -ℤ at_node y (column_of s t.arc))
target_near s y q source rest t ok search best =
    let l = (search.best t best).0 in
    subst (λ x. IsUpTo (reach_of s.net q + greatest_cost s.net.arcs) (x +ℤ at_node y source -ℤ at_node y (column_of s t.arc))) (sym l.gives)
    (offer_near s y q source (reach_of s.net q) t.arc ok search.near l.arc l.from)

-- no distance is out of reach, and no cost is
pub reach_small : (s : Pseudoflow) (y : List ℤ) (q : Search) (source : ℕ) (rest : List Rid) → IsSearch s y q source rest
    → (reach_of s.net q ≤ 2 * path_cost s.net) × (greatest_cost s.net.arcs ≤ path_cost s.net)
reach_small s y q source rest search =
    let ns = search.entries.settled_count in
    let few = count_small q.settled in
    let all = cost_short s.net (member_count q.settled) (omega (arith, ns, few)) in
    let row = search.is_row.0 in
    let one = cost_short s.net 1 (omega (arith, row)) in
    (omega (arith, all), omega (arith, one))

-- a settled row is near
pub row_near : (s : Pseudoflow) (y : List ℤ) (q : Search) (source row : ℕ) (rest : List Rid) → IsPartialMatching s → IsSearch s y q source rest
    → IsNode (node_count s.net) row → Settled q row → AreNearZero s y → IsUpTo (row_reach s.net) (dist_at q row)
row_near s y q source row rest ok search node settled small =
    let few = reach_small s y q source rest search in
    let here = search.near row node settled in
    let a = small source search.is_row.0 in
    let b = small row node in
    (omega (arith, ints, few, here, a, b), omega (arith, ints, few, here, a, b))

-- ---- prices

-- prices near 0 are within the limit of every net
pub near_all : (s : Pseudoflow) (y : List ℤ) → IsNet s.net → length y ≡ node_count s.net → AreNearZero s y → All (IsUpTo price_limit) y
near_all s y ok count near =
    All-from_get_or (IsUpTo price_limit) y (pos 0) (λ i l.
    let here : i + 1 - 1 ≡ i = omega arith in
    let far = near (i + 1) (omega arith, omega (arith, l, count)) in
    let small = path_small s.net ok in
    subst (λ j. IsUpTo price_limit (get_or y j (pos 0))) here (omega (arith, ints, far, small), omega (arith, ints, far, small)))
