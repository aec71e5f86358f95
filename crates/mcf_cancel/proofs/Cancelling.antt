-- A push round a negative cycle: the state keeps no surplus, and gets cheaper.
use Rattle.std.proofs.Common.{◌≡◌, ℕ, ◌<◌, List, ℤ, pos, nat_abs, ◌+ℤ◌, ◌≤ℤ◌, ◌<ℤ◌, ap, sym, subst, ◌∙◌, arith}
use Rattle.std.specs.List.{All, Any}
use Rattle.std.proofs.lemmas.Int.{ints}
use Rattle.mcf_flows.specs.Flow.{IsFeasible, cost}
use Rattle.mcf_flows.specs.Network.{Network, node_count}
use Rattle.mcf_flows.proofs.Bounds.{cost_up_to}
use Rattle.mcf_flows.proofs.IntLaws.{mul_below_zero}
use Rattle.mcf_network.specs.declared.rid.Rid.{Rid}
use Rattle.mcf_network.specs.Nets.{net_total_limit}
use Rattle.mcf_network.specs.Residual.{tail}
use Rattle.mcf_network.specs.States.{IsFeasibleState, IsPseudoflow, Pseudoflow, room_of}
use Rattle.mcf_network.specs.Walks.{CanPushAlong, pushed_along, walk_cost}
use Rattle.mcf_network.proofs.StuckLaws.{feasible_of_state}
use Rattle.mcf_network.proofs.WalkLaws.{along_ok, along_net, moves_along, cost_along}
use Rattle.mcf_engine.specs.NegativeCycles.{IsCancelled, IsNegativeCycle}
use Rattle.mcf_engine.specs.Outcomes.{IsLeastState}
use Rattle.mcf_engine.proofs.Falling.{nat_abs_falls}

pub cycle_positive : (s : Pseudoflow) (walk : List Rid) (x : ℤ) → IsNegativeCycle s walk → Any (λ r. x ≡ room_of s r) walk → pos 0 <ℤ x
cycle_positive s walk x cycle (k, r, h, at, is) =
    let room = (cycle.has_room k r h).room in
    let same = ap (room_of s) at in
    omega (arith, ints, room, same, is)

pub cycle_can_push : (s : Pseudoflow) (walk : List Rid) (x : ℤ) → IsNegativeCycle s walk → pos 0 <ℤ x → All (λ r. x ≤ℤ room_of s r) walk → CanPushAlong s walk x
cycle_can_push s walk x cycle positive room =
    record {
      low = omega (arith, ints, positive);
      room = λ k d h. record { arc = (cycle.has_room k d h).arc; room = room k d h };
      distinct = λ i j d h l e. cycle.distinct i j d h l (ap (tail s.net) e);
    }

pub cycle_feasible : (g : Network) (s : Pseudoflow) (walk : List Rid) (x : ℤ) → IsFeasibleState g s → IsNegativeCycle s walk → CanPushAlong s walk x
    → IsFeasibleState g (pushed_along s walk x)
cycle_feasible g s walk x ok cycle can =
    let same = along_net s walk x in
    record {
      of_net = same ∙ ok.of_net;
      flow = along_ok s walk x ok.flow can;
      no_surplus = λ v h.
          let u = cycle.closed.0 in
          let moved = moves_along s walk x u u ok.flow can cycle.closed.1 v in
          let nodes = ap (λ (n : Network). node_count n) same in
          let none = ok.no_surplus v (h.0, omega (arith, h, nodes)) in
          omega (arith, ints, moved, none);
    }

-- how far the cost is above the least that any flow could cost
abbrev pub cost_height : Pseudoflow → ℕ
cost_height s = nat_abs (cost s.net.arcs s.amounts +ℤ pos net_total_limit)

pub cost_height_falls : (s : Pseudoflow) (walk : List Rid) (x : ℤ) → IsPseudoflow s → IsNegativeCycle s walk → CanPushAlong s walk x → pos 0 <ℤ x
    → cost_height (pushed_along s walk x) < cost_height s
cost_height_falls s walk x ok cycle can positive =
    let change = cost_along s walk x ok can in
    let less = mul_below_zero (walk_cost s.net walk) x cycle.negative positive in
    let after = along_ok s walk x ok can in
    let floor = (cost_up_to (pushed_along s walk x).net.arcs (pushed_along s walk x).amounts net_total_limit after.of_net.total after.within_bounds).0 in
    let same = ap (λ (n : Network). cost n.arcs (pushed_along s walk x).amounts) (along_net s walk x) in
    nat_abs_falls (cost (pushed_along s walk x).net.arcs (pushed_along s walk x).amounts +ℤ pos net_total_limit)
    (cost s.net.arcs s.amounts +ℤ pos net_total_limit) (omega (arith, ints, floor)) (omega (arith, ints, less, change, same))

-- a cancelled cycle leaves a state without surplus, which costs less
module _ (s s' : Pseudoflow) (walk : List Rid) (cycle : IsNegativeCycle s walk) (done : IsCancelled s s' walk) where
  positive : pos 0 <ℤ done.amount
  positive = cycle_positive s walk done.amount cycle done.reached

  can : CanPushAlong s walk done.amount
  can = cycle_can_push s walk done.amount cycle positive done.each

  pub cancelled_feasible : (g : Network) → IsFeasibleState g s → IsFeasibleState g s'
  cancelled_feasible g ok = subst (λ (t : Pseudoflow). IsFeasibleState g t) (sym done.pushed) (cycle_feasible g s walk done.amount ok cycle can)

  pub cancelled_falls : IsPseudoflow s → cost_height s' < cost_height s
  cancelled_falls ok = subst (λ (t : Pseudoflow). cost_height t < cost_height s) (sym done.pushed) (cost_height_falls s walk done.amount ok cycle can positive)

-- there is room for 1 along a negative cycle
pub cycle_by_one : (s : Pseudoflow) (walk : List Rid) → IsNegativeCycle s walk → CanPushAlong s walk (pos 1)
cycle_by_one s walk cycle =
    cycle_can_push s walk (pos 1) cycle (omega (arith, ints)) (λ k d h. let some = (cycle.has_room k d h).room in omega (arith, ints, some))

-- a push of 1 along a negative cycle makes a state cheaper, so a least state has none
pub least_no_cycle : (g : Network) (s : Pseudoflow) (walk : List Rid) → IsLeastState g s → IsNegativeCycle s walk → ⊥
least_no_cycle g s walk ok cycle =
    let can = cycle_by_one s walk cycle in
    let after = cycle_feasible g s walk (pos 1) ok.feasible cycle can in
    let change = cost_along s walk (pos 1) ok.feasible.flow can in
    let less = mul_below_zero (walk_cost s.net walk) (pos 1) cycle.negative (omega (arith, ints)) in
    let feasible = subst (λ n. IsFeasible n (pushed_along s walk (pos 1)).amounts) after.of_net
    (feasible_of_state (pushed_along s walk (pos 1)) after.flow after.no_surplus) in
    let least = ok.least.least (pushed_along s walk (pos 1)).amounts feasible in
    let here = ap (λ (n : Network). cost n.arcs s.amounts) ok.feasible.of_net in
    let there = ap (λ (n : Network). cost n.arcs (pushed_along s walk (pos 1)).amounts) ok.feasible.of_net in
    omega (arith, ints, change, less, least, here, there)
