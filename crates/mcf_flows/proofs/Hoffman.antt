-- Where a node set blocks, no flow is feasible.
use Rattle.std.proofs.Common.{◌≡◌, ℕ, Bool, true, false, not, ◌&&◌, List, ap, sym, ◌∙◌, arith, ℤ, pos, ◌-ℤ◌, ◌≤ℤ◌}
use Rattle.std.specs.List.{All}
use Rattle.std.proofs.Math.IntN.{◌*ℤ◌}
use Rattle.std.proofs.lemmas.Int.{ints}
use Rattle.mcf_flows.specs.declared.arc.Arc.{Arc}
use Rattle.mcf_flows.specs.declared.problem.Side.TheVariants.{Send, Take}
use Rattle.mcf_flows.specs.Network.{Network, arc_sum, at_node, flow_sum, node_count, node_sum, when}
use Rattle.mcf_flows.specs.Flow.{CanCarry, IsFeasible, IsWithinBounds, net}
use Rattle.mcf_flows.specs.Blocking.{enters, leaves, supply_in}
use Rattle.mcf_flows.specs.WellFormed.{HasEnds}
use Rattle.mcf_flows.specs.Laws.{BlockedHasNoFlow}
use Rattle.mcf_flows.proofs.ArcSums.{flow_sum-sub, flow_sum-same, flow_sum-le, flow_sum-arc_sum}
use Rattle.mcf_flows.proofs.NodeSums.{indicator, when-indicator, node_sum-same, node_sum-net, nets_cancel}

-- the nets of the nodes of a set sum to what leaves the set less what enters it
pub nets_across : (n : ℕ) (arcs : List Arc) (flow : List ℤ) (set : ℕ → Bool) → All (HasEnds n) arcs
    → node_sum (λ v. when (set v) (net arcs flow v)) n ≡ flow_sum (λ a f. when (leaves set a) f) arcs flow -ℤ flow_sum (λ a f. when (enters set a) f) arcs flow
nets_across n arcs flow set ends =
    node_sum-same (λ v. when (set v) (net arcs flow v)) (λ v. indicator set v *ℤ net arcs flow v) n (λ v h. when-indicator (set v) (net arcs flow v))
    ∙ node_sum-net (indicator set) n arcs flow ends
    ∙ flow_sum-same (HasEnds n) (λ a f. (indicator set a.src -ℤ indicator set a.dst) *ℤ f) (λ a f. when (leaves set a) f -ℤ when (enters set a) f)
    (λ a f h. crossing (set a.src) (set a.dst) f) arcs flow ends
    ∙ flow_sum-sub (λ a f. when (leaves set a) f) (λ a f. when (enters set a) f) arcs flow
  where
    crossing : (s t : Bool) (f : ℤ) → (when s (pos 1) -ℤ when t (pos 1)) *ℤ f ≡ when (s && not t) f -ℤ when (t && not s) f
    crossing true true f = omega (arith, ints)
    crossing true false f = omega (arith, ints)
    crossing false true f = omega (arith, ints)
    crossing false false f = omega (arith, ints)

-- the flow that leaves a set less the flow that enters it is the supply of the set
pub supply_across : (g : Network) (set : ℕ → Bool) (flow : List ℤ) → All (HasEnds (node_count g)) g.arcs → IsFeasible g flow
    → supply_in g.supplies set ≡ flow_sum (λ a f. when (leaves set a) f) g.arcs flow -ℤ flow_sum (λ a f. when (enters set a) f) g.arcs flow
supply_across g set flow ends feasible =
    node_sum-same (λ v. when (set v) (at_node g.supplies v)) (λ v. when (set v) (net g.arcs flow v)) (node_count g)
    (λ v h. ap (when (set v)) (sym (feasible.meets_supplies v h)))
    ∙ nets_across (node_count g) g.arcs flow set ends

-- the supplies of a network with a feasible flow sum to 0
pub supplies_cancel : (g : Network) (flow : List ℤ) → All (HasEnds (node_count g)) g.arcs → IsFeasible g flow
    → node_sum (at_node g.supplies) (node_count g) ≡ pos 0
supplies_cancel g flow ends feasible =
    node_sum-same (at_node g.supplies) (net g.arcs flow) (node_count g) (λ v h. sym (feasible.meets_supplies v h))
    ∙ nets_cancel (node_count g) g.arcs flow ends

-- a flow within the bounds, over the arcs that pass a test, is at least their lows and at most
-- their caps
pub at_least_lows : (test : Arc → Bool) (arcs : List Arc) (flow : List ℤ) → IsWithinBounds arcs flow
    → arc_sum (λ a. when (test a) a.low) arcs ≤ℤ flow_sum (λ a f. when (test a) f) arcs flow
at_least_lows test arcs flow h =
    let le : flow_sum (λ a f. when (test a) a.low) arcs flow ≤ℤ flow_sum (λ a f. when (test a) f) arcs flow =
    flow_sum-le CanCarry (λ a f. when (test a) a.low) (λ a f. when (test a) f) (λ a f q. kept (test a) a.low f q.0) arcs flow h
    in
    omega (arith, ints, le, flow_sum-arc_sum CanCarry (λ a. when (test a) a.low) arcs flow h)
  where
    kept : (t : Bool) (l f : ℤ) → l ≤ℤ f → when t l ≤ℤ when t f
    kept true l f h = h
    kept false l f h = omega (arith, ints)

pub at_most_caps : (test : Arc → Bool) (arcs : List Arc) (flow : List ℤ) → IsWithinBounds arcs flow
    → flow_sum (λ a f. when (test a) f) arcs flow ≤ℤ arc_sum (λ a. when (test a) a.cap) arcs
at_most_caps test arcs flow h =
    let le : flow_sum (λ a f. when (test a) f) arcs flow ≤ℤ flow_sum (λ a f. when (test a) a.cap) arcs flow =
    flow_sum-le CanCarry (λ a f. when (test a) f) (λ a f. when (test a) a.cap) (λ a f q. kept (test a) f a.cap q.1) arcs flow h
    in
    omega (arith, ints, le, flow_sum-arc_sum CanCarry (λ a. when (test a) a.cap) arcs flow h)
  where
    kept : (t : Bool) (f u : ℤ) → f ≤ℤ u → when t f ≤ℤ when t u
    kept true f u h = h
    kept false f u h = omega (arith, ints)

pub blocked_has_no_flow_lem : BlockedHasNoFlow
blocked_has_no_flow_lem g set Send flow ends blocks feasible =
    omega (
      arith,
      ints,
      blocks,
      supply_across g set flow ends feasible,
      at_least_lows (enters set) g.arcs flow feasible.within_bounds,
      at_most_caps
          (leaves set) g.arcs flow feasible.within_bounds,
    )
blocked_has_no_flow_lem g set Take flow ends blocks feasible =
    omega (
      arith,
      ints,
      blocks,
      supply_across g set flow ends feasible,
      at_least_lows (leaves set) g.arcs flow feasible.within_bounds,
      at_most_caps
          (enters set) g.arcs flow feasible.within_bounds,
    )
