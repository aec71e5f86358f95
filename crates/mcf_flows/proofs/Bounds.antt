-- How large sums over arcs, flows and nodes can be.
use Rattle.std.proofs.Common.{◌≡◌, ℕ, zero, suc, ◌+◌, ◌-◌, ◌*◌, ◌^◌, ◌≤◌, ◌<◌, Bool, true, false, List, [], ◌∷◌, length, map, take, get_or, ap, arith, ℤ, pos}
use Rattle.std.proofs.Common.{negsuc, ◌+ℤ◌, ◌-ℤ◌, lit<, to_z, of_z}
use Rattle.std.specs.List.{All, AllZip, sum}
use Rattle.std.proofs.Math.IntN.{◌*ℤ◌}
use Rattle.std.proofs.Math.Seq.{take-length}
use Rattle.std.proofs.Math.Nat.{mul-le-mul, mul-le-mul_left, le-max_left, le-max_right}
use Rattle.std.specs.Int.{w128}
use Rattle.std.specs.Prelude.{FitsSigned, max, unsigned_abs}
use Rattle.std.proofs.lemmas.Int.{ints, to_z-of_z}
use Rattle.std.proofs.lemmas.List.Elements.{All-head, All-tail}
use Rattle.std.proofs.lemmas.List.Sums.{sum_by-cons}
use Rattle.mcf_flows.specs.declared.arc.Arc.{Arc}
use Rattle.mcf_flows.specs.Limits.{arc_limit, node_limit, total_limit, limits}
use Rattle.mcf_flows.specs.Network.{IsNode, arc_sum, at_node, flow_sum, node_sum, when}
use Rattle.mcf_flows.specs.Flow.{CanCarry, IsWithinBounds, cost}
use Rattle.mcf_flows.specs.Private.Sums.{sum_limit, supply_sum_limit}
use Rattle.mcf_flows.specs.WellFormed.{IsArcWithinLimits, IsUpTo, weight}
use Rattle.mcf_flows.proofs.AllZips.{AllZip-at, AllZip-with, length-AllZip}
use Rattle.mcf_flows.proofs.ArcSums.{flow_sum_more}

-- ---- one number

-- a number that fits 128 bits is read again as it was
pub read_back : (z : ℤ) (m : ℕ) → IsUpTo m z → m < 2 ^ 127 → to_z w128 (of_z w128 z) ≡ z
read_back z m h k = let f : FitsSigned w128 z = omega (arith, ints) in to_z-of_z w128 z f

-- a number is as far from 0 as its size
pub up_to_size : (z : ℤ) → IsUpTo (unsigned_abs z) z
up_to_size (pos n) = omega (arith, ints)
up_to_size (negsuc n) = omega (arith, ints)

pub size_up_to : (m : ℕ) (z : ℤ) → IsUpTo m z → unsigned_abs z ≤ m
size_up_to m (pos n) h = omega (arith, ints)
size_up_to m (negsuc n) h = omega (arith, ints)

-- how large a product is
pub mul_up_to : (a b : ℤ) (m n : ℕ) → IsUpTo m a → IsUpTo n b → IsUpTo (m * n) (a *ℤ b)
mul_up_to (pos a) (pos b) m n h k =
    let p : a * b ≤ m * n = mul-le-mul (omega (arith, ints)) (omega (arith, ints)) in omega (arith, ints)
mul_up_to (pos a) (negsuc b) m n h k =
    let p : a * suc b ≤ m * n = mul-le-mul (omega (arith, ints)) (omega (arith, ints)) in omega (arith, ints)
mul_up_to (negsuc a) (pos b) m n h k =
    let p : suc a * b ≤ m * n = mul-le-mul (omega (arith, ints)) (omega (arith, ints)) in omega (arith, ints)
mul_up_to (negsuc a) (negsuc b) m n h k =
    let p : suc a * suc b ≤ m * n = mul-le-mul (omega (arith, ints)) (omega (arith, ints)) in omega (arith, ints)

pub when_up_to : (t : Bool) (m : ℕ) (z : ℤ) → IsUpTo m z → IsUpTo m (when t z)
when_up_to true m z h = h
when_up_to false m z h = omega (arith, ints)

-- ---- sums of this many terms, each up to a bound

-- over the first i arcs and their flows
pub flow_sum_up_to : (R : Arc → ℤ → Type 0) (t : Arc → ℤ → ℤ) (m : ℕ) → ((a : Arc) (f : ℤ) → R a f → IsUpTo m (t a f))
    → (arcs : List Arc) (flow : List ℤ) (i : ℕ) → AllZip R arcs flow → IsUpTo (i * m) (flow_sum t (take i arcs) flow)
flow_sum_up_to R t m e arcs flow zero h = omega (arith, ints)
flow_sum_up_to R t m e [] flow (suc i) h = omega (arith, ints)
flow_sum_up_to R t m e (a ∷ arcs) [] (suc i) h = omega (arith, ints)
flow_sum_up_to R t m e (a ∷ arcs) (f ∷ flow) (suc i) h =
    let here : IsUpTo m (t a f) = e a f h.0 in
    let rest : IsUpTo (i * m) (flow_sum t (take i arcs) flow) = flow_sum_up_to R t m e arcs flow i h.1 in
    omega (arith, ints)

-- over the first i arcs
pub arc_sum_up_to : (P : Arc → Type 0) (t : Arc → ℤ) (m : ℕ) → ((a : Arc) → P a → IsUpTo m (t a)) → (arcs : List Arc) (i : ℕ) → All P arcs
    → IsUpTo (i * m) (arc_sum t (take i arcs))
arc_sum_up_to P t m e arcs zero h = omega (arith, ints)
arc_sum_up_to P t m e [] (suc i) h = omega (arith, ints)
arc_sum_up_to P t m e (a ∷ arcs) (suc i) h =
    let here : IsUpTo m (t a) = e a (All-head P a arcs h) in
    let rest : IsUpTo (i * m) (arc_sum t (take i arcs)) = arc_sum_up_to P t m e arcs i (All-tail P a arcs h) in
    omega (arith, ints)

-- over the first n nodes
pub node_sum_up_to : (t : ℕ → ℤ) (m n : ℕ) → ((v : ℕ) → IsNode n v → IsUpTo m (t v)) → IsUpTo (n * m) (node_sum t n)
node_sum_up_to t m zero e = omega (arith, ints)
node_sum_up_to t m (suc n) e =
    let here : IsUpTo m (t (suc n)) = e (suc n) (omega arith) in
    let rest : IsUpTo (n * m) (node_sum t n) = node_sum_up_to t m n (λ v h. e v (omega arith)) in
    omega (arith, ints)

-- ---- node sets

-- the supplies of a set of the first nodes
pub supply_up_to : (supplies : List ℤ) (set : ℕ → Bool) (i : ℕ) → All (IsUpTo limits.supply) supplies → length supplies ≤ node_limit → i ≤ length supplies
    → IsUpTo supply_sum_limit (node_sum (λ v. when (set v) (at_node supplies v)) i)
supply_up_to supplies set i small n h =
    let sum = node_sum_up_to (λ v. when (set v) (at_node supplies v)) limits.supply i
    (λ v q. when_up_to (set v) limits.supply (at_node supplies v) (small (v - 1) (pos 0) (omega arith))) in
    omega (arith, ints, sum)

-- the lows, or the caps, of the first arcs that pass a test
pub lows_up_to : (test : Arc → Bool) (arcs : List Arc) (i : ℕ) → All (IsArcWithinLimits limits) arcs → length arcs ≤ arc_limit → i ≤ length arcs
    → IsUpTo sum_limit (arc_sum (λ a. when (test a) a.low) (take i arcs))
lows_up_to test arcs i small n h =
    let sum = arc_sum_up_to (IsArcWithinLimits limits) (λ a. when (test a) a.low) limits.bound
    (λ a q. when_up_to (test a) limits.bound a.low q.low_small) arcs i small in
    omega (arith, ints, sum)

pub caps_up_to : (test : Arc → Bool) (arcs : List Arc) (i : ℕ) → All (IsArcWithinLimits limits) arcs → length arcs ≤ arc_limit → i ≤ length arcs
    → IsUpTo sum_limit (arc_sum (λ a. when (test a) a.cap) (take i arcs))
caps_up_to test arcs i small n h =
    let sum = arc_sum_up_to (IsArcWithinLimits limits) (λ a. when (test a) a.cap) limits.bound
    (λ a q. when_up_to (test a) limits.bound a.cap q.cap_small) arcs i small in
    omega (arith, ints, sum)

-- the same, of all arcs
pub low_all_up_to : (test : Arc → Bool) (arcs : List Arc) → All (IsArcWithinLimits limits) arcs → length arcs ≤ arc_limit
    → IsUpTo sum_limit (arc_sum (λ a. when (test a) a.low) arcs)
low_all_up_to test arcs small n =
    rw (take-length arcs) at (lows_up_to test arcs (length arcs) small n (omega arith))

pub cap_all_up_to : (test : Arc → Bool) (arcs : List Arc) → All (IsArcWithinLimits limits) arcs → length arcs ≤ arc_limit
    → IsUpTo sum_limit (arc_sum (λ a. when (test a) a.cap) arcs)
cap_all_up_to test arcs small n =
    rw (take-length arcs) at (caps_up_to test arcs (length arcs) small n (omega arith))

-- ---- sums of terms, each up to a weight of its arc

pub sum-weights : (w : Arc → ℕ) (a : Arc) (arcs : List Arc) → sum (map w (a ∷ arcs)) ≡ w a + sum (map w arcs)
sum-weights w a arcs = sum_by-cons (λ x. x) (w a) (map w arcs)

-- over the first i arcs and their flows, by the weights of all arcs
pub flow_sum_within : (R : Arc → ℤ → Type 0) (t : Arc → ℤ → ℤ) (w : Arc → ℕ) → ((a : Arc) (f : ℤ) → R a f → IsUpTo (w a) (t a f))
    → (arcs : List Arc) (flow : List ℤ) (i : ℕ) → AllZip R arcs flow → IsUpTo (sum (map w arcs)) (flow_sum t (take i arcs) flow)
flow_sum_within R t w e arcs flow zero h = omega (arith, ints)
flow_sum_within R t w e [] flow (suc i) h = omega (arith, ints)
flow_sum_within R t w e (a ∷ arcs) [] (suc i) h = absurd h
flow_sum_within R t w e (a ∷ arcs) (f ∷ flow) (suc i) h =
    let here : IsUpTo (w a) (t a f) = e a f h.0 in
    let rest : IsUpTo (sum (map w arcs)) (flow_sum t (take i arcs) flow) = flow_sum_within R t w e arcs flow i h.1 in
    omega (arith, ints, sum-weights w a arcs)

-- the weight of one arc is within the sum of all
pub weight-le-sum : (w : Arc → ℕ) (arcs : List Arc) (i : ℕ) (a : Arc) → i < length arcs → w (get_or arcs i a) ≤ sum (map w arcs)
weight-le-sum w [] i a h = absurd (omega arith)
weight-le-sum w (b ∷ arcs) zero a h = omega (arith, sum-weights w b arcs)
weight-le-sum w (b ∷ arcs) (suc i) a h =
    omega (arith, sum-weights w b arcs, weight-le-sum w arcs i a (omega arith))

-- ---- the cost of a flow within bounds

-- what an arc costs or earns is up to its weight
pub term_up_to_weight : (a : Arc) (f : ℤ) → CanCarry a f → IsUpTo (weight a) (a.cost *ℤ f)
term_up_to_weight a f h =
    let low = up_to_size a.low in
    let cap = up_to_size a.cap in
    let left = le-max_left (unsigned_abs a.low) (unsigned_abs a.cap) in
    let right = le-max_right (unsigned_abs a.low) (unsigned_abs a.cap) in
    let small : IsUpTo (max (unsigned_abs a.low) (unsigned_abs a.cap)) f = omega (arith, ints, low, cap, left, right, h) in
    mul_up_to a.cost f (unsigned_abs a.cost) (max (unsigned_abs a.low) (unsigned_abs a.cap)) (up_to_size a.cost) small

-- the cost over the first arcs, and over all, is up to the sum of the weights
pub cost_part_up_to : (arcs : List Arc) (flow : List ℤ) (i total : ℕ) → sum (map weight arcs) ≤ total → IsWithinBounds arcs flow
    → IsUpTo total (cost (take i arcs) flow)
cost_part_up_to arcs flow i total h bounds =
    omega (arith, ints, h, flow_sum_within CanCarry (λ a f. a.cost *ℤ f) weight term_up_to_weight arcs flow i bounds)

pub cost_up_to : (arcs : List Arc) (flow : List ℤ) (total : ℕ) → sum (map weight arcs) ≤ total → IsWithinBounds arcs flow → IsUpTo total (cost arcs flow)
cost_up_to arcs flow total h bounds =
    rw (take-length arcs) at (cost_part_up_to arcs flow (length arcs) total h bounds)

-- what one arc costs
pub term_up_to : (arcs : List Arc) (flow : List ℤ) (i total : ℕ) (d : Arc) (e : ℤ) → sum (map weight arcs) ≤ total → IsWithinBounds arcs flow → i < length arcs
    → IsUpTo total ((get_or arcs i d).cost *ℤ get_or flow i e)
term_up_to arcs flow i total d e h bounds k =
    omega (arith, ints, h, weight-le-sum weight arcs i d k, term_up_to_weight (get_or arcs i d) (get_or flow i e) (AllZip-at CanCarry arcs flow i d e bounds k))

-- ---- the most that arcs can cost beyond their lows

-- weights that are each at most k times another, in sum
pub sum-weights-le : (w u : Arc → ℕ) (k : ℕ) → ((a : Arc) → w a ≤ k * u a) → (arcs : List Arc) → sum (map w arcs) ≤ k * sum (map u arcs)
sum-weights-le w u k e [] = omega arith
sum-weights-le w u k e (a ∷ arcs) =
    let here : w a ≤ k * u a = e a in
    let rest : sum (map w arcs) ≤ k * sum (map u arcs) = sum-weights-le w u k e arcs in
    let whole : k * (u a + sum (map u arcs)) ≡ k * u a + k * sum (map u arcs) = omega arith in
    omega (arith, sum-weights w a arcs, ap (λ n. k * n) (sum-weights u a arcs))

-- the size of an arc's cost times its width is at most twice its weight
pub width_weight : (a : Arc) → unsigned_abs a.cost * unsigned_abs (a.cap -ℤ a.low) ≤ 2 * weight a
width_weight a =
    let low = up_to_size a.low in
    let cap = up_to_size a.cap in
    let left = le-max_left (unsigned_abs a.low) (unsigned_abs a.cap) in
    let right = le-max_right (unsigned_abs a.low) (unsigned_abs a.cap) in
    let width : IsUpTo (2 * max (unsigned_abs a.low) (unsigned_abs a.cap)) (a.cap -ℤ a.low) = omega (arith, ints, low, cap, left, right) in
    omega (arith, mul-le-mul_left (unsigned_abs a.cost) (size_up_to (2 * max (unsigned_abs a.low) (unsigned_abs a.cap)) (a.cap -ℤ a.low) width))

pub width_total : (arcs : List Arc) (total : ℕ) → sum (map weight arcs) ≤ total → sum (map (λ a. unsigned_abs a.cost * unsigned_abs (a.cap -ℤ a.low)) arcs)
    ≤ 2 * total
width_total arcs total h =
    omega (arith, h, sum-weights-le (λ a. unsigned_abs a.cost * unsigned_abs (a.cap -ℤ a.low)) weight 2 width_weight arcs)

-- ---- a flow within bounds, arc by arc

-- the limits of an arc, and a flow that it can carry
abbrev pub IsPlaced : Arc → ℤ → Type 0
IsPlaced a f = IsArcWithinLimits limits a × CanCarry a f

pub each_placed : (arcs : List Arc) (flow : List ℤ) → All (IsArcWithinLimits limits) arcs → IsWithinBounds arcs flow → AllZip IsPlaced arcs flow
each_placed arcs flow small bounds =
    AllZip-with CanCarry (IsArcWithinLimits limits) arcs flow small bounds

-- a flow within the bounds is small
pub flow_up_to : (a : Arc) (f : ℤ) → IsPlaced a f → IsUpTo limits.bound f
flow_up_to a f h = omega (arith, ints, h.0.low_small, h.0.cap_small, h.1)

-- what a loop that adds up the cost needs at arc i
pub record CostStep (arcs : List Arc) (flow : List ℤ) (i : ℕ) (a : Arc) (f : ℤ) : Type 0 where
  pub in_range : i < length flow
  pub cost_read : to_z w128 (of_z w128 a.cost) ≡ a.cost
  pub flow_read : to_z w128 (of_z w128 f) ≡ f
  pub term_small : IsUpTo total_limit (a.cost *ℤ f)
  pub before_small : IsUpTo total_limit (cost (take i arcs) flow)
  pub next : cost (take (i + 1) arcs) flow ≡ cost (take i arcs) flow +ℤ a.cost *ℤ f

pub cost_step : (arcs : List Arc) (flow : List ℤ) (i : ℕ) (d : Arc) (e : ℤ) → All (IsArcWithinLimits limits) arcs → sum (map weight arcs) ≤ total_limit
    → IsWithinBounds arcs flow → i < length arcs → CostStep arcs flow i (get_or arcs i d) (get_or flow i e)
cost_step arcs flow i d e small total bounds h =
    let here = AllZip-at IsPlaced arcs flow i d e (each_placed arcs flow small bounds) h in
    let k : i < length flow = omega (arith, length-AllZip CanCarry arcs flow bounds) in
    record {
      in_range = k;
      cost_read = read_back (get_or arcs i d).cost limits.cost here.0.cost_small (lit< tt);
      flow_read = read_back (get_or flow i e) limits.bound (flow_up_to (get_or arcs i d) (get_or flow i e) here) (lit< tt);
      term_small = term_up_to arcs flow i total_limit d e total bounds h;
      before_small = cost_part_up_to arcs flow i total_limit total bounds;
      next = flow_sum_more (λ a f. a.cost *ℤ f) arcs flow i d e h k;
    }
