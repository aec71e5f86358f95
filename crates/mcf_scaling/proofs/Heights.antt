-- The measure of a phase: each push and each relabel lowers it.
use Rattle.std.proofs.Common.{◌≡◌, ℕ, zero, suc, ◌+◌, ◌-◌, ◌*◌, ◌^◌, ◌<◌, eqb, Bool, List, [], ◌∷◌, length, set, sym, ap, ◌∙◌, arith, subst, ℤ, pos, nat_abs}
use Rattle.std.proofs.Common.{neg_ℤ, ◌+ℤ◌, ◌-ℤ◌, ◌≤ℤ◌, inl, inr}
use Rattle.std.specs.Int.{int_min}
use Rattle.std.proofs.Math.IntN.{◌*ℤ◌, *ℤ_comm}
use Rattle.std.proofs.lemmas.Int.{ints}
use Rattle.std.proofs.lemmas.Bool.{eq-eqb, ne_eqb}
use Rattle.mcf_flows.specs.Flow.{cost}
use Rattle.mcf_flows.specs.Network.{IsArcNumber, IsNode, at_node, node_count, node_sum, when}
use Rattle.mcf_flows.proofs.Bounds.{cost_up_to}
use Rattle.mcf_flows.proofs.IntLaws.{add-mul, mul-add, mul-mono, mul-mono_left, mul-sub, mul-one, mul-zero, mul_above_zero, mul_below_zero, sub-mul}
use Rattle.mcf_flows.proofs.IntLaws.{zero-mul}
use Rattle.mcf_flows.proofs.NodeSums.{node_sum-add, node_sum-at, node_sum-same, node_sum-sub}
use Rattle.mcf_network.specs.declared.rid.Rid.{Rid}
use Rattle.mcf_network.specs.Nets.{net_total_limit}
use Rattle.mcf_network.specs.Residual.{head, tail, unit_cost}
use Rattle.mcf_network.specs.States.{Pseudoflow, IsPseudoflow, pushed, room_of, surplus_at}
use Rattle.mcf_network.specs.Walks.{CanPushAlong}
use Rattle.mcf_network.proofs.ArcLaws.{head_is_node, tail_is_node}
use Rattle.mcf_network.proofs.StateLaws.{pushed_surplus, rid, surplus_small}
use Rattle.mcf_network.proofs.WalkLaws.{cost_along}
use Rattle.mcf_engine.proofs.Falling.{nat_abs_falls}
use Rattle.mcf_scaling.specs.Laws.{PhasesEnd}
use Rattle.mcf_scaling.specs.Optimality.{ceiling, scaled_cost, scaled_reduced}
use Rattle.mcf_scaling.specs.Phases.{IsPush, IsRelabel}
use Rattle.mcf_scaling.specs.Refinements.{Refinement, IsNodeOf, IsRefinement, reduced, within}
use Rattle.mcf_scaling.proofs.RunLaws.{pushed_keeps, raised_keeps, rise_high, share, within_some}
use Rattle.mcf_scaling.proofs.StepLaws.{raised_at}

-- more than any surplus
abbrev pub weight_limit : ℕ
weight_limit = 10 ^ 27

-- the weight of a price: it is above 0, and falls with the surplus of the node
abbrev pub weighed : Pseudoflow → List ℤ → ℕ → ℤ
weighed s prices v = at_node prices v *ℤ (pos weight_limit -ℤ surplus_at s v)

-- the cost of the amounts less the weighed prices
abbrev pub potential : Pseudoflow → List ℤ → ℤ
potential s prices =
    cost s.net.arcs s.amounts *ℤ pos (node_count s.net + 1) -ℤ node_sum (weighed s prices) (node_count s.net)

-- ---- a push

scaled : (a x : ℤ) (m : ℕ) → (a *ℤ x) *ℤ pos m ≡ (a *ℤ pos m) *ℤ x
scaled a x zero =
    mul-zero (a *ℤ x) ∙ sym (ap (λ z. z *ℤ x) (mul-zero a) ∙ zero-mul x)
scaled a x (suc m) =
    let left = mul-add (a *ℤ x) (pos m) (pos 1) in
    let more : pos m +ℤ pos 1 ≡ pos (suc m) = omega (arith, ints) in
    sym (ap (λ z. (a *ℤ x) *ℤ z) more) ∙ left ∙ omega (arith, ints, scaled a x m, mul-one (a *ℤ x)) ∙ sym one_more
  where
    one_more : (a *ℤ pos (suc m)) *ℤ x ≡ (a *ℤ pos m) *ℤ x +ℤ a *ℤ x
    one_more =
        let more : pos (suc m) ≡ pos m +ℤ pos 1 = omega (arith, ints) in
        ap (λ z. (a *ℤ z) *ℤ x) more ∙ ap (λ z. z *ℤ x) (mul-add a (pos m) (pos 1)) ∙ add-mul (a *ℤ pos m) (a *ℤ pos 1) x ∙ ap
        (λ z. (a *ℤ pos m) *ℤ x +ℤ z *ℤ x) (mul-one a)

split : (p w g c : ℤ) → p *ℤ (w +ℤ g -ℤ c) ≡ (p *ℤ w +ℤ p *ℤ g) -ℤ p *ℤ c
split p w g c = mul-sub p (w +ℤ g) c ∙ ap (λ z. z -ℤ p *ℤ c) (mul-add p w g)

module _ (s : Pseudoflow) (prices : List ℤ) (k : ℕ) (b : Bool) (x : ℤ) (ok : IsPseudoflow s) (h : IsArcNumber s.net k) where
  abbrev from : ℕ
  from = tail s.net (rid k b)

  abbrev to : ℕ
  to = head s.net (rid k b)

  abbrev gone : ℕ → ℤ
  gone v = at_node prices v *ℤ when (eqb from v) x

  abbrev come : ℕ → ℤ
  come v = at_node prices v *ℤ when (eqb to v) x

  weighed_at : (v : ℕ) → IsNode (node_count s.net) v → weighed (pushed s (rid k b) x) prices v ≡ (weighed s prices v +ℤ gone v) -ℤ come v
  weighed_at v q =
      let moved = pushed_surplus s k b x ok h v in
      let weight : pos weight_limit -ℤ surplus_at (pushed s (rid k b) x) v ≡ (pos weight_limit -ℤ surplus_at s v) +ℤ when (eqb from v) x -ℤ when
      (eqb to v) x = omega (arith, ints, moved) in
      ap (λ z. at_node prices v *ℤ z) weight ∙ split (at_node prices v) (pos weight_limit -ℤ surplus_at s v) (when (eqb from v) x) (when (eqb to v) x)

  pub pushed_weighed : node_sum (weighed (pushed s (rid k b) x) prices) (node_count s.net) ≡ node_sum (weighed s prices) (node_count s.net) +ℤ at_node
      prices from *ℤ x -ℤ at_node prices to *ℤ x
  pushed_weighed =
      let n = node_count s.net in
      node_sum-same (weighed (pushed s (rid k b) x) prices) (λ v. (weighed s prices v +ℤ gone v) -ℤ come v) n weighed_at
      ∙ node_sum-sub (λ v. weighed s prices v +ℤ gone v) come n
      ∙ ap (λ z. z -ℤ node_sum come n) (node_sum-add (weighed s prices) gone n)
      ∙ ap (λ z. (node_sum (weighed s prices) n +ℤ z) -ℤ node_sum come n) (node_sum-at (at_node prices) from x n (tail_is_node s.net k b ok.of_net h))
      ∙ ap (λ z. (node_sum (weighed s prices) n +ℤ at_node prices from *ℤ x) -ℤ z) (node_sum-at (at_node prices) to x n (head_is_node s.net k b ok.of_net h))

  -- each unit changes the potential by the reduced cost
  pub pushed_potential : pos 0 ≤ℤ x → x ≤ℤ room_of s (rid k b)
      → potential (pushed s (rid k b) x) prices ≡ potential s prices +ℤ scaled_reduced s.net prices (rid k b) *ℤ x
  pushed_potential low high =
      let m = node_count s.net + 1 in
      let u = unit_cost s.net (rid k b) in
      let can : CanPushAlong s (rid k b ∷ []) x = record {
        low = low;
        room = λ i d l. rw (first_of_one i l) (record { arc = h; room = high });
        distinct = λ i j d l q. absurd (omega (arith, l, q));
      } in
      let change = cost_along s (rid k b ∷ []) x ok can in
      let none : u +ℤ pos 0 ≡ u = omega (arith, ints) in
      let total = ap (λ z. z *ℤ pos m) change ∙ add-mul (cost s.net.arcs s.amounts) ((u +ℤ pos 0) *ℤ x) (pos m) in
      let part = ap (λ z. (z *ℤ x) *ℤ pos m) none ∙ scaled u x m in
      let around = add-mul (scaled_cost s.net (rid k b) -ℤ at_node prices from) (at_node prices to) x in
      let before = sub-mul (scaled_cost s.net (rid k b)) (at_node prices from) x in
      omega (arith, ints, total, part, around, before, pushed_weighed)
    where
      first_of_one : (i : ℕ) → i < length (rid k b ∷ []) → i ≡ 0
      first_of_one i l = omega (arith, l)

-- ---- a relabel

raised_weighed : (s : Pseudoflow) (prices : List ℤ) (v : ℕ) (rise : ℤ) → length prices ≡ node_count s.net → IsNode (node_count s.net) v
    → node_sum (weighed s (set prices (v - 1) (at_node prices v +ℤ rise))) (node_count s.net) ≡ node_sum (weighed s prices) (node_count s.net) +ℤ
    (pos weight_limit -ℤ surplus_at s v) *ℤ rise
raised_weighed s prices v rise count h =
    let n = node_count s.net in
    node_sum-same (weighed s (set prices (v - 1) (at_node prices v +ℤ rise)))
    (λ u. weighed s prices u +ℤ (pos weight_limit -ℤ surplus_at s u) *ℤ when (eqb v u) rise) n at
    ∙ node_sum-add (weighed s prices) (λ u. (pos weight_limit -ℤ surplus_at s u) *ℤ when (eqb v u) rise) n
    ∙ ap (λ z. node_sum (weighed s prices) n +ℤ z) (node_sum-at (λ u. pos weight_limit -ℤ surplus_at s u) v rise n h)
  where
    more : (w p q g : ℤ) → q ≡ p +ℤ g → q *ℤ w ≡ p *ℤ w +ℤ w *ℤ g
    more w p q g e = ap (λ z. z *ℤ w) e ∙ add-mul p g w ∙ ap (λ z. p *ℤ w +ℤ z) (*ℤ_comm g w)

    same : (w p q : ℤ) → q ≡ p → q *ℤ w ≡ p *ℤ w +ℤ w *ℤ pos 0
    same w p q e = ap (λ z. z *ℤ w) e ∙ omega (arith, ints)

    at : (u : ℕ) → IsNode (node_count s.net) u
        → weighed s (set prices (v - 1) (at_node prices v +ℤ rise)) u ≡ weighed s prices u +ℤ (pos weight_limit -ℤ surplus_at s u) *ℤ when (eqb v u) rise
    at u q =
        elim (raised_at prices v u rise (h.0, omega (arith, h, count)) (q.0, omega (arith, q, count))) [
          | inl (e, w) ↦ rw (eq-eqb v u (sym e)) (more (pos weight_limit -ℤ surplus_at s u) (at_node prices u)
              (at_node (set prices (v - 1) (at_node prices v +ℤ rise)) u) rise (w ∙ ap (λ i. at_node prices i +ℤ rise) (sym e)))
          | inr (n, w) ↦ rw (ne_eqb v u (λ e. n (sym e))) (same (pos weight_limit -ℤ surplus_at s u) (at_node prices u)
              (at_node (set prices (v - 1) (at_node prices v +ℤ rise)) u) w)
        ]

-- ---- the floor

node_sum_up : (t : ℕ → ℤ) (c n : ℕ) → ((v : ℕ) → IsNode n v → t v ≤ℤ pos c) → node_sum t n ≤ℤ pos (n * c)
node_sum_up t c zero e = omega (arith, ints)
node_sum_up t c (suc n) e =
    let here = e (suc n) (omega arith) in
    let more = node_sum_up t c n (λ v h. e v (omega arith)) in
    let product : suc n * c ≡ n * c + c = omega arith in
    omega (arith, ints, here, more, product)

-- how far below 0 the potential may lie
abbrev pub depth : ℕ
depth = 10 ^ 63

-- the product of two numbers that are not too large
product_up : (p w : ℤ) → p ≤ℤ pos ceiling → pos 0 ≤ℤ w → w ≤ℤ pos (2 * 10 ^ 27) → (p *ℤ w) ≤ℤ pos (2 * 10 ^ 56)
product_up p w high low most =
    let first = mul-mono_left p (pos ceiling) w low high in
    let second = mul-mono (pos ceiling) w (pos (2 * 10 ^ 27)) (omega (arith, ints)) most in
    omega (arith, ints, first, second)

weighed_up : (a : Refinement) (v : ℕ) → IsRefinement a → IsNodeOf a v → weighed a.flow a.prices v ≤ℤ pos (2 * 10 ^ 56)
weighed_up a v ok h =
    let risen = ok.risen v h in
    let high = risen.high in
    let top = risen.top in
    let twice : 6 * within a * node_count a.flow.net ≡ 3 * within a * node_count a.flow.net + 3 * within a * node_count a.flow.net = omega arith in
    let small = surplus_small a.flow v ok.flow h in
    product_up (at_node a.prices v) (pos weight_limit -ℤ surplus_at a.flow v) (omega (arith, ints, high, top, twice)) (omega (arith, ints, small))
    (omega (arith, ints, small))

potential_floor : (a : Refinement) → IsRefinement a → pos 0 ≤ℤ (potential a.flow a.prices +ℤ pos depth)
potential_floor a ok =
    let s = a.flow in
    let n = node_count s.net in
    let limit = ok.flow.of_net.nodes in
    let floor = (cost_up_to s.net.arcs s.amounts net_total_limit ok.flow.of_net.total ok.flow.within_bounds).0 in
    let least = mul-mono_left (neg_ℤ (pos net_total_limit)) (cost s.net.arcs s.amounts) (pos (n + 1)) (omega (arith, ints)) floor in
    let prices = node_sum_up (weighed s a.prices) (2 * 10 ^ 56) n (λ v h. weighed_up a v ok h) in
    omega (arith, ints, least, prices, limit)

-- ---- the measure

abbrev pub height : Refinement → ℕ
height a = nat_abs (potential a.flow a.prices +ℤ pos depth)

pub push_falls : (a b : Refinement) (r : Rid) → IsRefinement a → IsPush a b r → height b < height a
push_falls a b r ok step =
    let part = share (surplus_at a.flow (tail a.flow.net r)) (room_of a.flow r) step.active.surplus step.admissible.room.room in
    let x = int_min (surplus_at a.flow (tail a.flow.net r)) (room_of a.flow r) in
    let c : Refinement = record a { flow = pushed a.flow r x; steps = record a.steps { pushes = suc a.steps.pushes } } in
    let after = pushed_keeps a r x c.steps ok step.admissible part.low part.first part.second in
    let change = pushed_potential a.flow a.prices r.arc r.back x ok.flow step.admissible.room.arc part.low part.second in
    let less = mul_below_zero (reduced a r) x step.admissible.negative part.some in
    let floor = potential_floor c after in
    subst (λ (z : Refinement). height z < height a) (sym step.pushes)
    (nat_abs_falls (potential c.flow c.prices +ℤ pos depth) (potential a.flow a.prices +ℤ pos depth) floor (omega (arith, ints, change, less)))

pub relabel_falls : (a b : Refinement) (v : ℕ) (rise : ℤ) → IsRefinement a → IsRelabel a b v rise → height b < height a
relabel_falls a b v rise ok step =
    let c : Refinement = record a { prices = set a.prices (v - 1) (at_node a.prices v +ℤ rise); steps = record a.steps { relabels = suc a.steps.relabels } } in
    let most = rise_high a b v rise step in
    let some = within_some a in
    let node = step.active.node in
    let small = surplus_small a.flow v ok.flow node in
    let after = raised_keeps a v rise c.steps ok step.active (omega (arith, ints, most)) step.least in
    let change = raised_weighed a.flow a.prices v rise ok.count node in
    let more = mul_above_zero (pos weight_limit -ℤ surplus_at a.flow v) rise (omega (arith, ints, small)) (omega (arith, ints, most, some)) in
    let floor = potential_floor c after in
    subst (λ (z : Refinement). height z < height a) (sym step.raises)
    (nat_abs_falls (potential c.flow c.prices +ℤ pos depth) (potential a.flow a.prices +ℤ pos depth) floor (omega (arith, ints, change, more)))

pub phases_end_lem : PhasesEnd
phases_end_lem = (height, push_falls, relabel_falls)
