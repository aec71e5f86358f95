-- Laws of the sums over nodes, and what the nets of all nodes sum to.
use Rattle.std.proofs.Common.{◌≡◌, ◌≢◌, ℕ, zero, suc, ◌+◌, ◌-◌, ◌<◌, eqb, Bool, true, false, List, [], ◌∷◌, add-one, get_or, refl, ap, sym, ◌∙◌, arith, ℤ, pos}
use Rattle.std.proofs.Common.{◌+ℤ◌, ◌-ℤ◌, ◌≤ℤ◌, ◌<ℤ◌, neg_ℤ, inl, inr}
use Rattle.std.specs.List.{All}
use Rattle.std.proofs.Math.IntN.{◌*ℤ◌}
use Rattle.std.proofs.lemmas.Int.{ints}
use Rattle.std.proofs.lemmas.Bool.{eq-eqb, ne_eqb, cases_eq}
use Rattle.mcf_flows.specs.declared.arc.Arc.{Arc}
use Rattle.mcf_flows.specs.Blocking.{in_table}
use Rattle.mcf_flows.specs.Network.{IsNode, at_node, flow_sum, node_sum, when}
use Rattle.mcf_flows.specs.Flow.{net, outflow, inflow}
use Rattle.mcf_flows.specs.WellFormed.{HasEnds}
use Rattle.mcf_flows.proofs.IntLaws.{mul-add, mul-sub, sub-mul, mul-zero}
use Rattle.mcf_flows.proofs.ArcSums.{flow_sum-sub, flow_sum-same, flow_sum-zero}

pub node_sum-add : (s t : ℕ → ℤ) (n : ℕ) → node_sum (λ v. s v +ℤ t v) n ≡ node_sum s n +ℤ node_sum t n
node_sum-add s t zero = refl
node_sum-add s t (suc n) = omega (arith, ints, node_sum-add s t n)

pub node_sum-sub : (s t : ℕ → ℤ) (n : ℕ) → node_sum (λ v. s v -ℤ t v) n ≡ node_sum s n -ℤ node_sum t n
node_sum-sub s t zero = refl
node_sum-sub s t (suc n) = omega (arith, ints, node_sum-sub s t n)

pub node_sum-mul : (k : ℤ) (t : ℕ → ℤ) (n : ℕ) → node_sum (λ v. k *ℤ t v) n ≡ k *ℤ node_sum t n
node_sum-mul k t zero = sym (mul-zero k)
node_sum-mul k t (suc n) =
    ap (λ z. z +ℤ k *ℤ t (suc n)) (node_sum-mul k t n) ∙ sym (mul-add k (node_sum t n) (t (suc n)))

-- terms that agree at each node
pub node_sum-same : (s t : ℕ → ℤ) (n : ℕ) → ((v : ℕ) → IsNode n v → s v ≡ t v) → node_sum s n ≡ node_sum t n
node_sum-same s t zero e = refl
node_sum-same s t (suc n) e =
    omega (arith, ints, e (suc n) (omega arith), node_sum-same s t n (λ v h. e v (omega arith)))

-- terms in order at each node
pub node_sum-le : (s t : ℕ → ℤ) (n : ℕ) → ((v : ℕ) → IsNode n v → s v ≤ℤ t v) → node_sum s n ≤ℤ node_sum t n
node_sum-le s t zero e = omega (arith, ints)
node_sum-le s t (suc n) e =
    omega (arith, ints, e (suc n) (omega arith), node_sum-le s t n (λ v h. e v (omega arith)))

pub node_sum-zero : (n : ℕ) → node_sum (λ v. pos 0) n ≡ pos 0
node_sum-zero zero = refl
node_sum-zero (suc n) = omega (arith, ints, node_sum-zero n)

-- a sum of terms not below 0 is not below 0, and above it where one of them is
pub node_sum_at_least_zero : (t : ℕ → ℤ) (n : ℕ) → ((v : ℕ) → IsNode n v → pos 0 ≤ℤ t v) → pos 0 ≤ℤ node_sum t n
node_sum_at_least_zero t n e =
    omega (arith, ints, node_sum-le (λ v. pos 0) t n e, node_sum-zero n)

pub node_sum_above_zero : (t : ℕ → ℤ) (n u : ℕ) → IsNode n u → pos 0 <ℤ t u → ((v : ℕ) → IsNode n v → pos 0 ≤ℤ t v) → pos 0 <ℤ node_sum t n
node_sum_above_zero t zero u h k e = absurd (omega arith)
node_sum_above_zero t (suc n) u h k e =
    elim (cases_eq u (suc n)) [
      | inl same ↦ omega (arith, ints, k, ap t same, node_sum_at_least_zero t n (λ v q. e v (omega arith)))
      | inr other ↦ omega (arith, ints, e (suc n) (omega arith), node_sum_above_zero t n u (omega arith) k (λ v q. e v (omega arith)))
    ]

-- one node more, as a loop takes it
pub node_sum_next : (t : ℕ → ℤ) (n : ℕ) → node_sum t (n + 1) ≡ node_sum t n +ℤ t (n + 1)
node_sum_next t n = rw add-one refl

-- one node more of the supplies of a table's set, as a loop reads them
pub supply_next : (supplies : List ℤ) (table : List Bool) (n : ℕ) → node_sum (λ v. when (in_table table v) (at_node supplies v)) (n + 1) ≡ node_sum
    (λ v. when (in_table table v) (at_node supplies v)) n +ℤ when (get_or table n false) (get_or supplies n (pos 0))
supply_next supplies table n =
    let back : n + 1 - 1 ≡ n = omega arith in
    node_sum_next (λ v. when (in_table table v) (at_node supplies v)) n
    ∙ ap (λ i. node_sum (λ v. when (in_table table v) (at_node supplies v)) n +ℤ when (get_or table i false) (get_or supplies i (pos 0))) back

-- the sum of a weight at one node
node_sum_past : (w : ℕ → ℤ) (s : ℕ) (f : ℤ) (n : ℕ) → n < s → node_sum (λ v. w v *ℤ when (eqb s v) f) n ≡ pos 0
node_sum_past w s f zero h = refl
node_sum_past w s f (suc n) h =
    let ne : s ≢ suc n = omega arith in
    rw (ne_eqb s (suc n) ne) (omega (arith, ints, mul-zero (w (suc n)), node_sum_past w s f n (omega arith)))

pub node_sum-at : (w : ℕ → ℤ) (s : ℕ) (f : ℤ) (n : ℕ) → IsNode n s → node_sum (λ v. w v *ℤ when (eqb s v) f) n ≡ w s *ℤ f
node_sum-at w s f zero h = absurd (omega arith)
node_sum-at w s f (suc n) h =
    elim (cases_eq s (suc n)) [
      | inl e ↦ rw (eq-eqb s (suc n) e) (omega (arith, ints, node_sum_past w s f n (omega arith), ap (λ v. w v *ℤ f) e))
      | inr ne ↦ rw (ne_eqb s (suc n) ne) (omega (arith, ints, mul-zero (w (suc n)), node_sum-at w s f n (omega arith)))
    ]

-- 1 in the set, otherwise 0
abbrev pub indicator : (ℕ → Bool) → ℕ → ℤ
indicator set v = when (set v) (pos 1)

-- a term over a set, as a term weighed by the indicator
pub when-indicator : (t : Bool) (z : ℤ) → when t z ≡ when t (pos 1) *ℤ z
when-indicator true z = omega (arith, ints)
when-indicator false z = omega (arith, ints)

-- a term turned
pub when-neg : (t : Bool) (f : ℤ) → when t (neg_ℤ f) ≡ neg_ℤ (when t f)
when-neg true f = refl
when-neg false f = refl

-- the sum over a set of a term that stands at one node alone
pub node_sum-in : (set : ℕ → Bool) (s : ℕ) (f : ℤ) (n : ℕ) → IsNode n s → node_sum (λ v. when (set v) (when (eqb s v) f)) n ≡ when (set s) f
node_sum-in set s f n h =
    node_sum-same (λ v. when (set v) (when (eqb s v) f)) (λ v. indicator set v *ℤ when (eqb s v) f) n (λ v q. when-indicator (set v) (when (eqb s v) f))
    ∙ node_sum-at (indicator set) s f n h
    ∙ sym (when-indicator (set s) f)

-- sums over nodes and over arcs exchanged
pub node_sum-flow_sum : (w : ℕ → ℤ) (t : ℕ → Arc → ℤ → ℤ) (n : ℕ) (arcs : List Arc) (flow : List ℤ)
    → node_sum (λ v. w v *ℤ flow_sum (t v) arcs flow) n ≡ flow_sum (λ a f. node_sum (λ v. w v *ℤ t v a f) n) arcs flow
node_sum-flow_sum w t n [] flow = node_sum-same _ _ n (λ v h. mul-zero (w v)) ∙ node_sum-zero n
node_sum-flow_sum w t n (a ∷ arcs) [] = node_sum-same _ _ n (λ v h. mul-zero (w v)) ∙ node_sum-zero n
node_sum-flow_sum w t n (a ∷ arcs) (f ∷ flow) =
    node_sum-same _ _ n (λ v h. mul-add (w v) (t v a f) (flow_sum (t v) arcs flow)) ∙ node_sum-add (λ v. w v *ℤ t v a f)
    (λ v. w v *ℤ flow_sum (t v) arcs flow) n ∙ ap (λ z. node_sum (λ v. w v *ℤ t v a f) n +ℤ z) (node_sum-flow_sum w t n arcs flow)

-- the nets of all nodes, weighed: each arc takes the weights of its two ends
pub node_sum-net : (w : ℕ → ℤ) (n : ℕ) (arcs : List Arc) (flow : List ℤ) → All (HasEnds n) arcs
    → node_sum (λ v. w v *ℤ net arcs flow v) n ≡ flow_sum (λ a f. (w a.src -ℤ w a.dst) *ℤ f) arcs flow
node_sum-net w n arcs flow ends =
    node_sum-same _ _ n (λ v h. mul-sub (w v) (outflow arcs flow v) (inflow arcs flow v))
    ∙ node_sum-sub (λ v. w v *ℤ outflow arcs flow v) (λ v. w v *ℤ inflow arcs flow v) n
    ∙ ap (λ z. z -ℤ node_sum (λ v. w v *ℤ inflow arcs flow v) n) (node_sum-flow_sum w (λ v a f. when (eqb a.src v) f) n arcs flow)
    ∙ ap (λ z. flow_sum (λ a f. node_sum (λ v. w v *ℤ when (eqb a.src v) f) n) arcs flow -ℤ z) (node_sum-flow_sum w (λ v a f. when (eqb a.dst v) f) n arcs flow)
    ∙ sym (flow_sum-sub (λ a f. node_sum (λ v. w v *ℤ when (eqb a.src v) f) n) (λ a f. node_sum (λ v. w v *ℤ when (eqb a.dst v) f) n) arcs flow)
    ∙ flow_sum-same (HasEnds n) _ _ at_ends arcs flow ends
  where
    at_ends : (a : Arc) (f : ℤ) → HasEnds n a → node_sum (λ v. w v *ℤ when (eqb a.src v) f) n -ℤ node_sum (λ v. w v *ℤ when (eqb a.dst v) f) n ≡
        (w a.src -ℤ w a.dst) *ℤ f
    at_ends a f h = rw (node_sum-at w a.src f n h.src_is_node, node_sum-at w a.dst f n h.dst_is_node) (sym (sub-mul (w a.src) (w a.dst) f))

-- the nets of all nodes sum to 0
pub nets_cancel : (n : ℕ) (arcs : List Arc) (flow : List ℤ) → All (HasEnds n) arcs → node_sum (net arcs flow) n ≡ pos 0
nets_cancel n arcs flow ends =
    node_sum-same (net arcs flow) (λ v. pos 1 *ℤ net arcs flow v) n (λ v h. omega (arith, ints))
    ∙ node_sum-net (λ v. pos 1) n arcs flow ends
    ∙ flow_sum-same (HasEnds n) (λ a f. (pos 1 -ℤ pos 1) *ℤ f) (λ a f. pos 0) (λ a f h. omega (arith, ints)) arcs flow ends
    ∙ flow_sum-zero arcs flow
