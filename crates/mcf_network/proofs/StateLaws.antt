-- What a push does to a state, and bounds of surpluses.
use Rattle.std.proofs.Common.{◌≡◌, ◌≢◌, ℕ, zero, suc, ◌-◌, ◌*◌, ◌^◌, ◌<◌, Bool, true, false, eqb, cond, List, [], ◌∷◌, length, set, get_or, replicate, refl, ap}
use Rattle.std.proofs.Common.{sym, ◌∙◌, arith, subst, ℤ, pos, ◌+ℤ◌, ◌-ℤ◌, neg_ℤ, ◌≤ℤ◌, ◌⊎◌, inl, inr, to_z, of_z, w64}
use Rattle.std.specs.List.{All}
use Rattle.std.proofs.Math.Seq.{take-length}
use mir.Syntax.{w128}
use Rattle.std.proofs.lemmas.Int.{ints}
use Rattle.std.proofs.lemmas.Bool.{cases_eq, eq-eqb, ne_eqb}
use Rattle.std.proofs.lemmas.List.{get_or-set_other, get_or_read}
use Rattle.std.proofs.lemmas.List.Elements.{All-head, All-tail}
use Rattle.std.proofs.lemmas.Grind.{get_or-set_at}
use Rattle.mcf_flows.specs.declared.arc.Arc.{Arc}
use Rattle.mcf_flows.specs.Flow.{CanCarry, IsWithinBounds, net}
use Rattle.mcf_flows.specs.Network.{Network, IsArcNumber, IsNode, at_node, flow_sum, node_count, when}
use Rattle.mcf_flows.specs.WellFormed.{IsUpTo}
use Rattle.mcf_flows.proofs.AllZips.{AllZip-set, AllZip-with}
use Rattle.mcf_flows.proofs.ArcSums.{flow_sum-set}
use Rattle.mcf_flows.proofs.Bounds.{flow_sum_up_to, when_up_to}
use Rattle.mcf_flows.proofs.NodeSums.{when-neg}
use Rattle.mcf_network.specs.declared.rid.Rid.{Rid}
use Rattle.mcf_network.specs.Nets.{IsNet, IsNetArc, surplus_limit, width_limit}
use Rattle.mcf_network.specs.Private.StoredAmounts.{HaveWidthsUpTo}
use Rattle.mcf_network.specs.Residual.{no_arc, arc_at, tail, head}
use Rattle.mcf_network.specs.States.{Pseudoflow, IsPseudoflow, KeepsSurplus, amount_at, pushed, room_of, surplus_at}
use Rattle.mcf_network.proofs.ArcLaws.{amount_count, amount_of, net_arc_at, read_amount, read_room, supply_at}

abbrev pub rid : ℕ → Bool → Rid
rid k b = record { arc = k; back = b }

pub when-same : (i v : ℕ) (x : ℤ) → v ≡ i → when (eqb i v) x ≡ x
when-same i v x e = rw (eq-eqb i v (sym e)) refl

pub when-other : (i v : ℕ) (x : ℤ) → v ≢ i → when (eqb i v) x ≡ pos 0
when-other i v x n = rw (ne_eqb i v (λ e. n (sym e))) refl

pub when-add : (b : Bool) (x y : ℤ) → when b (x +ℤ y) ≡ when b x +ℤ when b y
when-add true x y = refl
when-add false x y = refl

pub when-sub : (b : Bool) (x y : ℤ) → when b (x -ℤ y) ≡ when b x -ℤ when b y
when-sub true x y = refl
when-sub false x y = refl

pub when-zero : (b : Bool) → when b (pos 0) ≡ pos 0
when-zero true = refl
when-zero false = refl

-- a read after a write
pub read_written : (xs : List ℤ) (i v : ℕ) (a d : ℤ) → i < length xs → ((v ≡ i) × (get_or (set xs i a) v d ≡ a))
    ⊎ ((v ≢ i) × (get_or (set xs i a) v d ≡ get_or xs v d))
read_written xs i v a d l =
    elim (cases_eq v i) [
      | inl e ↦ inl (e, get_or-set_at xs i v a d e l)
      | inr n ↦ inr (n, get_or-set_other xs i v a d n)
    ]

-- ---- amounts

-- an amount from 0 to the width instead of that of an arc
pub set_ok : (s : Pseudoflow) (k : ℕ) (y : ℤ) → IsPseudoflow s → IsArcNumber s.net k → pos 0 ≤ℤ y → y ≤ℤ (arc_at s.net k).cap
    → IsPseudoflow (record s { amounts = set s.amounts (k - 1) y })
set_ok s k y ok h low high =
    let none = (net_arc_at s.net k ok.of_net h).no_low in
    record {
      of_net = ok.of_net;
      within_bounds = AllZip-set CanCarry s.net.arcs s.amounts (k - 1) no_arc y (omega arith) ok.within_bounds (omega (arith, ints, none, low), high);
    }

pub pushed_ok : (s : Pseudoflow) (k : ℕ) (b : Bool) (x : ℤ) → IsPseudoflow s → IsArcNumber s.net k → pos 0 ≤ℤ x → x ≤ℤ room_of s (rid k b)
    → IsPseudoflow (pushed s (rid k b) x)
pushed_ok s k true x ok h low high =
    let a = amount_of s k ok h in
    let u = a.high in
    set_ok s k _ ok h (omega (arith, ints, high)) (omega (arith, ints, low, u))
pushed_ok s k false x ok h low high =
    let a = amount_of s k ok h in
    let l = a.low in
    set_ok s k _ ok h (omega (arith, ints, low, l)) (omega (arith, ints, high))

-- the net of a node after one amount changed by x
net_changed : (s : Pseudoflow) (k : ℕ) (x : ℤ) (v : ℕ) → IsPseudoflow s → IsArcNumber s.net k
    → net s.net.arcs (set s.amounts (k - 1) (amount_at s k +ℤ x)) v ≡ net s.net.arcs s.amounts v +ℤ when (eqb (arc_at s.net k).src v) x -ℤ when
    (eqb (arc_at s.net k).dst v) x
net_changed s k x v ok h =
    let here : k - 1 < length s.net.arcs = omega arith in
    let there : k - 1 < length s.amounts = omega (arith, here, amount_count s ok) in
    let out = flow_sum-set (λ a f. when (eqb a.src v) f) s.net.arcs s.amounts (k - 1) (amount_at s k +ℤ x) no_arc (pos 0) here there in
    let into = flow_sum-set (λ a f. when (eqb a.dst v) f) s.net.arcs s.amounts (k - 1) (amount_at s k +ℤ x) no_arc (pos 0) here there in
    omega (arith, ints, out, into, when-add (eqb (arc_at s.net k).src v) (amount_at s k) x, when-add (eqb (arc_at s.net k).dst v) (amount_at s k) x)

-- the surplus moves from the tail to the head
pub pushed_surplus : (s : Pseudoflow) (k : ℕ) (b : Bool) (x : ℤ) → IsPseudoflow s → IsArcNumber s.net k → (v : ℕ)
    → surplus_at (pushed s (rid k b) x) v ≡ surplus_at s v -ℤ when (eqb (tail s.net (rid k b)) v) x +ℤ when (eqb (head s.net (rid k b)) v) x
pushed_surplus s k true x ok h v =
    let e = net_changed s k (neg_ℤ x) v ok h in
    omega (arith, ints, e, when-neg (eqb (arc_at s.net k).src v) x, when-neg (eqb (arc_at s.net k).dst v) x)
pushed_surplus s k false x ok h v = let e = net_changed s k x v ok h in omega (arith, ints, e)

-- an arc of a net with an amount that it may carry
abbrev Placed : Arc → ℤ → Type 0
Placed a f = IsNetArc a × CanCarry a f

placed_up_to : (b : Bool) (a : Arc) (f : ℤ) → Placed a f → IsUpTo width_limit (when b f)
placed_up_to b a f h =
    let none = h.0.no_low in
    let wide = h.0.width_high in
    when_up_to b width_limit f (omega (arith, ints, none, wide, h.1))

-- the net of a node is small
net_small : (s : Pseudoflow) (v : ℕ) → IsPseudoflow s → IsUpTo (4 * 10 ^ 25) (net s.net.arcs s.amounts v)
net_small s v ok =
    let all = AllZip-with CanCarry IsNetArc s.net.arcs s.amounts ok.of_net.each_arc ok.within_bounds in
    let out = rw (take-length s.net.arcs) at (flow_sum_up_to Placed (λ a f. when (eqb a.src v) f) width_limit
    (λ a f. placed_up_to (eqb a.src v) a f) s.net.arcs s.amounts (length s.net.arcs) all) in
    let into = rw (take-length s.net.arcs) at (flow_sum_up_to Placed (λ a f. when (eqb a.dst v) f) width_limit
    (λ a f. placed_up_to (eqb a.dst v) a f) s.net.arcs s.amounts (length s.net.arcs) all) in
    let count = ok.of_net.arcs in
    omega (arith, ints, out, into, count)

pub surplus_small : (s : Pseudoflow) (v : ℕ) → IsPseudoflow s → IsNode (node_count s.net) v → IsUpTo surplus_limit (surplus_at s v)
surplus_small s v ok h =
    omega (arith, ints, net_small s v ok, supply_at s.net v ok.of_net h)

pub kept_small : (s : Pseudoflow) (kept : List ℤ) (v : ℕ) → KeepsSurplus s kept → IsNode (length kept) v → IsUpTo surplus_limit (at_node kept v)
kept_small s kept v ok h =
    let l : IsNode (node_count s.net) v = omega (arith, ok.count) in
    rw (ok.each v l) (surplus_small s v ok.flow l)

-- the kept surpluses after a push
pub keeps_pushed : (s : Pseudoflow) (kept kept' : List ℤ) (r : Rid) (x : ℤ) (from to : ℕ) → KeepsSurplus s kept → IsArcNumber s.net r.arc → pos 0 ≤ℤ x
    → x ≤ℤ room_of s r → from ≡ tail s.net r → to ≡ head s.net r → length kept' ≡ length kept
    → ((v : ℕ) → IsNode (length kept) v → at_node kept' v ≡ at_node kept v -ℤ when (eqb from v) x +ℤ when (eqb to v) x) → KeepsSurplus (pushed s r x) kept'
keeps_pushed s kept kept' r x from to ok h low high ef et n each =
    record {
      flow = pushed_ok s r.arc r.back x ok.flow h low high;
      count = n ∙ ok.count;
      each = λ v l.
          each v (omega (arith, ok.count)) ∙ (rw (ok.each v l, ef, et) (sym (pushed_surplus s r.arc r.back x ok.flow h v)));
    }

-- ---- the state without any flow

flow_sum-zeros : (t : Arc → ℤ → ℤ) → ((a : Arc) → t a (pos 0) ≡ pos 0) → (arcs : List Arc) (n : ℕ) → flow_sum t arcs (replicate n (pos 0)) ≡ pos 0
flow_sum-zeros t z [] n = refl
flow_sum-zeros t z (a ∷ arcs) zero = refl
flow_sum-zeros t z (a ∷ arcs) (suc n) = rw (z a, flow_sum-zeros t z arcs n) refl

zeros_within : (arcs : List Arc) → All IsNetArc arcs → IsWithinBounds arcs (replicate (length arcs) (pos 0))
zeros_within [] h = tt
zeros_within (a ∷ arcs) h =
    let here = All-head IsNetArc a arcs h in
    let none = here.no_low in
    let wide = here.width_low in
    ((omega (arith, ints, none), wide), zeros_within arcs (All-tail IsNetArc a arcs h))

-- without any flow each surplus is the supply
pub zero_keeps : (g : Network) → IsNet g → KeepsSurplus (record { net = g; amounts = replicate (length g.arcs) (pos 0) }) g.supplies
zero_keeps g ok =
    record {
      flow = record { of_net = ok; within_bounds = zeros_within g.arcs ok.each_arc };
      count = refl;
      each = λ v h.
          let out = flow_sum-zeros (λ a f. when (eqb a.src v) f) (λ a. when-zero (eqb a.src v)) g.arcs (length g.arcs) in
          let into = flow_sum-zeros (λ a f. when (eqb a.dst v) f) (λ a. when-zero (eqb a.dst v)) g.arcs (length g.arcs) in
          omega (arith, ints, out, into);
    }

-- ---- what the code of a push does

-- the new amount, as the code gives it
pub changed_is : (b : Bool) (y a x : ℤ) → pos 0 ≤ℤ a → a ≤ℤ pos width_limit → pos 0 ≤ℤ x → x ≤ℤ pos width_limit
    → y ≡ cond b (to_z w64 (of_z w64 a) -ℤ to_z w128 (of_z w128 x)) (to_z w64 (of_z w64 a) +ℤ to_z w128 (of_z w128 x))
    → to_z w64 (of_z w64 y) ≡ cond b (a -ℤ x) (a +ℤ x)
changed_is true y a x al ah xl xh e = omega (arith, ints)
changed_is false y a x al ah xl xh e = omega (arith, ints)

-- what a push makes of a state
pub record IsPushStep (s : Pseudoflow) (r : Rid) (x : ℤ) (after : Pseudoflow) (kept : List ℤ) : Type 0 where
  pub keeps : KeepsSurplus after kept
  pub is : after ≡ pushed s r x
  pub moves : (v : ℕ) → surplus_at after v ≡ surplus_at s v -ℤ when (eqb (tail s.net r) v) x +ℤ when (eqb (head s.net r) v) x

module _ (g : Network) (amounts kept kept' : List ℤ) (r : Rid) (x a y : ℤ) (i from to : ℕ) where
  push_step_at : KeepsSurplus (record { net = g; amounts = amounts }) kept → i ≡ r.arc - 1 → IsArcNumber g r.arc → pos 0 ≤ℤ x
      → x ≤ℤ room_of (record { net = g; amounts = amounts }) r → a ≡ get_or amounts i (pos 0) → y ≡ cond r.back (a -ℤ x) (a +ℤ x) → from ≡ tail g r
      → to ≡ head g r → length kept' ≡ length kept → ((v : ℕ) → IsNode (length kept) v → at_node kept' v ≡ at_node kept v -ℤ when (eqb from v) x +ℤ when
      (eqb to v) x) → IsPushStep (record { net = g; amounts = amounts }) r x (record { net = g; amounts = set amounts i y }) kept'
  push_step_at ok ei h low high ea ey ef et n each =
      let s : Pseudoflow = record { net = g; amounts = amounts } in
      let is_a : a ≡ amount_at s r.arc = rw (← ei) ea in
      let is : record { net = g; amounts = set amounts i y } ≡ pushed s r x = rw (ei, ey, is_a) refl in
      record {
        keeps = subst (λ (t : Pseudoflow). KeepsSurplus t kept') (sym is) (keeps_pushed s kept kept' r x from to ok h low high ef et n each);
        is = is;
        moves = λ v. ap (λ (t : Pseudoflow). surplus_at t v) is ∙ pushed_surplus s r.arc r.back x ok.flow h v;
      }

  pub push_step : (s : Pseudoflow) → record { net = g; amounts = amounts } ≡ s → KeepsSurplus (record { net = g; amounts = amounts }) kept → i ≡ r.arc - 1
      → IsArcNumber s.net r.arc → pos 0 ≤ℤ x → x ≤ℤ room_of s r → a ≡ get_or amounts i (pos 0) → y ≡ cond r.back (a -ℤ x) (a +ℤ x) → from ≡ tail g r
      → to ≡ head g r → length kept' ≡ length kept → ((v : ℕ) → IsNode (length kept) v → at_node kept' v ≡ at_node kept v -ℤ when (eqb from v) x +ℤ when
      (eqb to v) x) → IsPushStep s r x (record { net = g; amounts = set amounts i y }) kept'
  push_step s view ok ei h low high ea ey ef et n each =
      subst (λ (t : Pseudoflow). IsPushStep t r x (record { net = g; amounts = set amounts i y }) kept') view
      (push_step_at ok ei (subst (λ (t : Pseudoflow). IsArcNumber t.net r.arc) (sym view) h) low
      (subst (λ (t : Pseudoflow). x ≤ℤ room_of t r) (sym view) high) ea ey ef et n each)

-- the step of a push, by what its calls read and wrote
pub push_made : (s : Pseudoflow) (g : Network) (amounts amounts' kept kept' : List ℤ) (r : Rid) (x a w : ℤ) (i from to : ℕ)
    → record { net = g; amounts = amounts } ≡ s → KeepsSurplus (record { net = g; amounts = amounts }) kept → i ≡ r.arc - 1 → IsArcNumber s.net r.arc
    → pos 0 ≤ℤ x → x ≤ℤ room_of s r → to_z w128 (of_z w128 x) ≡ x → a ≡ get_or amounts i (pos 0)
    → w ≡ cond r.back (to_z w64 (of_z w64 a) -ℤ to_z w128 (of_z w128 x)) (to_z w64 (of_z w64 a) +ℤ to_z w128 (of_z w128 x))
    → amounts' ≡ set amounts i (to_z w64 (of_z w64 w)) → from ≡ tail g r → to ≡ head g r → length kept' ≡ length kept
    → ((v : ℕ) → IsNode (length kept) v → at_node kept' v ≡ at_node kept v -ℤ when (eqb from v) (to_z w128 (of_z w128 x))
    +ℤ when (eqb to v) (to_z w128 (of_z w128 x)))
    → IsPushStep s r x (record { net = g; amounts = amounts' }) kept'
push_made s g amounts amounts' kept kept' r x a w i from to view ok ei h low high same ea ew es ef et n each =
    let read = read_amount s g amounts r.arc a view ok.flow h (rw ei at ea) in
    let room = read_room s g amounts r view ok.flow h in
    let written : to_z w64 (of_z w64 w) ≡ cond r.back (a -ℤ x) (a +ℤ x) =
    changed_is r.back w a x read.low (omega (arith, ints, read.high, read.width)) low (omega (arith, ints, high, room.high)) ew in
    subst (λ (after : List ℤ). IsPushStep s r x (record { net = g; amounts = after }) kept') (sym es)
    (push_step g amounts kept kept' r x a (to_z w64 (of_z w64 w)) i from to s view ok ei h low high ea written ef et n (λ v q. rw same at (each v q)))

-- the amount after a push is from 0 to the limit of the widths
pub record IsUpToLimit (limit : ℕ) (w : ℤ) : Type 0 where
  pub low : pos 0 ≤ℤ w
  pub high : w ≤ℤ pos limit

within_width : (b : Bool) (a x w cap : ℤ) (limit : ℕ) → pos 0 ≤ℤ a → a ≤ℤ cap → cap ≤ℤ pos limit → pos 0 ≤ℤ x → x ≤ℤ cond b a (cap -ℤ a)
    → w ≡ cond b (a -ℤ x) (a +ℤ x) → IsUpToLimit limit w
within_width true a x w cap limit al ah fits xl xh e = record { low = omega (arith, ints, xh, e); high = omega (arith, ints, ah, fits, xl, e) }
within_width false a x w cap limit al ah fits xl xh e = record { low = omega (arith, ints, al, xl, e); high = omega (arith, ints, fits, xh, e) }

pub push_fits : (s : Pseudoflow) (g : Network) (amounts : List ℤ) (limit : ℕ) (r : Rid) (x a w : ℤ) (i : ℕ) → record { net = g; amounts = amounts } ≡ s
    → IsPseudoflow (record { net = g; amounts = amounts }) → HaveWidthsUpTo limit g.arcs → i ≡ r.arc - 1 → IsArcNumber s.net r.arc → pos 0 ≤ℤ x
    → x ≤ℤ room_of s r → a ≡ get_or amounts i (pos 0)
    → w ≡ cond r.back (to_z w64 (of_z w64 a) -ℤ to_z w128 (of_z w128 x)) (to_z w64 (of_z w64 a) +ℤ to_z w128 (of_z w128 x))
    → IsUpToLimit limit (to_z w64 (of_z w64 w))
push_fits s g amounts limit r x a w i view ok fit ei h low high ea ew =
    let read = read_amount s g amounts r.arc a view ok h (rw ei at ea) in
    let room = read_room s g amounts r view ok h in
    let here : IsArcNumber g r.arc = subst (λ (t : Pseudoflow). IsArcNumber t.net r.arc) (sym view) h in
    let fits : (arc_at g r.arc).cap ≤ℤ pos limit = fit (r.arc - 1) no_arc (omega (arith, here)) in
    let written : to_z w64 (of_z w64 w) ≡ cond r.back (a -ℤ x) (a +ℤ x) =
    changed_is r.back w a x read.low (omega (arith, ints, read.high, read.width)) low (omega (arith, ints, high, room.high)) ew in
    within_width r.back a x (to_z w64 (of_z w64 w)) (arc_at s.net r.arc).cap limit read.low read.high (rw (← read.same_width) fits) low (rw read.is high) written

-- a kept surplus, as a read gives it
pub record IsReadSurplus (s : Pseudoflow) (v : ℕ) (x : ℤ) : Type 0 where
  pub is : x ≡ surplus_at s v
  pub small : IsUpTo surplus_limit x
  pub flow : IsPseudoflow s

pub read_surplus : (s : Pseudoflow) (g : Network) (amounts kept : List ℤ) (v : ℕ) (x : ℤ) → record { net = g; amounts = amounts } ≡ s
    → KeepsSurplus (record { net = g; amounts = amounts }) kept → IsNode (node_count s.net) v → x ≡ get_or kept (v - 1) x → IsReadSurplus s v x
read_surplus s g amounts kept v x view ok h e =
    let t : Pseudoflow = record { net = g; amounts = amounts } in
    let here : IsNode (node_count g) v = subst (λ (t : Pseudoflow). IsNode (node_count t.net) v) (sym view) h in
    let is : x ≡ surplus_at t v = get_or_read kept (v - 1) x (omega (arith, here, ok.count)) e (pos 0) ∙ ok.each v here in
    subst (λ (t : Pseudoflow). IsReadSurplus t v x) view (record {
      is = is;
      small = rw is (surplus_small t v ok.flow here);
      flow = ok.flow;
    })
