-- What an amount that went round the cycle of a pivot leaves each arc, and what it changes of the
-- sums: no surplus, and the cost by the reduced cost of the arc that enters.
use Rattle.std.proofs.Common.{◌≡◌, ◌≢◌, ℕ, zero, suc, ◌+◌, ◌-◌, ◌<◌, ◌≤◌, Bool, true, false, not, eqb, cond, List, [], ◌∷◌, length, get_or, set, refl, sym, ap}
use Rattle.std.proofs.Common.{◌∙◌, arith, inl, inr, ℤ, pos, ◌+ℤ◌, ◌-ℤ◌, ◌≤ℤ◌, neg_ℤ, ◌++◌, ◌⊎◌, subst, ◌<ℤ◌}
use Rattle.std.specs.Prelude.{if◌then◌else◌, int_lt}
use Rattle.std.specs.List.{All}
use Rattle.std.proofs.Math.IntN.{◌*ℤ◌, *ℤ_comm}
use Rattle.std.proofs.lemmas.Bool.{cases_eq, cond-true, cond-false, eq-eqb, ne_eqb}
use Rattle.std.proofs.lemmas.Bool.Decides.{nat_tests}
use Rattle.std.proofs.lemmas.Int.{ints}
use Rattle.std.proofs.lemmas.List.{length-set}
use Rattle.std.proofs.lemmas.List.Elements.{All-head, All-tail, All-weaker}
use Rattle.mcf_flows.specs.Flow.{cost, net}
use Rattle.mcf_flows.specs.Network.{Network, IsNode, node_count, when, IsArcNumber}
use Rattle.mcf_flows.proofs.ArcSums.{flow_sum-set}
use Rattle.mcf_flows.proofs.IntLaws.{mul-add, mul-sub, neg-mul, add-mul, zero-mul}
use Rattle.mcf_flows.proofs.NodeSums.{when-neg}
use Rattle.mcf_tree.specs.Rooted.{climb}
use Rattle.mcf_tree.proofs.Paths.{above_root}
use Rattle.mcf_network.specs.declared.rid.Rid.{Rid}
use Rattle.mcf_network.specs.Residual.{arc_at, head, tail, no_arc, unit_cost}
use Rattle.mcf_network.specs.States.{Pseudoflow, amount_at, pushed, HasNoSurplus, surplus_at}
use Rattle.mcf_network.specs.Walks.{pushed_along, IsWalk, walk_cost}
use Rattle.mcf_network.proofs.StateLaws.{read_written, rid, when-other, when-same, when-add}
use Rattle.mcf_network.proofs.WalkLaws.{along_net}
use Rattle.mcf_tree.specs.SpanningTree.{depth_of, label_of, parent_of}
use Rattle.mcf_basis.specs.Artificial.{IsLabel, with_artificial}
use Rattle.mcf_basis.specs.Bases.{IsBasis}
use Rattle.mcf_basis.specs.Pivots.{entering, IsEligible, full_cost}
use Rattle.mcf_basis.specs.Structures.{TreeStructure, carried, cycle_of, full_state, Joins, down_path, leaving, price_at, reduced_at, up_path}
use Rattle.mcf_basis.specs.Structures.Joins.{out_of, into}
use Rattle.mcf_basis.proofs.Around.{IsAround, WentRound, arcs_of, round_amount, side_end, side_steps, side_node, from_of, to_of}
use Rattle.mcf_basis.proofs.CyclePlaces.{OnCycle, each_place, on_cycle}
use Rattle.mcf_basis.proofs.Labels.{own_label, joins_back}
use Rattle.mcf_basis.proofs.Pushes.{Leaves, each_side}
use Rattle.mcf_basis.proofs.StrongPivot.{IsStep, labels_apart, same_node, step_at}

-- ---- pushes along a list of residual arcs, by labels

-- what x along a residual arc adds to the amount of its arc
abbrev pub along : ℤ → Rid → ℤ
along x r = cond r.back (neg_ℤ x) x

-- and to that of the arc of a label
abbrev pub added_to : ℕ → ℤ → Rid → ℤ
added_to label x r = when (eqb r.arc label) (along x r)

abbrev pub gained : ℕ → ℤ → List Rid → ℤ
gained label x [] = pos 0
gained label x (r ∷ rest) = added_to label x r +ℤ gained label x rest

-- there is an amount for it
abbrev pub HasEntry : List ℤ → Rid → Type 0
HasEntry amounts r = (1 ≤ r.arc) × (r.arc ≤ length amounts)

one_set : (xs : List ℤ) (k label : ℕ) (y gain : ℤ) → 1 ≤ k → k ≤ length xs → 0 < label → y ≡ get_or xs (k - 1) (pos 0) +ℤ gain →
    get_or (set xs (k - 1) y) (label - 1) (pos 0) ≡ get_or xs (label - 1) (pos 0) +ℤ when (eqb k label) gain
one_set xs k label y gain low high h is =
    elim (read_written xs (k - 1) (label - 1) y (pos 0) (omega arith)) [
      | inl (e, w) ↦ (let old = ap (λ i. get_or xs i (pos 0)) e in
          omega (arith, ints, w, old, when-same k label gain (omega arith), is))
      | inr (n, w) ↦ (let none = when-other k label gain (λ e. n (ap (λ i. i - 1) e)) in omega (arith, ints, w, none))
    ]

one_push : (s : Pseudoflow) (k : ℕ) (b : Bool) (x : ℤ) (label : ℕ) → 1 ≤ k → k ≤ length s.amounts → 0 < label →
    amount_at (pushed s (rid k b) x) label ≡ amount_at s label +ℤ added_to label x (rid k b)
one_push s k true x label low high h = one_set s.amounts k label (amount_at s k -ℤ x) (neg_ℤ x) low high h (omega (arith, ints))
one_push s k false x label low high h = one_set s.amounts k label (amount_at s k +ℤ x) x low high h refl

pub pushed_count : (s : Pseudoflow) (r : Rid) (x : ℤ) → length (pushed s r x).amounts ≡ length s.amounts
pushed_count s r x = length-set s.amounts (r.arc - 1) (cond r.back (amount_at s r.arc -ℤ x) (amount_at s r.arc +ℤ x))

pub along_count : (s : Pseudoflow) (walk : List Rid) (x : ℤ) → length (pushed_along s walk x).amounts ≡ length s.amounts
along_count s [] x = refl
along_count s (r ∷ rest) x = along_count (pushed s r x) rest x ∙ pushed_count s r x

along_amount : (s : Pseudoflow) (walk : List Rid) (x : ℤ) (label : ℕ) → All (HasEntry s.amounts) walk → 0 < label →
    amount_at (pushed_along s walk x) label ≡ amount_at s label +ℤ gained label x walk
along_amount s [] x label all h = omega (arith, ints)
along_amount s (r ∷ rest) x label all h =
    let here : HasEntry s.amounts r = All-head (HasEntry s.amounts) r rest all in
    let count : length (pushed s r x).amounts ≡ length s.amounts = pushed_count s r x in
    let others : All (HasEntry (pushed s r x).amounts) rest =
    All-weaker (HasEntry s.amounts) (HasEntry (pushed s r x).amounts) (λ q e. (e.0, rw count e.1)) rest (All-tail (HasEntry s.amounts) r rest all) in
    omega (arith, ints, one_push s r.arc r.back x label here.0 here.1 h, along_amount (pushed s r x) rest x label others h)

-- an arc that isn't that of the label gains it nothing, and one that alone is gains it all
gained_none : (label : ℕ) (x : ℤ) (walk : List Rid) → All (λ r. label ≢ r.arc) walk → gained label x walk ≡ pos 0
gained_none label x [] off = refl
gained_none label x (r ∷ rest) off =
    let first = when-other r.arc label (along x r) (All-head (λ (q : Rid). label ≢ q.arc) r rest off) in
    let more = gained_none label x rest (All-tail (λ (q : Rid). label ≢ q.arc) r rest off) in
    omega (arith, ints, first, more)

gained_one : (label : ℕ) (x : ℤ) (walk : List Rid) (i : ℕ) (d : Rid) → i < length walk
    → ((j : ℕ) (e : Rid) → j < length walk → j ≢ i → label ≢ (get_or walk j e).arc) → gained label x walk ≡ added_to label x (get_or walk i d)
gained_one label x [] i d h off = absurd (omega arith)
gained_one label x (r ∷ rest) zero d h off =
    omega (arith, ints, gained_none label x rest (λ j e l. off (suc j) e (omega arith) (λ q. omega arith)))
gained_one label x (r ∷ rest) (suc i) d h off =
    let more = gained_one label x rest i d (omega arith) (λ j e l n. off (suc j) e (omega arith) (λ q. n (omega arith))) in
    omega (arith, ints, when-other r.arc label (along x r) (off 0 r (omega arith) (λ q. omega arith)), more)

-- ---- which way x goes

leaves_from : (g : Network) {old new : ℕ → ℤ} {label v : ℕ} {x : ℤ} →
    new label ≡ old label +ℤ cond (not (eqb (arc_at (with_artificial g) label).src v)) (neg_ℤ x) x → Leaves (arcs_of g) old new label v x
leaves_from g {label} {v} e = record {
  forward = λ t. rw (eq-eqb (arc_at (with_artificial g) label).src v t) at e;
  backward = λ n. (let goes = rw (ne_eqb (arc_at (with_artificial g) label).src v n) at e in omega (arith, ints, goes));
}

-- from the tail of a residual arc whose ends are apart
leaves_tail : (g : Network) (old new : ℕ → ℤ) (k : ℕ) (b : Bool) (x : ℤ) → tail (with_artificial g) (rid k b) ≢ head (with_artificial g) (rid k b) →
    new k ≡ old k +ℤ cond b (neg_ℤ x) x → Leaves (arcs_of g) old new k (tail (with_artificial g) (rid k b)) x
leaves_tail g old new k true x apart e = record {
  forward = λ t. absurd (apart (sym t));
  backward = λ n. omega (arith, ints, e);
}
leaves_tail g old new k false x apart e = record {
  forward = λ t. e;
  backward = λ n. absurd (n refl);
}

-- ---- the cycle

-- nodes at different places of a path are different
steps_apart : (ps : List ℕ) (d : ℕ → ℕ) (v p q : ℕ) → IsStep ps d v p → IsStep ps d v q → p ≢ q → climb ps p v ≢ climb ps q v
steps_apart ps d v p q one two n e = n (omega (arith, one.deep, two.deep, ap d e))

module _ (b : TreeStructure) (ok : IsBasis b) where
  -- a node of the tree other than the root is one of the net
  pub node_of : (v : ℕ) → 0 < v → v < length b.tree.parents → IsNode (node_count b.net) v
  node_of v p h = let size : length b.tree.parents ≡ node_count b.net + 1 = ok.size in (omega arith, omega arith)

-- what an arc carries afterwards, by its label
pub round_at : (b : TreeStructure) (k apex : ℕ) (x : ℤ) (label : ℕ) → 0 < label →
    round_amount b k apex x label ≡ amount_at (pushed_along (full_state b) (cycle_of b (entering b k) apex) x) label
round_at b k apex x label h = cond-false _ _ _ (ne_eqb label 0 (λ e. omega arith))

module _ {b : TreeStructure} {k apex : ℕ} (around : IsAround b k apex) where
  pub side_step : (side : Bool) (p : ℕ) → p < side_steps b k apex side → IsStep b.tree.parents (depth_of b.tree) (side_end b k side) p
  side_step side p lt =
      step_at around.basis.spanning.rooted (side_end b k side) (side_steps b k apex side) p (around.cycle.in_range side) (around.cycle.short side) lt

  pub side_is_node : (side : Bool) (p : ℕ) → p < side_steps b k apex side → IsNode (node_count b.net) (side_node b k side p)
  side_is_node side p lt = let one = side_step side p lt in node_of b around.basis (side_node b k side p) one.above one.within

  pub cycle_labels : All (λ r. IsLabel b.net r.arc) (cycle_of b (entering b k) apex)
  cycle_labels = each_place b k apex (λ i r. IsLabel b.net r.arc) (record {
    left = λ i p e. (around.basis.tree_arcs (side_node b k true p) (side_is_node true p (omega arith))).label;
    entering = own_label b.net k around.eligible.arc;
    right = λ i p h e. (around.basis.tree_arcs (side_node b k false p) (side_is_node false p h)).label;
  })

  cycle_entries : All (HasEntry b.amounts) (cycle_of b (entering b k) apex)
  cycle_entries = All-weaker (λ r. IsLabel b.net r.arc) (HasEntry b.amounts)
      (λ r h. (h.0, rw around.basis.flow.one_per_label h.1)) (cycle_of b (entering b k) apex) cycle_labels

  labels_differ : (s t : Bool) (p q : ℕ) → p < side_steps b k apex s → q < side_steps b k apex t → side_node b k s p ≢ side_node b k t q
      → label_of b.tree (side_node b k s p) ≢ label_of b.tree (side_node b k t q)
  labels_differ s t p q hp hq =
      let one = side_step s p hp in
      let two = side_step t q hq in
      labels_apart around.tree (side_node b k s p) (side_node b k t q) one.above one.within two.above two.within

  side_differs : (side : Bool) (p q : ℕ) → p < side_steps b k apex side → q < side_steps b k apex side → p ≢ q
      → label_of b.tree (side_node b k side p) ≢ label_of b.tree (side_node b k side q)
  side_differs side p q hp hq n = labels_differ side side p q hp hq
      (steps_apart b.tree.parents (depth_of b.tree) (side_end b k side) p q (side_step side p hp) (side_step side q hq) n)

  sides_differ : (p q : ℕ) → p < side_steps b k apex true → q < side_steps b k apex false
      → label_of b.tree (side_node b k true p) ≢ label_of b.tree (side_node b k false q)
  sides_differ p q hp hq = labels_differ true false p q hp hq (around.sides_apart p q hp hq)

  -- the node of a path that has the label of u is u
  pub step_of : {v p u : ℕ} → IsStep b.tree.parents (depth_of b.tree) v p → IsNode (node_count b.net) u
      → label_of b.tree (climb b.tree.parents p v) ≡ label_of b.tree u → u ≡ climb b.tree.parents p v
  step_of {v} {p} {u} w node e =
      same_node around.tree u (climb b.tree.parents p v)
      (omega (arith, node)) (omega (arith, node, around.basis.size)) w.above w.within (sym e)

  pub side_outside : (side : Bool) (p : ℕ) → p < side_steps b k apex side → label_of b.tree (side_node b k side p) ≢ k
  side_outside side p lt = let one = side_step side p lt in around.cycle.outside (side_node b k side p) one.above one.within

  -- no two arcs of the cycle are the same
  arcs_differ : (i : ℕ) (d : Rid) → i < length (cycle_of b (entering b k) apex) → (j : ℕ) (e : Rid) → j < length (cycle_of b (entering b k) apex) → j ≢ i
      → (get_or (cycle_of b (entering b k) apex) i d).arc ≢ (get_or (cycle_of b (entering b k) apex) j e).arc
  arcs_differ = each_place b k apex
      (λ i r. (j : ℕ) (e : Rid) → j < length (cycle_of b (entering b k) apex) → j ≢ i → r.arc ≢ (get_or (cycle_of b (entering b k) apex) j e).arc) (record {
        left = λ i p h. each_place b k apex (λ j q. j ≢ i → label_of b.tree (side_node b k true p) ≢ q.arc) (record {
          left = λ j q l n. side_differs true p q (omega arith) (omega arith) (λ e. n (omega arith));
          entering = λ n. side_outside true p (omega arith);
          right = λ j q l e n. sides_differ p q (omega arith) l;
        });
        entering = each_place b k apex (λ j q. j ≢ side_steps b k apex true → k ≢ q.arc) (record {
          left = λ j q l n e. side_outside true q (omega arith) (sym e);
          entering = λ n. absurd (n refl);
          right = λ j q l e n s. side_outside false q l (sym s);
        });
        right = λ i p h at. each_place b k apex (λ j q. j ≢ i → label_of b.tree (side_node b k false p) ≢ q.arc) (record {
          left = λ j q l n e. sides_differ q p (omega arith) h (sym e);
          entering = λ n. side_outside false p h;
          right = λ j q l e n. side_differs false p q h l (λ s. n (omega arith));
        });
      })

  module _ (x : ℤ) where
    round_is : (label : ℕ) → 0 < label → round_amount b k apex x label ≡ carried b label +ℤ gained label x (cycle_of b (entering b k) apex)
    round_is label h = round_at b k apex x label h ∙ along_amount (full_state b) (cycle_of b (entering b k) apex) x label cycle_entries h

    -- an arc of the cycle gains what goes along it
    round_each : OnCycle b k apex (λ i r. round_amount b k apex x r.arc ≡ carried b r.arc +ℤ along x r)
    round_each = on_cycle b k apex (λ i r. round_amount b k apex x r.arc ≡ carried b r.arc +ℤ along x r) (λ i d h.
        let r : Rid = get_or (cycle_of b (entering b k) apex) i d in
        let label = cycle_labels i d h in
        round_is r.arc label.0 ∙ ap (λ z. carried b r.arc +ℤ z)
        (gained_one r.arc x (cycle_of b (entering b k) apex) i d h (arcs_differ i d h) ∙ when-same r.arc r.arc (along x r) refl))

    -- and no other arc gains anything
    round_other : (label : ℕ) → label ≢ k → ((side : Bool) (p : ℕ) → p < side_steps b k apex side → label ≢ label_of b.tree (side_node b k side p))
        → round_amount b k apex x label ≡ carried b label
    round_other label enters off =
        elim (cases_eq label 0) [
          | inl e ↦ cond-true _ _ _ (eq-eqb label 0 e)
          | inr n ↦ (let is = round_is label (omega arith) in
              let none = gained_none label x (cycle_of b (entering b k) apex) (each_place b k apex (λ i r. label ≢ r.arc)
              (record { left = λ i p e. off true p (omega arith); entering = enters; right = λ i p h e. off false p h })) in
              omega (arith, ints, is, none))
        ]

    pub went_round : pos 0 ≤ℤ x → WentRound b k apex x
    went_round low = record {
      some = low;
      side = each_side (λ side. (p : ℕ) → p < side_steps b k apex side → Leaves (arcs_of b.net) (carried b) (round_amount b k apex x)
          (label_of b.tree (side_node b k side p)) (if side then parent_of b.tree (side_node b k side p) else side_node b k side p) x)
          (λ p lt. leaves_from b.net (round_each.left (side_steps b k apex true - suc p) p (omega arith)))
          (λ p lt. leaves_from b.net (round_each.right (side_steps b k apex true + (p + 1)) p lt refl));
      entering = leaves_tail b.net (carried b) (round_amount b k apex x) k (entering b k).back x around.cycle.apart round_each.entering;
      others = round_other;
    }

-- ---- pushes along a walk, where there is one amount for each arc

net_changed : (s : Pseudoflow) (k : ℕ) (x : ℤ) (v : ℕ) → length s.amounts ≡ length s.net.arcs → IsArcNumber s.net k →
    net s.net.arcs (set s.amounts (k - 1) (amount_at s k +ℤ x)) v ≡ net s.net.arcs s.amounts v +ℤ when (eqb (arc_at s.net k).src v) x -ℤ when
    (eqb (arc_at s.net k).dst v) x
net_changed s k x v count h =
    let here : k - 1 < length s.net.arcs = omega arith in
    let there : k - 1 < length s.amounts = omega arith in
    let out = flow_sum-set (λ a f. when (eqb a.src v) f) s.net.arcs s.amounts (k - 1) (amount_at s k +ℤ x) no_arc (pos 0) here there in
    let inn = flow_sum-set (λ a f. when (eqb a.dst v) f) s.net.arcs s.amounts (k - 1) (amount_at s k +ℤ x) no_arc (pos 0) here there in
    omega (arith, ints, out, inn, when-add (eqb (arc_at s.net k).src v) (amount_at s k) x, when-add (eqb (arc_at s.net k).dst v) (amount_at s k) x)

one_surplus : (s : Pseudoflow) (k : ℕ) (b : Bool) (x : ℤ) → length s.amounts ≡ length s.net.arcs → IsArcNumber s.net k → (v : ℕ) →
    surplus_at (pushed s (rid k b) x) v ≡ surplus_at s v -ℤ when (eqb (tail s.net (rid k b)) v) x +ℤ when (eqb (head s.net (rid k b)) v) x
one_surplus s k true x count h v =
    let e = net_changed s k (neg_ℤ x) v count h in
    omega (arith, ints, e, when-neg (eqb (arc_at s.net k).src v) x, when-neg (eqb (arc_at s.net k).dst v) x)
one_surplus s k false x count h v = let e = net_changed s k x v count h in omega (arith, ints, e)

-- the surplus moves from the beginning of a walk to its end
moved_along : (s : Pseudoflow) (walk : List Rid) (x : ℤ) (u w : ℕ) → length s.amounts ≡ length s.net.arcs → All (λ r. IsArcNumber s.net r.arc) walk →
    IsWalk s.net u walk w → (v : ℕ) → surplus_at (pushed_along s walk x) v ≡ surplus_at s v -ℤ when (eqb u v) x +ℤ when (eqb w v) x
moved_along s [] x u w count all walk v = omega (arith, ints, ap (λ i. when (eqb i v) x) walk)
moved_along s (r ∷ rest) x u w count all walk v =
    let here : IsArcNumber s.net r.arc = All-head (λ (q : Rid). IsArcNumber s.net q.arc) r rest all in
    let more =
    moved_along (pushed s r x) rest x (head s.net r) w (pushed_count s r x ∙ count) (All-tail (λ (q : Rid). IsArcNumber s.net q.arc) r rest all) walk.1 v in
    omega (arith, ints, one_surplus s r.arc r.back x count here v, more, ap (λ i. when (eqb i v) x) walk.0)

one_cost : (s : Pseudoflow) (k : ℕ) (b : Bool) (x : ℤ) → length s.amounts ≡ length s.net.arcs → IsArcNumber s.net k →
    cost s.net.arcs (pushed s (rid k b) x).amounts ≡ cost s.net.arcs s.amounts +ℤ unit_cost s.net (rid k b) *ℤ x
one_cost s k true x count h =
    let c = (arc_at s.net k).cost in
    let e = flow_sum-set (λ a f. a.cost *ℤ f) s.net.arcs s.amounts (k - 1) (amount_at s k -ℤ x) no_arc (pos 0) (omega arith) (omega arith) in
    omega (arith, ints, e, mul-sub c (amount_at s k) x, neg-mul c x)
one_cost s k false x count h =
    let c = (arc_at s.net k).cost in
    let e = flow_sum-set (λ a f. a.cost *ℤ f) s.net.arcs s.amounts (k - 1) (amount_at s k +ℤ x) no_arc (pos 0) (omega arith) (omega arith) in
    omega (arith, ints, e, mul-add c (amount_at s k) x)

-- the cost changes by that of a unit along the walk, for each unit
paid_along : (s : Pseudoflow) (walk : List Rid) (x : ℤ) → length s.amounts ≡ length s.net.arcs → All (λ r. IsArcNumber s.net r.arc) walk →
    cost s.net.arcs (pushed_along s walk x).amounts ≡ cost s.net.arcs s.amounts +ℤ walk_cost s.net walk *ℤ x
paid_along s [] x count all = omega (arith, ints, zero-mul x)
paid_along s (r ∷ rest) x count all =
    let here : IsArcNumber s.net r.arc = All-head (λ (q : Rid). IsArcNumber s.net q.arc) r rest all in
    let more = paid_along (pushed s r x) rest x (pushed_count s r x ∙ count) (All-tail (λ (q : Rid). IsArcNumber s.net q.arc) r rest all) in
    omega (arith, ints, one_cost s r.arc r.back x count here, more, add-mul (unit_cost s.net r) (walk_cost s.net rest) x)

-- ---- walks in the tree

IsWalk-append : (g : Network) (xs ys : List Rid) (u m w : ℕ) → IsWalk g u xs m → IsWalk g m ys w → IsWalk g u (xs ++ ys) w
IsWalk-append g [] ys u m w one two = subst (λ i. IsWalk g i ys w) (sym one) two
IsWalk-append g (r ∷ xs) ys u m w one two = (one.0, IsWalk-append g xs ys (head g r) m w one.1 two)

walk_cost-append : (g : Network) (xs ys : List Rid) → walk_cost g (xs ++ ys) ≡ walk_cost g xs +ℤ walk_cost g ys
walk_cost-append g [] ys = omega (arith, ints)
walk_cost-append g (r ∷ xs) ys = omega (arith, ints, walk_cost-append g xs ys)

-- over plain nodes: the ends, from u on, of an arc from s to t that joins u and v
ends_from : (s t u v : ℕ) → ((s ≡ u) × (t ≡ v)) ⊎ ((s ≡ v) × (t ≡ u)) → (cond (not (eqb s u)) t s ≡ u) × (cond (not (eqb s u)) s t ≡ v)
ends_from s t u v ends = (grind (arith, nat_tests), grind (arith, nat_tests))

leaving_ends : (g : Network) (label u v : ℕ) → Joins g label u v →
    (tail (with_artificial g) (leaving g label u) ≡ u) × (head (with_artificial g) (leaving g label u) ≡ v)
leaving_ends g label u v (out_of s d) = ends_from _ _ u v (inl (s, d))
leaving_ends g label u v (into s d) = ends_from _ _ u v (inr (s, d))

-- the reduced cost of a residual arc
pub turned_reduced : (b : TreeStructure) (k : ℕ) (back : Bool) →
    unit_cost (with_artificial b.net) (rid k back) -ℤ price_at b (tail (with_artificial b.net) (rid k back)) +ℤ price_at b
    (head (with_artificial b.net) (rid k back)) ≡ cond back (neg_ℤ (reduced_at b k)) (reduced_at b k)
turned_reduced b k true = omega (arith, ints)
turned_reduced b k false = refl

pub none_turned : (b : Bool) (z : ℤ) → z ≡ pos 0 → cond b (neg_ℤ z) z ≡ pos 0
none_turned b z e = grind (arith, ints)

-- a walk whose cost is the fall of the price
record IsPricedWalk (b : TreeStructure) (u : ℕ) (arcs : List Rid) (w : ℕ) : Type 0 where
  pub joined : IsWalk (with_artificial b.net) u arcs w
  pub paid : walk_cost (with_artificial b.net) arcs ≡ price_at b u -ℤ price_at b w

priced_one : (b : TreeStructure) (label u v : ℕ) → Joins b.net label u v → reduced_at b label ≡ pos 0 → IsPricedWalk b u (leaving b.net label u ∷ []) v
priced_one b label u v joins zero_cost =
    let ends = leaving_ends b.net label u v joins in
    let none = none_turned (leaving b.net label u).back (reduced_at b label) zero_cost in
    let from = ap (price_at b) ends.0 in
    let to = ap (price_at b) ends.1 in
    record { joined = ends; paid = omega (arith, ints, turned_reduced b label (leaving b.net label u).back, none, from, to) }

priced_append : {b : TreeStructure} {xs ys : List Rid} {u m w : ℕ} → IsPricedWalk b u xs m → IsPricedWalk b m ys w → IsPricedWalk b u (xs ++ ys) w
priced_append {b} {xs} {ys} {u} {m} {w} one two =
    record {
      joined = IsWalk-append (with_artificial b.net) xs ys u m w one.joined two.joined;
      paid = omega (arith, ints, walk_cost-append (with_artificial b.net) xs ys, one.paid, two.paid);
    }

module _ (b : TreeStructure) (ok : IsBasis b) where
  -- the paths of the tree, up and down
  tree_walks : (k v : ℕ) → v < length b.tree.parents → k ≤ depth_of b.tree v
      → IsPricedWalk b v (up_path b k v) (climb b.tree.parents k v) × IsPricedWalk b (climb b.tree.parents k v) (down_path b k v) v
  tree_walks zero v h le = (record { joined = refl; paid = omega (arith, ints) }, record { joined = refl; paid = omega (arith, ints) })
  tree_walks (suc k) v h le =
      let up : 0 < v = above_root b.tree.parents (depth_of b.tree) ok.spanning.rooted v (omega arith) in
      let p = parent_of b.tree v in
      let f : depth_of b.tree v ≡ depth_of b.tree (parent_of b.tree v) + 1 = ok.spanning.rooted.falls v up h in
      let node : IsNode (node_count b.net) v = node_of b ok v up h in
      let joins = (ok.tree_arcs v node).joins in
      let none = ok.prices.balanced v node in
      let rest = tree_walks k p (ok.spanning.rooted.within v h) (omega arith) in (
        priced_append (priced_one b (label_of b.tree v) v p joins none) rest.0,
        priced_append rest.1 (priced_one b (label_of b.tree v) p v (joins_back b.net (label_of b.tree v) v p joins) none),
      )

-- ---- the cycle

-- the reduced cost of the residual arc that enters
abbrev pub entering_cost : TreeStructure → ℕ → ℤ
entering_cost b k = cond (int_lt (pos 0) (reduced_at b k)) (neg_ℤ (reduced_at b k)) (reduced_at b k)

pub not_turned : (z : ℤ) → z <ℤ pos 0 → int_lt (pos 0) z ≡ false
not_turned z h = grind (arith, ints)

pub is_turned : (z : ℤ) → pos 0 <ℤ z → int_lt (pos 0) z ≡ true
is_turned z h = grind (arith, ints)

pub entering_low : (b : TreeStructure) (k : ℕ) → IsEligible b k → entering_cost b k <ℤ pos 0
entering_low b k el =
    elim el.gains [
      | inl g ↦ rw (not_turned (reduced_at b k) g.1) g.1
      | inr g ↦ rw (is_turned (reduced_at b k) g.1) (let rise = g.1 in omega (arith, ints, rise))
    ]

module _ {b : TreeStructure} {k apex : ℕ} (around : IsAround b k apex) where
  down_side : IsPricedWalk b (side_node b k true (side_steps b k apex true)) (down_path b (side_steps b k apex true) (from_of b k)) (from_of b k)
  down_side = (tree_walks b around.basis (side_steps b k apex true) (from_of b k) (around.cycle.in_range true) (around.cycle.short true)).1

  up_side : IsPricedWalk b (to_of b k) (up_path b (side_steps b k apex false) (to_of b k)) (side_node b k false (side_steps b k apex false))
  up_side = (tree_walks b around.basis (side_steps b k apex false) (to_of b k) (around.cycle.in_range false) (around.cycle.short false)).0

  closed_walk : IsWalk (with_artificial b.net) (side_node b k true (side_steps b k apex true)) (cycle_of b (entering b k) apex)
      (side_node b k false (side_steps b k apex false))
  closed_walk = IsWalk-append (with_artificial b.net) (down_path b (side_steps b k apex true) (from_of b k)) _ _ _ _ down_side.joined (refl, up_side.joined)

  cycle_cost : walk_cost (with_artificial b.net) (cycle_of b (entering b k) apex) ≡ entering_cost b k
  cycle_cost =
      let split = walk_cost-append (with_artificial b.net) (down_path b (side_steps b k apex true) (from_of b k))
      (entering b k ∷ up_path b (side_steps b k apex false) (to_of b k)) in
      let same = ap (price_at b) around.cycle.closed in
      omega (arith, ints, split, down_side.paid, up_side.paid, turned_reduced b k (entering b k).back, same)

  -- nodes have no surplus afterwards either
  pub round_surplus : (x : ℤ) → HasNoSurplus (pushed_along (full_state b) (cycle_of b (entering b k) apex) x)
  round_surplus x v h =
      let node = subst (λ g. IsNode (node_count g) v) (along_net (full_state b) (cycle_of b (entering b k) apex) x) h in
      let moves = moved_along (full_state b) (cycle_of b (entering b k) apex) x _ _ around.basis.flow.one_per_label (cycle_labels around) closed_walk v in
      omega (arith, ints, moves, around.basis.flow.no_surplus v node, ap (λ u. when (eqb u v) x) around.cycle.closed)

  -- the cost changes by the reduced cost of the residual arc that enters, for each unit
  pub round_cost : (x : ℤ) →
      cost (with_artificial b.net).arcs (pushed_along (full_state b) (cycle_of b (entering b k) apex) x).amounts ≡ full_cost b +ℤ x *ℤ entering_cost b k
  round_cost x =
      paid_along (full_state b) (cycle_of b (entering b k) apex) x around.basis.flow.one_per_label (cycle_labels around)
      ∙ ap (λ z. full_cost b +ℤ z) (ap (λ z. z *ℤ x) cycle_cost ∙ *ℤ_comm (entering_cost b k) x)

-- there is an amount for each label
pub round_count : (b : TreeStructure) (k apex : ℕ) (x : ℤ) → IsBasis b →
    length (pushed_along (full_state b) (cycle_of b (entering b k) apex) x).amounts ≡ length (with_artificial b.net).arcs
round_count b k apex x ok = along_count (full_state b) (cycle_of b (entering b k) apex) x ∙ ok.flow.one_per_label
