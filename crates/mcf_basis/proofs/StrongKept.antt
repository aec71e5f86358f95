-- A pivot keeps a basis strongly feasible.
use Rattle.std.proofs.Common.{◌≡◌, ◌≢◌, ℕ, zero, ◌+◌, ◌-◌, ◌<◌, ◌≤◌, ◌&&◌, ◌⊎◌, inl, inr, Bool, true, false, not, eqb, cond, List, length, Some, None, sym, ap}
use Rattle.std.proofs.Common.{◌∙◌, subst, arith, refl, ℤ, pos, ◌+ℤ◌, ◌≤ℤ◌}
use Rattle.std.specs.Prelude.{nat_le, slice_index_or, int_lt, if◌then◌else◌}
use Rattle.std.proofs.lemmas.Bool.{and_from, and_parts, cases_Bool, cases_lt, eq-eqb, eqb-true, le-leb, leb-true, ne_eqb, true≢false}
use Rattle.std.proofs.lemmas.Bool.Decides.{nat_tests}
use Rattle.std.proofs.lemmas.Int.{ints}
use Rattle.std.proofs.lemmas.List.{get_or_past}
use Rattle.mcf_flows.specs.Network.{Network, IsNode, node_count}
use Rattle.mcf_tree.specs.Rooted.{climb, IsOnPath}
use Rattle.mcf_network.specs.declared.rid.Rid.{Rid}
use Rattle.mcf_network.specs.Residual.{arc_at, head, tail}
use Rattle.mcf_tree.specs.SpanningTree.{IsSpanning, depth_of, label_of, size_of}
use Rattle.mcf_basis.specs.Artificial.{IsLabel, with_artificial}
use Rattle.mcf_basis.specs.Bases.{CanHold, HasTreeArc, IsBasis, IsStronglyFeasible}
use Rattle.mcf_basis.specs.Pivots.{IsExchanged, IsMended, IsPivot, entering}
use Rattle.mcf_basis.specs.Pivots.IsMended.{kept, exchanged}
use Rattle.mcf_basis.specs.Structures.{TreeStructure, CanTake, carried, leaving, reduced_at}
use Rattle.mcf_basis.proofs.Around.{IsAround, IsLeaving, WentRound, arcs_of, from_of, round_amount, to_of, up_arc, side_steps, side_node, around, below_apex}
use Rattle.mcf_basis.proofs.Around.{CanGoRight}
use Rattle.mcf_basis.proofs.Around.IsLeaving.{right, enter, left}
use Rattle.mcf_basis.proofs.CyclePlaces.{last_at, up_all, up_at}
use Rattle.mcf_basis.proofs.Labels.{own_label}
use Rattle.mcf_basis.proofs.LastBases.{zero_or_more}
use Rattle.mcf_basis.proofs.Pushed.{cycle_labels, round_at, step_of, side_step, side_outside}
use Rattle.mcf_basis.proofs.Pushes.{CanLeave, CanLeave-same, HasRoomUp, IsWithin}
use Rattle.mcf_basis.proofs.StrongPivot.{step_at, strong_entering, strong_left, strong_right}

-- ---- a residual arc can take, and its arc can leave

-- at most the cap of an arc of the net
within_limit : (g : Network) (label : ℕ) (x : ℤ) → (1 ≤ label → label ≤ length g.arcs → x ≤ℤ (arc_at g label).cap) → IsWithin ((arcs_of g).limit label) x
within_limit g label x h = by_test (nat_le 1 label && nat_le label (length g.arcs)) (λ e.
    let both = and_parts (nat_le 1 label) (nat_le label (length g.arcs)) e in
    h (leb-true 1 label both.0) (leb-true label (length g.arcs) both.1))
  where
    by_test : (test : Bool) → (test ≡ true → x ≤ℤ (arc_at g label).cap) → IsWithin (if test then Some (arc_at g label).cap else None) x
    by_test true h = h refl
    by_test false h = tt

limit_within : (test : Bool) (cap x : ℤ) → test ≡ true → IsWithin (if test then Some cap else None) x → x ≤ℤ cap
limit_within true cap x e h = h
limit_within false cap x e h = absurd (true≢false (sym e))

back_of : (g : Network) (label v : ℕ) → (leaving g label v).back ≡ false → (arc_at (with_artificial g) label).src ≡ v
back_of g label v e = elim (cases_Bool (eqb (arc_at (with_artificial g) label).src v)) [
  | inl t ↦ eqb-true (arc_at (with_artificial g) label).src v t
  | inr f ↦ absurd (true≢false (sym (ap not f) ∙ e))
]

pub leave_of_take : {b : TreeStructure} {label v : ℕ} {x : ℤ} → CanTake b (leaving b.net label v) x → CanLeave (arcs_of b.net) (carried b) label v x
leave_of_take {b} {label} {x} can = record {
  forward = λ t. within_limit b.net label (carried b label +ℤ x) (λ low high. can.forward (ap not (eq-eqb _ _ t)) high);
  backward = λ ne. can.backward (ap not (ne_eqb _ _ ne));
}

pub take_of_leave : (b : TreeStructure) (label v : ℕ) (x : ℤ) → 1 ≤ label → CanLeave (arcs_of b.net) (carried b) label v x → CanTake b (leaving b.net label v) x
take_of_leave b label v x low can = record {
  forward = λ e h. limit_within (nat_le 1 label && nat_le label (length b.net.arcs)) (arc_at b.net label).cap (carried b label +ℤ x)
      (and_from (nat_le 1 label) (nat_le label (length b.net.arcs)) (le-leb 1 label low) (le-leb label (length b.net.arcs) h))
      (can.forward (back_of b.net label v e));
  backward = λ e. can.backward (λ t. true≢false (sym e ∙ ap not (eq-eqb _ _ t)));
}

entering_by_ends : (g : Network) (k : ℕ) (back : Bool)
    → tail (with_artificial g) (record { arc = k; back = back }) ≢ head (with_artificial g) (record { arc = k; back = back })
    → (let r : Rid = record { arc = k; back = back } in r ≡ leaving g k (tail (with_artificial g) r))
entering_by_ends g k back apart =
    ap (λ (t : Bool). record { arc = k; back = t }) (turned (arc_at (with_artificial g) k).src (arc_at (with_artificial g) k).dst back apart)
  where
    turned : (s d : ℕ) (back : Bool) → cond back d s ≢ cond back s d → back ≡ not (eqb s (cond back d s))
    turned s d back apart = grind (arith, nat_tests)

-- the entering residual arc leaves the end that it leaves
pub entering_leaves : (b : TreeStructure) (k : ℕ) → from_of b k ≢ to_of b k → entering b k ≡ leaving b.net k (from_of b k)
entering_leaves b k apart = entering_by_ends b.net k (int_lt (pos 0) (reduced_at b k)) apart

-- ---- amounts of all labels

-- no amount is above the limit of its label, or below 0
pub fits : (b : TreeStructure) → IsBasis b → (label : ℕ) → IsWithin ((arcs_of b.net).limit label) (carried b label)
fits b ok label =
    within_limit b.net label (carried b label) (λ low high. (ok.flow.within_bounds label (own_label b.net label (low, high))).high high)

pub not_below : (b : TreeStructure) → IsBasis b → (label : ℕ) → pos 0 ≤ℤ carried b label
not_below b ok label =
    elim (cases_lt (label - 1) (length b.amounts)) [
      | inl within ↦ (let held : CanHold b.net (label - 1 + 1) (carried b (label - 1 + 1)) = ok.flow.within_bounds (label - 1 + 1)
          (omega arith, omega (arith, ok.flow.one_per_label, within)) in
          let place : label - 1 + 1 - 1 ≡ label - 1 = omega arith in
          subst (λ i. pos 0 ≤ℤ slice_index_or b.amounts i (pos 0)) place held.low)
      | inr past ↦ (let none = get_or_past b.amounts (label - 1) (pos 0) past in omega (arith, ints, none))
    ]

-- ---- whole paths and single arcs

-- one more can go up from each node
pub strong_up : (b : TreeStructure) → IsBasis b → (v : ℕ) → 0 < v → v < length b.tree.parents → CanTake b (up_arc b v) (pos 1)
strong_up b ok v p h =
    up_at b (λ r. CanTake b r (pos 1)) (depth_of b.tree v) v (ok.strong v (p, omega (arith, h, ok.size))) zero (omega (arith, ok.spanning.rooted.falls v p h))

pub room_of_strong : (b : TreeStructure) → IsBasis b → HasRoomUp (arcs_of b.net) b.tree.parents b.tree.labels (carried b)
room_of_strong b ok = record { room = λ v p h. leave_of_take (strong_up b ok v p h) }

pub strong_of_room : (b : TreeStructure) (g : Network) (amount : ℕ → ℤ) → IsSpanning b.tree → size_of b.tree ≡ node_count b.net + 1
    → ((v : ℕ) → IsNode (node_count b.net) v → HasTreeArc b v) → b.net ≡ g → ((label : ℕ) → 0 < label → carried b label ≡ amount label)
    → HasRoomUp (arcs_of g) b.tree.parents b.tree.labels amount → IsStronglyFeasible b
strong_of_room b g amount spanning size joined same reads up v h =
    up_all b (λ r. CanTake b r (pos 1)) (depth_of b.tree v) v (λ p l.
    let w = step_at spanning.rooted v (depth_of b.tree v) p (omega (arith, h, size)) (omega arith) l in
    each (climb b.tree.parents p v) w.above w.within)
  where
    each : (u : ℕ) → 0 < u → u < length b.tree.parents → CanTake b (up_arc b u) (pos 1)
    each = λ u p l.
        let arc : HasTreeArc b u = joined u (omega arith, omega (arith, size, l)) in
        take_of_leave b (label_of b.tree u) u (pos 1) (arc.label).0
        (CanLeave-same (reads (label_of b.tree u) (arc.label).0)
        (subst (λ n. CanLeave (arcs_of n) amount (label_of b.tree u) u (pos 1)) (sym same) (up.room u p l)))

-- ---- the three cases

module _ {old : TreeStructure} {k apex : ℕ} {moved : ℤ} (is_around : IsAround old k apex) (went : WentRound old k apex moved) where
  -- each arc of the tree has room up afterwards
  abbrev HasRoom : List ℕ → List ℕ → Type 0
  HasRoom ps ls = HasRoomUp (arcs_of old.net) ps ls (round_amount old k apex moved)

  enter_room : CanTake old (entering old k) (moved +ℤ pos 1)
      → CanLeave (arcs_of old.net) (carried old) k (from_of old k) (moved +ℤ pos 1)
  enter_room can =
      leave_of_take (subst (λ r. CanTake old r (moved +ℤ pos 1)) (entering_leaves old k is_around.cycle.apart) can)

  -- what blocks on the right had room for 1, so something moves
  some_moves : (m : ℕ) → m < side_steps old k apex false → ¬ CanTake old (up_arc old (side_node old k false m)) (moved +ℤ pos 1) → pos 1 ≤ℤ moved
  some_moves m h full = elim (zero_or_more moved went.some) [
    | inl none ↦ absurd (let w = side_step is_around false m h in
        full (rw none (strong_up old is_around.basis (side_node old k false m) w.above w.within)))
    | inr some ↦ omega (arith, ints, some)
  ]

  -- the tree stays
  pub stays : CanGoRight old k apex (moved +ℤ pos 1) → HasRoom old.tree.parents old.tree.labels
  stays free =
      strong_entering is_around.tree is_around.cycle went (fits old is_around.basis) (not_below old is_around.basis) (room_of_strong old is_around.basis)
      (λ p l. leave_of_take (free p l))

  module _ (out inner outer : ℕ) (new : TreeStructure) (x : IsExchanged old (entering old k) out inner outer new) where
    exchanged_room : (q : Rid) → q.arc ≡ label_of old.tree out → IsLeaving old k apex moved q → HasRoom new.tree.parents new.tree.labels
    exchanged_room q named (right m h is full free) =
        let at_out : out ≡ side_node old k false m = step_of is_around (side_step is_around false m h) x.is_node
        (sym (ap (λ r. r.arc) is) ∙ named) in
        elim x.ends [
          | inl e ↦ absurd (below_apex is_around.basis.spanning.rooted (is_around.cycle.in_range false) h at_out
              (subst (λ v. IsOnPath old.tree.parents v out) e.0 x.inside) (λ y p q. is_around.is_apex.deepest y q p))
          | inr e ↦ strong_right is_around.tree is_around.cycle went (fits old is_around.basis) (not_below old is_around.basis)
              (room_of_strong old is_around.basis) m new.tree.parents new.tree.labels h
              (rw (at_out, e.0, e.1) at x.swapped.parents) (rw (at_out, e.0) at x.swapped.labels)
              (some_moves m h (subst (λ r. ¬ CanTake old r (moved +ℤ pos 1)) is full)) (λ p l u. leave_of_take (free p l u))
        ]
    exchanged_room q named (enter is full free) =
        absurd (is_around.eligible.outside (record { node = out; is_node = x.is_node; labelled = sym named ∙ ap (λ r. r.arc) is }))
    exchanged_room q named (left m h is full free first above) =
        let at_out : out ≡ side_node old k true m = step_of is_around (side_step is_around true m h) x.is_node
        (sym (ap (λ r. r.arc) is) ∙ named) in
        elim x.ends [
          | inl e ↦ strong_left is_around.tree is_around.cycle went (fits old is_around.basis) (not_below old is_around.basis)
              (room_of_strong old is_around.basis) m new.tree.parents new.tree.labels h
              (rw (at_out, e.0, e.1) at x.swapped.parents) (rw (at_out, e.0) at x.swapped.labels)
              (λ p l. leave_of_take (free p l)) (enter_room first) (λ p l. leave_of_take (above p l))
          | inr e ↦ absurd (below_apex is_around.basis.spanning.rooted (is_around.cycle.in_range true) h at_out
              (subst (λ v. IsOnPath old.tree.parents v out) e.0 x.inside) is_around.is_apex.deepest)
        ]

  -- where the entering arc leaves at once, no arc on the right blocks
  kept_room : (q : Rid) → q ≡ entering old k → IsLeaving old k apex moved q → CanGoRight old k apex (moved +ℤ pos 1)
  kept_room q same (right m h is full free) p l =
      absurd (side_outside is_around false m h (sym (ap (λ (r : Rid). r.arc) is) ∙ ap (λ (r : Rid). r.arc) same))
  kept_room q same (enter is full free) p l = free p l
  kept_room q same (left m h is full free first above) p l = above p l

  mended_room : (new : TreeStructure) (q : Rid) → IsLeaving old k apex moved q → IsMended old (entering old k) q new → HasRoom new.tree.parents new.tree.labels
  mended_room new q leaves (kept same stay) =
      subst (λ t. HasRoom t.parents t.labels) (sym stay.tree) (stays (kept_room q same leaves))
  mended_room new q leaves (exchanged out inner outer named x) = exchanged_room out inner outer new x q named leaves

-- what an arc carries after a pivot
pub pivoted_amount : (old new : TreeStructure) (k : ℕ) (moved : ℤ) (pivot : IsPivot old k moved new) (label : ℕ) → 0 < label
    → carried new label ≡ round_amount old k pivot.apex moved label
pivoted_amount old new k moved pivot label h =
    ap (λ xs. slice_index_or xs (label - 1) (pos 0)) pivot.amounts ∙ sym (round_at old k pivot.apex moved label h)

pub strong_kept : (old new : TreeStructure) (k : ℕ) (moved : ℤ) (pivot : IsPivot old k moved new) → IsSpanning new.tree
    → size_of new.tree ≡ node_count new.net + 1 → ((v : ℕ) → IsNode (node_count new.net) v → HasTreeArc new v)
    → IsAround old k pivot.apex → IsLeaving old k pivot.apex moved pivot.leaves → WentRound old k pivot.apex moved → IsStronglyFeasible new
strong_kept old new k moved pivot spanning size joined is_around leaves went =
    strong_of_room new old.net (round_amount old k pivot.apex moved) spanning size joined pivot.net
    (pivoted_amount old new k moved pivot)
    (mended_room is_around went new pivot.leaves leaves pivot.mended)

-- ---- no less than nothing moves

can_none : (b : TreeStructure) (r : Rid) (x : ℤ) → IsBasis b → IsLabel b.net r.arc → x ≤ℤ pos 0 → CanTake b r x
can_none b r x ok label none = record {
  forward = λ e h. (let high : carried b r.arc ≤ℤ (arc_at b.net r.arc).cap = (ok.flow.within_bounds r.arc label).high h in
      omega (arith, ints, high, none));
  backward = λ e. (let low : pos 0 ≤ℤ carried b r.arc = not_below b ok r.arc in omega (arith, ints, low, none));
}

low_or_below : (x : ℤ) → (pos 0 ≤ℤ x) ⊎ ((x +ℤ pos 1) ≤ℤ pos 0)
low_or_below x = grind (arith, ints, inl, inr)

-- what a pivot moves is at least 0, since an arc blocks
pub moved_low : (old new : TreeStructure) (k : ℕ) (moved : ℤ) → IsBasis old → IsPivot old k moved new → pos 0 ≤ℤ moved
moved_low old new k moved ok pivot = elim (low_or_below moved) [
  | inl low ↦ low
  | inr below ↦ absurd (let is_around : IsAround old k pivot.apex = around old k pivot.apex ok pivot.eligible pivot.is_apex in
      let last = last_at old k pivot.apex moved pivot.leaves pivot.last_blocking in
      pivot.last_blocking.full (can_none old pivot.leaves (moved +ℤ pos 1) ok
      (subst (λ q. IsLabel old.net q.arc) last.is (cycle_labels is_around last.place pivot.leaves last.inside)) below))
]
