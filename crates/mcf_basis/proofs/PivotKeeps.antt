-- A pivot keeps a basis a basis, and lowers the pair of cost and prices. Its amounts are within
-- their bounds, and at a bound outside the new tree.
use Rattle.std.proofs.Common.{◌≡◌, length, List, refl, sym, ap, ◌∙◌, subst, ℕ, ℤ, ◌≢◌, ◌<◌, ◌≤◌, ◌⊎◌, inl, inr, true, false, not, arith, pos, ◌+ℤ◌, ◌≤ℤ◌, Bool}
use Rattle.std.proofs.Common.{◌-ℤ◌, ◌<ℤ◌}
use Rattle.std.specs.Prelude.{int_lt}
use Rattle.std.proofs.Math.IntN.{◌*ℤ◌, *ℤ_comm}
use Rattle.std.proofs.lemmas.Bool.{both_ways, cases_eq, eq-eqb, ne_eqb, false_from_ne_true}
use Rattle.std.proofs.lemmas.Int.{ints}
use Rattle.mcf_flows.specs.Flow.{cost}
use Rattle.mcf_flows.specs.Network.{Network, IsNode, node_count, node_sum, when}
use Rattle.mcf_flows.proofs.IntLaws.{mul_below_zero, zero-mul}
use Rattle.mcf_flows.proofs.NodeSums.{node_sum-sub, node_sum_above_zero}
use Rattle.mcf_tree.specs.Rooted.{climb}
use Rattle.mcf_network.specs.declared.rid.Rid.{Rid}
use Rattle.mcf_network.specs.Nets.{IsNet}
use Rattle.mcf_network.specs.Residual.{arc_at, head, tail, unit_cost}
use Rattle.mcf_network.specs.States.{Pseudoflow, HasNoSurplus}
use Rattle.mcf_network.specs.Walks.{pushed_along}
use Rattle.mcf_network.proofs.WalkLaws.{along_net}
use Rattle.mcf_tree.specs.SpanningTree.{IsSpanning, label_of, depth_of}
use Rattle.mcf_tree.specs.Subtree.{is_above}
use Rattle.mcf_tree.proofs.Moved.{over-from_path, path-from_over}
use Rattle.mcf_basis.specs.Artificial.{with_artificial, IsLabel}
use Rattle.mcf_basis.specs.Bases.{IsBasis, IsFullFlow, CanHold, IsAtBound}
use Rattle.mcf_basis.specs.Laws.{PivotsKeepBases, PivotsLowerThePair}
use Rattle.mcf_basis.specs.Pivots.{IsPivot, entering, IsEligible, IsExchanged, IsMended, PairFalls, full_cost, price_sum}
use Rattle.mcf_basis.specs.Pivots.IsMended.{kept, exchanged}
use Rattle.mcf_basis.specs.Structures.{TreeStructure, cycle_of, full_state, CanTake, IsInTree, carried, leaving, price_at, reduced_at}
use Rattle.mcf_basis.proofs.Around.{CanGoRound, IsAround, IsLeaving, WentRound, arcs_of, from_of, round_amount, side_steps, side_node, around, to_of}
use Rattle.mcf_basis.proofs.Around.{HasTwoEnds, two_ends}
use Rattle.mcf_basis.proofs.Around.IsLeaving.{right, enter, left}
use Rattle.mcf_basis.proofs.CyclePlaces.{leaving_of_last}
use Rattle.mcf_basis.proofs.LastBases.{zero_or_more}
use Rattle.mcf_basis.proofs.PricesTurned.{new_prices, new_size, new_tree_arcs, new_tree}
use Rattle.mcf_basis.proofs.Pushed.{went_round, side_is_node, round_count, round_surplus, step_of, side_step, side_outside, entering_cost, entering_low}
use Rattle.mcf_basis.proofs.Pushed.{none_turned, round_cost, turned_reduced}
use Rattle.mcf_basis.proofs.Pushes.{Leaves, cases_sides}
use Rattle.mcf_basis.proofs.StrongKept.{moved_low, strong_kept, entering_leaves, pivoted_amount, strong_up}
use Rattle.mcf_basis.proofs.TreePrices.{in_tree}

-- one residual arc along which x went
module _ (b : TreeStructure) (label v : ℕ) (x : ℤ) (new : ℕ → ℤ)
    (went : Leaves (arcs_of b.net) (carried b) new label v x) (can : CanTake b (leaving b.net label v) x)
    (some : pos 0 ≤ℤ x) where
  pub pushed_hold : CanHold b.net label (carried b label) → CanHold b.net label (new label)
  pushed_hold old =
      elim (cases_eq (arc_at (with_artificial b.net) label).src v) [
        | inl e ↦ record {
          low = omega (arith, ints, went.forward e, old.low, some);
          high = λ own. omega (arith, ints, went.forward e, can.forward (ap not (eq-eqb _ v e)) own);
        }
        | inr ne ↦ record {
          low = omega (arith, ints, went.backward ne, can.backward (ap not (ne_eqb _ v ne)));
          high = λ own. omega (arith, ints, went.backward ne, old.high own, some);
        }
      ]

  -- where one more couldn't go, it is at a bound
  pub pushed_bound : ¬ CanTake b (leaving b.net label v) (x +ℤ pos 1)
      → (new label ≡ pos 0) ⊎ ((label ≤ length b.net.arcs) × (new label ≡ (arc_at b.net label).cap))
  pushed_bound full =
      elim (cases_eq (arc_at (with_artificial b.net) label).src v) [
        | inl e ↦ (let back : (leaving b.net label v).back ≡ false = ap not (eq-eqb (arc_at (with_artificial b.net) label).src v e) in
            inr (forward_bound label (length b.net.arcs) (carried b label) (new label) (arc_at b.net label).cap x
            (went.forward e) (can.forward back)
            (λ more. full (record { forward = λ t. more; backward = λ t. absurd (both_ways (leaving b.net label v).back back t) }))))
        | inr ne ↦ (let back : (leaving b.net label v).back ≡ true = ap not (ne_eqb (arc_at (with_artificial b.net) label).src v ne) in
            inl (backward_bound (carried b label) (new label) x (went.backward ne) (can.backward back)
            (λ more. full (record { forward = λ t own. absurd (both_ways (leaving b.net label v).back t back); backward = λ t. more }))))
      ]
    where
      forward_bound : (label n : ℕ) (old new cap x : ℤ) → new ≡ old +ℤ x → (label ≤ n → (old +ℤ x) ≤ℤ cap)
          → ((label ≤ n → (old +ℤ (x +ℤ pos 1)) ≤ℤ cap) → ⊥) → (label ≤ n) × (new ≡ cap)
      forward_bound label n old new cap x moves fits full = grind (arith, ints)

      backward_bound : (old new x : ℤ) → new +ℤ x ≡ old → x ≤ℤ old → ((x +ℤ pos 1) ≤ℤ old → ⊥) → new ≡ pos 0
      backward_bound old new x moves fits full = grind (arith, ints)

pub same_state : (s : Pseudoflow) (g : Network) (amounts : List ℤ) → s.net ≡ g → s.amounts ≡ amounts → s ≡ record { net = g; amounts = amounts }
same_state s g amounts e f = ap (λ n. record { net = n; amounts = s.amounts }) e ∙ ap (λ a. record { net = g; amounts = a }) f

not_above_zero : (b : Bool) (z : ℤ) → z <ℤ pos 0 → when b z ≤ℤ pos 0
not_above_zero b z h = grind (arith, ints)

-- one unit can go along the residual arc that enters
entering_takes : (b : TreeStructure) (k : ℕ) → IsEligible b k → CanTake b (entering b k) (pos 1)
entering_takes b k el =
    record {
      forward = λ t own. takes_forth (carried b k) (arc_at b.net k).cap (reduced_at b k) el.wide el.gains t;
      backward = λ t. takes_back (carried b k) (arc_at b.net k).cap (reduced_at b k) el.wide el.gains t;
    }
  where
    takes_forth : (a cap z : ℤ) → pos 0 <ℤ cap → ((a ≡ pos 0) × (z <ℤ pos 0)) ⊎ ((a ≡ cap) × (pos 0 <ℤ z))
        → int_lt (pos 0) z ≡ false → (a +ℤ pos 1) ≤ℤ cap
    takes_forth a cap z wide gains t = grind (arith, ints)

    takes_back : (a cap z : ℤ) → pos 0 <ℤ cap → ((a ≡ pos 0) × (z <ℤ pos 0)) ⊎ ((a ≡ cap) × (pos 0 <ℤ z))
        → int_lt (pos 0) z ≡ true → pos 1 ≤ℤ a
    takes_back a cap z wide gains t = grind (arith, ints)

module _ (old new : TreeStructure) (k : ℕ) (moved : ℤ) (ok : IsBasis old) (pivot : IsPivot old k moved new) where
  is_around : IsAround old k pivot.apex
  is_around = around old k pivot.apex ok pivot.eligible pivot.is_apex

  leaves : IsLeaving old k pivot.apex moved pivot.leaves × CanGoRound old k pivot.apex moved
  leaves = leaving_of_last old k pivot.apex moved pivot.leaves pivot.last_blocking

  went : WentRound old k pivot.apex moved
  went = went_round is_around moved (moved_low old new k moved ok pivot)

  abbrev now : ℕ → ℤ
  now label = round_amount old k pivot.apex moved label

  amount_is : (label : ℕ) → 0 < label → carried new label ≡ now label
  amount_is label h = pivoted_amount old new k moved pivot label h

  enters_from : entering old k ≡ leaving old.net k (from_of old k)
  enters_from = entering_leaves old k is_around.cycle.apart

  can_enter : CanTake old (leaving old.net k (from_of old k)) moved
  can_enter = subst (λ r. CanTake old r moved) enters_from leaves.1.entering

  old_hold : (label : ℕ) → IsLabel old.net label → CanHold old.net label (carried old label)
  old_hold label h = ok.flow.within_bounds label h

  -- every amount is within its bounds
  round_hold : (label : ℕ) → IsLabel old.net label → CanHold old.net label (now label)
  round_hold label h =
      elim (cases_eq k label) [
        | inl e ↦ on_cycle went.entering can_enter e
        | inr ne ↦ elim (cases_sides (λ side p. label_of old.tree (side_node old k side p)) (side_steps old k pivot.apex) label) [
          | inl t ↦ on_cycle (went.side t.side t.at t.short) (leaves.1.side t.side t.at t.short) t.is
          | inr off ↦ subst (CanHold old.net label) (sym (went.others label (λ e. ne (sym e)) (λ side i l e. off side i l (sym e)))) (old_hold label h)
        ]
      ]
    where
      on_cycle : {l v : ℕ} → Leaves (arcs_of old.net) (carried old) now l v moved → CanTake old (leaving old.net l v) moved → l ≡ label
          → CanHold old.net label (now label)
      on_cycle {l} {v} leaves takes e = subst (λ i. CanHold old.net i (now i)) e
          (pushed_hold old l v moved now leaves takes went.some (old_hold l (subst (IsLabel old.net) (sym e) h)))

  -- an arc outside the old tree that doesn't enter keeps its amount
  round_kept : (label : ℕ) → label ≢ k → ¬ IsInTree old label → now label ≡ carried old label
  round_kept label ne out =
      went.others label ne (λ side p h e.
      out (record { node = side_node old k side p; is_node = side_is_node is_around side p h; labelled = sym e }))

  abbrev IsBound : ℕ → Type 0
  IsBound label = (now label ≡ pos 0) ⊎ ((label ≤ length old.net.arcs) × (now label ≡ (arc_at old.net label).cap))

  -- the arc that leaves is at a bound
  leaving_bound : IsBound pivot.leaves.arc
  leaving_bound = elim leaves.0 [
    | right m h is full rest ↦ on_cycle (went.side false m h) (leaves.1.side false m h) is full
    | enter is full rest ↦ on_cycle went.entering can_enter (is ∙ enters_from) full
    | left m h is full rest more side ↦ on_cycle (went.side true m h) (leaves.1.side true m h) is full
  ]
    where
      on_cycle : {l v : ℕ} → Leaves (arcs_of old.net) (carried old) now l v moved → CanTake old (leaving old.net l v) moved → pivot.leaves ≡ leaving old.net l v
          → ¬ CanTake old pivot.leaves (moved +ℤ pos 1) → IsBound pivot.leaves.arc
      on_cycle {l} {v} leaves takes is full = subst (λ r. IsBound r.arc) (sym is)
          (pushed_bound old l v moved now leaves takes went.some (subst (λ r. ¬ CanTake old r (moved +ℤ pos 1)) is full))

  old_bound : (label : ℕ) → IsLabel old.net label → label ≢ k → ¬ IsInTree old label → IsBound label
  old_bound label h ne out =
      elim (ok.at_bounds label h out) [
        | inl z ↦ inl (round_kept label ne out ∙ z)
        | inr f ↦ inr (f.0, round_kept label ne out ∙ f.1)
      ]

  here_label : (label : ℕ) → IsLabel new.net label → IsLabel old.net label
  here_label label h = subst (λ g. IsLabel g label) pivot.net h

  new_within : (label : ℕ) → IsLabel new.net label → CanHold new.net label (carried new label)
  new_within label h =
      subst (λ g. CanHold g label (carried new label)) (sym pivot.net)
      (subst (CanHold old.net label) (sym (amount_is label h.0)) (round_hold label (here_label label h)))

  in_new : (label : ℕ) → 0 < label → IsBound label → IsAtBound new label
  in_new label h (inl z) = inl (amount_is label h ∙ z)
  in_new label h (inr f) =
      inr (subst (λ g. label ≤ length g.arcs) (sym pivot.net) f.0, amount_is label h ∙ (f.1 ∙ ap (λ g. (arc_at g label).cap) (sym pivot.net)))

  new_at_bounds : (label : ℕ) → IsLabel new.net label → ¬ IsInTree new label → IsAtBound new label
  new_at_bounds label h out =
      elim ((new_tree old new k moved ok pivot).outside label
      (λ v q e. out (record { node = v; is_node = subst (λ g. IsNode (node_count g) v) (sym pivot.net) q; labelled = e }))) [
        | inl is ↦ in_new label h.0 (subst IsBound (sym is) leaving_bound)
        | inr away ↦ in_new label h.0 (old_bound label (here_label label h) away.0 away.1)
      ]

  -- the amounts went round
  round_state : pushed_along (full_state old) (cycle_of old (entering old k) pivot.apex) moved ≡ full_state new
  round_state =
      same_state (pushed_along (full_state old) (cycle_of old (entering old k) pivot.apex) moved) (with_artificial new.net) new.amounts
      (along_net (full_state old) (cycle_of old (entering old k) pivot.apex) moved ∙ ap with_artificial (sym pivot.net)) (sym pivot.amounts)

  new_flow : IsFullFlow (full_state new) new.net
  new_flow = record {
    of_net = refl;
    one_per_label = ap (λ (xs : List ℤ). length xs) pivot.amounts
        ∙ (round_count old k pivot.apex moved ok ∙ ap (λ g. length (with_artificial g).arcs) (sym pivot.net));
    within_bounds = new_within;
    no_surplus = subst HasNoSurplus round_state (round_surplus is_around moved);
  }

  spans : IsSpanning new.tree
  spans = elim pivot.mended [
    | kept e at_once ↦ subst IsSpanning (sym at_once.tree) ok.spanning
    | exchanged out inner outer e x ↦ x.spanning
  ]

  count : length new.prices ≡ length old.prices
  count = elim pivot.mended [
    | kept e at_once ↦ ap (λ (ys : List ℤ). length ys) at_once.prices
    | exchanged out inner outer e x ↦ x.one_price_each
  ]

  pub basis_kept : IsBasis new
  basis_kept = record {
    of_net = subst IsNet (sym pivot.net) ok.of_net;
    spanning = spans;
    size = new_size old new k moved ok pivot;
    tree_arcs = new_tree_arcs old new k moved ok pivot;
    flow = new_flow;
    at_bounds = new_at_bounds;
    prices = new_prices old new k moved ok pivot count;
    strong = strong_kept old new k moved pivot spans (new_size old new k moved ok pivot) (new_tree_arcs old new k moved ok pivot) is_around leaves.0 went;
  }

  cost_after : full_cost new ≡ full_cost old +ℤ moved *ℤ entering_cost old k
  cost_after =
      ap (λ g. cost (with_artificial g).arcs new.amounts) pivot.net
      ∙ (ap (λ amounts. cost (with_artificial old.net).arcs amounts) pivot.amounts ∙ round_cost is_around moved)

  -- where something moves, the cost falls
  cost_falls : pos 0 <ℤ moved → full_cost new <ℤ full_cost old
  cost_falls some =
      let below : (entering_cost old k *ℤ moved) <ℤ pos 0 = mul_below_zero (entering_cost old k) moved (entering_low old k pivot.eligible) some in
      omega (arith, ints, cost_after, below, *ℤ_comm (entering_cost old k) moved)

  -- where nothing moves, it stays
  cost_stays : moved ≡ pos 0 → full_cost new ≡ full_cost old
  cost_stays still =
      omega (arith, ints, cost_after, ap (λ z. z *ℤ entering_cost old k) still, zero-mul (entering_cost old k))

  ends_of : HasTwoEnds old.net k (from_of old k) (to_of old k)
  ends_of = two_ends old.net k (int_lt (pos 0) (reduced_at old k)) ok.of_net pivot.eligible.arc pivot.eligible.wide

  -- the part that hangs anew has the end that the entering residual arc leaves
  module _ (out inner outer : ℕ) (x : IsExchanged old (entering old k) out inner outer new)
      (at_from : inner ≡ from_of old k) (at_to : outer ≡ to_of old k) where
    inner_node : IsNode (node_count old.net) inner
    inner_node = subst (IsNode (node_count old.net)) (sym at_from) ends_of.first

    outer_node : IsNode (node_count old.net) outer
    outer_node = subst (IsNode (node_count old.net)) (sym at_to) ends_of.second

    inner_moved : is_above old.tree out inner ≡ true
    inner_moved = over-from_path old.tree.parents (depth_of old.tree) ok.spanning.rooted out inner (in_tree old ok inner inner_node.1) x.inside

    outer_stays : is_above old.tree out outer ≡ false
    outer_stays = false_from_ne_true (is_above old.tree out outer) (λ e. x.outside (path-from_over old.tree.parents (depth_of old.tree) out outer e))

    inner_price : price_at new inner ≡ price_at old inner +ℤ x.change
    inner_price = x.prices inner inner_node.1 ∙ ap (λ t. price_at old inner +ℤ when t x.change) inner_moved

    to_price : price_at new (to_of old k) ≡ price_at old (to_of old k)
    to_price =
        subst (λ v. price_at new v ≡ price_at old v) at_to
        (let at = x.prices outer outer_node.1 in
        let none : when (is_above old.tree out outer) x.change ≡ pos 0 = ap (λ t. when t x.change) outer_stays in omega (arith, ints, at, none))

    -- the reduced cost of the entering residual arc by the new prices, in a net
    abbrev reduced_over : Network → ℤ
    reduced_over g =
        unit_cost (with_artificial g) (entering old k) -ℤ price_at new (tail (with_artificial g) (entering old k))
        +ℤ price_at new (head (with_artificial g) (entering old k))

    reduced_after : reduced_over old.net ≡ pos 0
    reduced_after =
        subst (λ g. reduced_over g ≡ pos 0) pivot.net
        (turned_reduced new k (entering old k).back ∙ none_turned (entering old k).back (reduced_at new k) x.balanced)

    change_is : x.change ≡ entering_cost old k
    change_is =
        let from = subst (λ v. price_at new v ≡ price_at old v +ℤ x.change) at_from inner_price in
        omega (arith, ints, turned_reduced old k (entering old k).back, reduced_after, from, to_price)

    change_low : x.change <ℤ pos 0
    change_low = subst (λ z. z <ℤ pos 0) (sym change_is) (entering_low old k pivot.eligible)

    -- no price rises, and that of this end falls
    prices_fall : price_sum new <ℤ price_sum old
    prices_fall =
        let sum : pos 0 <ℤ node_sum (λ v. price_at old v -ℤ price_at new v) (node_count old.net) =
        node_sum_above_zero (λ v. price_at old v -ℤ price_at new v) (node_count old.net) inner inner_node (omega (arith, ints, inner_price, change_low))
        (λ v h. (let at = x.prices v h.1 in
        let none = not_above_zero (is_above old.tree out v) x.change change_low in omega (arith, ints, at, none))) in
        let same : price_sum new ≡ node_sum (price_at new) (node_count old.net) = ap (λ g. node_sum (price_at new) (node_count g)) pivot.net in
        omega (arith, ints, sum, node_sum-sub (price_at old) (price_at new) (node_count old.net), same)

  -- an arc on the side of this end leaves
  left_falls : (m out inner outer : ℕ) → m < side_steps old k pivot.apex true → label_of old.tree (side_node old k true m) ≡ label_of old.tree out →
      IsExchanged old (entering old k) out inner outer new → price_sum new <ℤ price_sum old
  left_falls m out inner outer h named x =
      let is : out ≡ side_node old k true m =
      step_of is_around (side_step is_around true m h) x.is_node named in
      elim x.ends [
        | inl e ↦ prices_fall out inner outer x e.0 e.1
        | inr e ↦ absurd (x.outside (record { steps = m; leads = ap (climb old.tree.parents m) e.1 ∙ sym is }))
      ]

  -- nothing moves
  module _ (still : moved ≡ pos 0) where
    one_more : (r : Rid) → ¬ CanTake old r (moved +ℤ pos 1) → ¬ CanTake old r (pos 1)
    one_more r full = subst (λ z. ¬ CanTake old r (z +ℤ pos 1)) still full

    still_falls : (q : Rid) → IsLeaving old k pivot.apex moved q → IsMended old (entering old k) q new → price_sum new <ℤ price_sum old
    still_falls q (right m h is full free) mended =
        absurd (let step = side_step is_around false m h in
        one_more q full (subst (λ r. CanTake old r (pos 1)) (sym is) (strong_up old ok (side_node old k false m) step.above step.within)))
    still_falls q (enter is full free) mended =
        absurd (one_more q full (subst (λ r. CanTake old r (pos 1)) (sym is) (entering_takes old k pivot.eligible)))
    still_falls q (left m h is full free first above) (kept same stay) =
        absurd (side_outside is_around true m h (sym (ap (λ (r : Rid). r.arc) is) ∙ ap (λ (r : Rid). r.arc) same))
    still_falls q (left m h is full free first above) (exchanged out inner outer named x) =
        left_falls m out inner outer h (sym (ap (λ (r : Rid). r.arc) is) ∙ named) x

  pub pair_falls : PairFalls old new
  pair_falls =
      elim (zero_or_more moved (moved_low old new k moved ok pivot)) [
        | inl still ↦ inr (cost_stays still, still_falls still pivot.leaves leaves.0 pivot.mended)
        | inr some ↦ inl (cost_falls some)
      ]

pub pivots_keep_bases_lem : PivotsKeepBases
pivots_keep_bases_lem old new k moved ok pivot = basis_kept old new k moved ok pivot

pub pivots_lower_the_pair_lem : PivotsLowerThePair
pivots_lower_the_pair_lem old new k moved ok pivot = pair_falls old new k moved ok pivot
