-- A network and its net: flows, costs, prices and blocking sets carry over.
use Rattle.std.proofs.Common.{◌≡◌, ◌≢◌, ℕ, zero, suc, ◌+◌, ◌≤◌, ◌<◌, Bool, true, false, not, ◌&&◌, cond, eqb, List, [], ◌∷◌, ◌++◌, length, map, take, get_or}
use Rattle.std.proofs.Common.{refl, sym, ap, subst, ◌∙◌, arith, ℤ, pos, negsuc, ◌+ℤ◌, ◌-ℤ◌, ◌≤ℤ◌, inl, inr, ◌⊎◌}
use Rattle.std.specs.Prelude.{◌<ℤ◌, ◌↔◌, Some, int_lt, slice_get}
use Rattle.std.specs.List.{All, range_with_len}
use Rattle.std.proofs.Math.IntN.{◌*ℤ◌}
use Rattle.std.proofs.lemmas.Int.{ints}
use Rattle.std.proofs.lemmas.Bool.{cases_eq, eq-eqb, false≢true, ne_eqb}
use Rattle.std.proofs.lemmas.List.{length-map, take_all}
use Rattle.std.proofs.lemmas.Option.{get_or_from_slice_get, slice_get-get_or, slice_get_within}
use Rattle.std.proofs.lemmas.List.Elements.{All-head, All-tail}
use Rattle.std.proofs.lemmas.List.FromFn.{length-map-range_with_len}
use Rattle.mcf_flows.specs.declared.arc.Arc.{Arc}
use Rattle.mcf_flows.specs.declared.problem.Side.TheVariants.{Send, Take}
use Rattle.mcf_flows.specs.Blocking.{enters, leaves, supply_in}
use Rattle.mcf_flows.specs.Flow.{AreLowPrices, CanCarry, IsFeasible, IsComplementary, IsWithinBounds, Shows, cost, net, reduced_cost}
use Rattle.mcf_flows.specs.Network.{Network, IsNode, arc_sum, at_node, flow_sum, node_count, node_sum, when}
use Rattle.mcf_flows.specs.Limits.{limits}
use Rattle.mcf_flows.specs.WellFormed.{HasEnds, IsWellFormed}
use Rattle.mcf_flows.proofs.AllZips.{length-AllZip}
use Rattle.mcf_flows.proofs.Hoffman.{nets_across}
use Rattle.mcf_flows.proofs.IntLaws.{mul-add, mul-anti, mul-mono, mul-sub, mul-zero}
use Rattle.mcf_flows.proofs.NodeSums.{node_sum-same, node_sum-sub}
use Rattle.mcf_network.specs.Laws.{GreatestPricesCarryOver, NetFlowsCostNoMore, NetsBlockAlike, RestoredLeastFlowsAreLeast}
use Rattle.mcf_network.specs.Removal.{is_loop, lows, net_of, supply_left, width_of, without_low}
use Rattle.mcf_network.specs.Residual.{no_arc}
use Rattle.mcf_network.specs.States.{Pseudoflow, HasNoSurplus, IsPseudoflow}
use Rattle.mcf_network.specs.Restoring.{fixed_cost, is_earning_loop, restored, restored_flow}
use Rattle.mcf_network.proofs.Lists.{take_next}
use Rattle.mcf_network.proofs.RemovalLaws.{net_of-node_count, net_supply, width_loop, width_plain}
use Rattle.mcf_network.proofs.StateLaws.{when-add, when-sub, when-zero}
use Rattle.mcf_network.proofs.StuckLaws.{feasible_of_state}

-- ---- one arc

-- whether an arc is a loop, and what that means for what it carries
pub restored_plain : (a : Arc) (x : ℤ) → a.src ≢ a.dst → restored_flow a x ≡ a.low +ℤ x
restored_plain a x n = rw (ne_eqb a.src a.dst n) refl

pub restored_loop : (a : Arc) (x : ℤ) → a.src ≡ a.dst → restored_flow a x ≡ cond (int_lt a.cost (pos 0)) a.cap a.low
restored_loop a x e = rw (eq-eqb a.src a.dst e) refl

earning_plain : (a : Arc) (z : ℤ) → a.src ≢ a.dst → when (is_earning_loop a) z ≡ pos 0
earning_plain a z n = rw (ne_eqb a.src a.dst n) refl

earning_loop : (a : Arc) (z : ℤ) → a.src ≡ a.dst → when (is_earning_loop a) z ≡ when (int_lt a.cost (pos 0)) z
earning_loop a z e = rw (eq-eqb a.src a.dst e) refl

-- the sign of a cost
pub sign_of : (c : ℤ) → ((c <ℤ pos 0) × (int_lt c (pos 0) ≡ true)) ⊎ ((pos 0 ≤ℤ c) × (int_lt c (pos 0) ≡ false))
sign_of (pos n) =
    let e : int_lt (pos n) (pos 0) ≡ false = grind (arith, ints) in inr (omega (arith, ints), e)
sign_of (negsuc n) = inl (omega (arith, ints), refl)

-- ---- nets

-- what an arc takes out of a node less what it brings in: loops count nowhere
arc_net_loop : (a : Arc) (v : ℕ) (x : ℤ) → a.src ≡ a.dst → when (eqb a.src v) x ≡ when (eqb a.dst v) x
arc_net_loop a v x e = ap (λ n. when (eqb n v) x) e

restored_net_arc : (a : Arc) (v : ℕ) (x : ℤ) → when (eqb a.src v) (restored_flow a x) -ℤ when (eqb a.dst v) (restored_flow a x) ≡
    (when (eqb a.src v) x -ℤ when (eqb a.dst v) x) +ℤ (when (eqb a.src v) a.low -ℤ when (eqb a.dst v) a.low)
restored_net_arc a v x =
    elim (cases_eq a.src a.dst) [
      | inl e ↦ omega (arith, ints, arc_net_loop a v (restored_flow a x) e, arc_net_loop a v x e, arc_net_loop a v a.low e)
      | inr n ↦ rw (restored_plain a x n) (omega (arith, ints, when-add (eqb a.src v) a.low x, when-add (eqb a.dst v) a.low x))
    ]

pub restored_net : (arcs : List Arc) (amounts : List ℤ) (v : ℕ) → length arcs ≡ length amounts
    → net arcs (restored arcs amounts) v ≡ net (map without_low arcs) amounts v +ℤ net arcs (lows arcs) v
restored_net [] [] v h = refl
restored_net [] (x ∷ amounts) v h = absurd (omega (arith, h))
restored_net (a ∷ arcs) [] v h = absurd (omega (arith, h))
restored_net (a ∷ arcs) (x ∷ amounts) v h =
    omega (arith, ints, restored_net_arc a v x, restored_net arcs amounts v (omega (arith, h)))

-- ---- bounds

abbrev Ordered : Arc → Type 0
Ordered a = a.low ≤ℤ a.cap

restored_carries : (a : Arc) (x : ℤ) → a.low ≤ℤ a.cap → CanCarry (without_low a) x → CanCarry a (restored_flow a x)
restored_carries a x ordered h =
    elim (cases_eq a.src a.dst) [
      | inl e ↦ rw (restored_loop a x e) (elim (sign_of a.cost) [
        | inl s ↦ rw s.1 (ordered, omega (arith, ints))
        | inr s ↦ rw s.1 (omega (arith, ints), ordered)
      ])
      | inr n ↦ (let wide = width_plain a n in let low = h.0 in let high = h.1 in rw (restored_plain a x n)
          (omega (arith, ints, low), omega (arith, ints, high, wide)))
    ]

pub restored_within : (arcs : List Arc) (amounts : List ℤ) → All Ordered arcs → IsWithinBounds (map without_low arcs) amounts
    → IsWithinBounds arcs (restored arcs amounts)
restored_within [] [] o h = h
restored_within [] (x ∷ amounts) o h = absurd h
restored_within (a ∷ arcs) [] o h = absurd h
restored_within (a ∷ arcs) (x ∷ amounts) o h =
    (restored_carries a x (All-head Ordered a arcs o) h.0, restored_within arcs amounts (All-tail Ordered a arcs o) h.1)

-- a loop of the net carries nothing
loop_empty : (a : Arc) (x : ℤ) → a.src ≡ a.dst → CanCarry (without_low a) x → x ≡ pos 0
loop_empty a x e h =
    let none = width_loop a e in
    let low = h.0 in
    let high = h.1 in
    omega (arith, ints, low, high, none)

-- ---- costs

restored_cost_arc : (a : Arc) (x : ℤ) → CanCarry (without_low a) x → a.cost *ℤ restored_flow a x ≡ (a.cost *ℤ x +ℤ a.cost *ℤ a.low) +ℤ when (is_earning_loop a)
    (a.cost *ℤ (a.cap -ℤ a.low))
restored_cost_arc a x h =
    elim (cases_eq a.src a.dst) [
      | inl e ↦ (let zero_x = loop_empty a x e h in let none = mul-zero a.cost in
          rw (restored_loop a x e, earning_loop a (a.cost *ℤ (a.cap -ℤ a.low)) e, zero_x) (elim (sign_of a.cost) [
            | inl s ↦ rw s.1 (omega (arith, ints, none, mul-sub a.cost a.cap a.low))
            | inr s ↦ rw s.1 (omega (arith, ints, none))
          ]))
      | inr n ↦ rw (restored_plain a x n, earning_plain a (a.cost *ℤ (a.cap -ℤ a.low)) n) (omega (arith, ints, mul-add a.cost a.low x))
    ]

pub restored_cost : (arcs : List Arc) (amounts : List ℤ) → IsWithinBounds (map without_low arcs) amounts
    → cost arcs (restored arcs amounts) ≡ cost (map without_low arcs) amounts +ℤ fixed_cost arcs
restored_cost [] [] h = refl
restored_cost [] (x ∷ amounts) h = absurd h
restored_cost (a ∷ arcs) [] h = absurd h
restored_cost (a ∷ arcs) (x ∷ amounts) h =
    omega (arith, ints, restored_cost_arc a x h.0, restored_cost arcs amounts h.1)

-- ---- prices

loop_reduced : (a : Arc) (prices : List ℤ) → a.src ≡ a.dst → reduced_cost prices a ≡ a.cost
loop_reduced a prices e =
    let same = ap (at_node prices) e in omega (arith, ints, same)

complementary_restored : (prices : List ℤ) (a : Arc) (x : ℤ) → CanCarry (without_low a) x → IsComplementary prices (without_low a) x
    → IsComplementary prices a (restored_flow a x)
complementary_restored prices a x h t =
    elim (cases_eq a.src a.dst) [
      | inl e ↦ (let is = loop_reduced a prices e in rw (restored_loop a x e) (elim (sign_of a.cost) [
        | inl s ↦ (let below = s.0 in rw s.1 (λ p. absurd (omega (arith, ints, is, p, below)), λ p. refl))
        | inr s ↦ (let above = s.0 in rw s.1 (λ p. refl, λ p. absurd (omega (arith, ints, is, p, above))))
      ]))
      | inr n ↦ (let wide = width_plain a n in rw (restored_plain a x n) (
        λ p. let f = t.0 p in omega (arith, ints, f),
        λ p. let f = t.1 p in
            omega (arith, ints, f, wide),
      ))
    ]

complementary_of_restored : (prices : List ℤ) (a : Arc) (x : ℤ) → CanCarry (without_low a) x → IsComplementary prices a (restored_flow a x)
    → IsComplementary prices (without_low a) x
complementary_of_restored prices a x h t =
    elim (cases_eq a.src a.dst) [
      | inl e ↦ (let none = loop_empty a x e h in let wide = width_loop a e in (λ p. none, λ p. omega (arith, ints, none, wide)))
      | inr n ↦ (let wide = width_plain a n in let is = restored_plain a x n in (
        λ p. let f = t.0 p in omega (arith, ints, f, is),
        λ p. let f = t.1 p in
            omega (arith, ints, f, is, wide),
      ))
    ]

pub restored_shows : (arcs : List Arc) (prices amounts : List ℤ) → IsWithinBounds (map without_low arcs) amounts → Shows (map without_low arcs) prices amounts
    → Shows arcs prices (restored arcs amounts)
restored_shows [] prices [] h s = s
restored_shows [] prices (x ∷ amounts) h s = absurd h
restored_shows (a ∷ arcs) prices [] h s = absurd h
restored_shows (a ∷ arcs) prices (x ∷ amounts) h s =
    (complementary_restored prices a x h.0 s.0, restored_shows arcs prices amounts h.1 s.1)

pub shows_of_restored : (arcs : List Arc) (prices amounts : List ℤ) → IsWithinBounds (map without_low arcs) amounts → Shows arcs prices (restored arcs amounts)
    → Shows (map without_low arcs) prices amounts
shows_of_restored [] prices [] h s = s
shows_of_restored [] prices (x ∷ amounts) h s = absurd h
shows_of_restored (a ∷ arcs) prices [] h s = absurd h
shows_of_restored (a ∷ arcs) prices (x ∷ amounts) h s =
    (complementary_of_restored prices a x h.0 s.0, shows_of_restored arcs prices amounts h.1 s.1)

-- ---- the state of a flow

-- what the arc of the net carries where the arc carries f
abbrev removed_flow : Arc → ℤ → ℤ
removed_flow a f = cond (is_loop a) (pos 0) (f -ℤ a.low)

abbrev removed : List Arc → List ℤ → List ℤ
removed [] flow = []
removed (a ∷ arcs) [] = []
removed (a ∷ arcs) (f ∷ flow) = removed_flow a f ∷ removed arcs flow

removed_plain : (a : Arc) (f : ℤ) → a.src ≢ a.dst → removed_flow a f ≡ f -ℤ a.low
removed_plain a f n = rw (ne_eqb a.src a.dst n) refl

removed_loop : (a : Arc) (f : ℤ) → a.src ≡ a.dst → removed_flow a f ≡ pos 0
removed_loop a f e = rw (eq-eqb a.src a.dst e) refl

removed_carries : (a : Arc) (f : ℤ) → CanCarry a f → CanCarry (without_low a) (removed_flow a f)
removed_carries a f h =
    elim (cases_eq a.src a.dst) [
      | inl e ↦ (let is = removed_loop a f e in let wide = width_loop a e in (omega (arith, ints, is), omega (arith, ints, is, wide)))
      | inr n ↦ (let is = removed_plain a f n in let wide = width_plain a n in let low = h.0 in let high = h.1 in
          (omega (arith, ints, is, low), omega (arith, ints, is, wide, high)))
    ]

removed_within : (arcs : List Arc) (flow : List ℤ) → IsWithinBounds arcs flow → IsWithinBounds (map without_low arcs) (removed arcs flow)
removed_within [] [] h = h
removed_within [] (f ∷ flow) h = absurd h
removed_within (a ∷ arcs) [] h = absurd h
removed_within (a ∷ arcs) (f ∷ flow) h = (removed_carries a f h.0, removed_within arcs flow h.1)

removed_net_arc : (a : Arc) (v : ℕ) (f : ℤ) → when (eqb a.src v) (removed_flow a f) -ℤ when (eqb a.dst v) (removed_flow a f) ≡
    (when (eqb a.src v) f -ℤ when (eqb a.dst v) f) -ℤ (when (eqb a.src v) a.low -ℤ when (eqb a.dst v) a.low)
removed_net_arc a v f =
    elim (cases_eq a.src a.dst) [
      | inl e ↦ omega (arith, ints, arc_net_loop a v (removed_flow a f) e, arc_net_loop a v f e, arc_net_loop a v a.low e)
      | inr n ↦ rw (removed_plain a f n) (omega (arith, ints, when-sub (eqb a.src v) f a.low, when-sub (eqb a.dst v) f a.low))
    ]

removed_net : (arcs : List Arc) (flow : List ℤ) (v : ℕ) → length arcs ≡ length flow → net (map without_low arcs)
    (removed arcs flow) v ≡ net arcs flow v -ℤ net arcs (lows arcs) v
removed_net [] [] v h = refl
removed_net [] (f ∷ flow) v h = absurd (omega (arith, h))
removed_net (a ∷ arcs) [] v h = absurd (omega (arith, h))
removed_net (a ∷ arcs) (f ∷ flow) v h =
    omega (arith, ints, removed_net_arc a v f, removed_net arcs flow v (omega (arith, h)))

removed_cost_arc : (a : Arc) (f : ℤ) → CanCarry a f → ((a.cost *ℤ removed_flow a f +ℤ a.cost *ℤ a.low) +ℤ when (is_earning_loop a)
    (a.cost *ℤ (a.cap -ℤ a.low))) ≤ℤ (a.cost *ℤ f)
removed_cost_arc a f h =
    elim (cases_eq a.src a.dst) [
      | inl e ↦ (let none = mul-zero a.cost in rw (removed_loop a f e, earning_loop a (a.cost *ℤ (a.cap -ℤ a.low)) e) (elim (sign_of a.cost) [
        | inl s ↦ rw s.1 (omega (arith, ints, none, mul-sub a.cost a.cap a.low, mul-anti a.cost f a.cap (omega (arith, ints, s.0)) h.1))
        | inr s ↦ rw s.1 (omega (arith, ints, none, mul-mono a.cost a.low f s.0 h.0))
      ]))
      | inr n ↦ rw (removed_plain a f n, earning_plain a (a.cost *ℤ (a.cap -ℤ a.low)) n) (omega (arith, ints, mul-sub a.cost f a.low))
    ]

removed_cost : (arcs : List Arc) (flow : List ℤ) → IsWithinBounds arcs flow → (cost (map without_low arcs) (removed arcs flow) +ℤ fixed_cost arcs)
    ≤ℤ cost arcs flow
removed_cost [] [] h = omega (arith, ints)
removed_cost [] (f ∷ flow) h = absurd h
removed_cost (a ∷ arcs) [] h = absurd h
removed_cost (a ∷ arcs) (f ∷ flow) h =
    omega (arith, ints, removed_cost_arc a f h.0, removed_cost arcs flow h.1)

pub net_flows_cost_no_more_lem : NetFlowsCostNoMore
unfolding net_of
net_flows_cost_no_more_lem g flow feasible = (
  removed g.arcs flow,
  record {
    within_bounds = removed_within g.arcs flow feasible.within_bounds;
    meets_supplies = λ v h. let node : IsNode (node_count g) v = omega (arith, h, length-map-range_with_len (supply_left g) 1 (node_count g)) in
        let n = length-AllZip CanCarry g.arcs flow feasible.within_bounds in
        omega (arith, ints, removed_net g.arcs flow v n, net_supply g v node, feasible.meets_supplies v node);
  },
  removed_cost g.arcs flow feasible.within_bounds,
)

-- ---- the flow of a state

pub restored_feasible : (g : Network) (amounts : List ℤ) → All Ordered g.arcs → IsFeasible (net_of g) amounts → IsFeasible g (restored g.arcs amounts)
unfolding net_of
restored_feasible g amounts ordered feasible =
    record {
      within_bounds = restored_within g.arcs amounts ordered feasible.within_bounds;
      meets_supplies = λ v h. let node : IsNode (node_count (net_of g)) v = omega (arith, h, length-map-range_with_len (supply_left g) 1 (node_count g)) in
          let n = length-AllZip CanCarry (map without_low g.arcs) amounts feasible.within_bounds in
          omega (
            arith,
            ints,
            restored_net g.arcs amounts v (omega (arith, n, length-map g.arcs without_low)),
            net_supply g v h,
            feasible.meets_supplies v node,
          );
    }

-- ---- blocking sets

abbrev low_in : (Arc → Bool) → List Arc → ℤ
low_in test arcs = arc_sum (λ a. when (test a) a.low) arcs

abbrev cap_in : (Arc → Bool) → List Arc → ℤ
cap_in test arcs = arc_sum (λ a. when (test a) a.cap) arcs

no_low_in : (test : Arc → Bool) (arcs : List Arc) → low_in test (map without_low arcs) ≡ pos 0
no_low_in test [] = refl
no_low_in test (a ∷ arcs) = omega (arith, ints, when-zero (test (without_low a)), no_low_in test arcs)

-- no loop crosses a set
width_crossing : (s t : Bool) (a : Arc) → (a.src ≡ a.dst → s ≡ t) → when (s && not t) (width_of a) ≡ when (s && not t) a.cap -ℤ when (s && not t) a.low
width_crossing true true a same = refl
width_crossing true false a same = width_plain a (λ e. false≢true (sym (same e)))
width_crossing false true a same = refl
width_crossing false false a same = refl

width_leaving : (set : ℕ → Bool) (arcs : List Arc) → cap_in (leaves set) (map without_low arcs) ≡ cap_in (leaves set) arcs -ℤ low_in (leaves set) arcs
width_leaving set [] = refl
width_leaving set (a ∷ arcs) =
    let here : when (leaves set a) (width_of a) ≡ when (leaves set a) a.cap -ℤ when (leaves set a) a.low =
    width_crossing (set a.src) (set a.dst) a (λ e. ap set e) in
    omega (arith, ints, here, width_leaving set arcs)

width_entering : (set : ℕ → Bool) (arcs : List Arc) → cap_in (enters set) (map without_low arcs) ≡ cap_in (enters set) arcs -ℤ low_in (enters set) arcs
width_entering set [] = refl
width_entering set (a ∷ arcs) =
    let here : when (enters set a) (width_of a) ≡ when (enters set a) a.cap -ℤ when (enters set a) a.low =
    width_crossing (set a.dst) (set a.src) a (λ e. ap set (sym e)) in
    omega (arith, ints, here, width_entering set arcs)

flow_of_lows : (test : Arc → Bool) (arcs : List Arc) → flow_sum (λ a f. when (test a) f) arcs (lows arcs) ≡ low_in test arcs
flow_of_lows test [] = refl
flow_of_lows test (a ∷ arcs) = ap (λ z. when (test a) a.low +ℤ z) (flow_of_lows test arcs)

-- the supply of a set of nodes of the net
net_supply_in : (g : Network) (set : ℕ → Bool) → All (HasEnds (node_count g)) g.arcs → supply_in
    (map (supply_left g) (range_with_len 1 (node_count g))) set ≡ supply_in g.supplies set -ℤ (low_in (leaves set) g.arcs -ℤ low_in (enters set) g.arcs)
net_supply_in g set ends =
    let supplies = map (supply_left g) (range_with_len 1 (node_count g)) in
    let count = ap (node_sum (λ v. when (set v) (at_node supplies v))) (length-map-range_with_len (supply_left g) 1 (node_count g)) in
    let split = node_sum-same (λ v. when (set v) (at_node supplies v)) (λ v. when (set v) (at_node g.supplies v) -ℤ when (set v) (net g.arcs (lows g.arcs) v))
    (node_count g) (λ v h. ap (when (set v)) (net_supply g v h) ∙ when-sub (set v) (at_node g.supplies v) (net g.arcs (lows g.arcs) v)) in
    let parts = node_sum-sub (λ v. when (set v) (at_node g.supplies v)) (λ v. when (set v) (net g.arcs (lows g.arcs) v)) (node_count g) in
    let across = nets_across (node_count g) g.arcs (lows g.arcs) set ends in
    omega (arith, ints, count, split, parts, across, flow_of_lows (leaves set) g.arcs, flow_of_lows (enters set) g.arcs)

pub nets_block_alike_lem : NetsBlockAlike
unfolding net_of
nets_block_alike_lem g set Send ends =
    let can = width_leaving set g.arcs in
    let none = no_low_in (enters set) g.arcs in
    let supply = net_supply_in g set ends in
    (λ b. omega (arith, ints, b, can, none, supply), λ b. omega (arith, ints, b, can, none, supply))
nets_block_alike_lem g set Take ends =
    let can = width_entering set g.arcs in
    let none = no_low_in (leaves set) g.arcs in
    let supply = net_supply_in g set ends in
    (λ b. omega (arith, ints, b, can, none, supply), λ b. omega (arith, ints, b, can, none, supply))

-- ---- what `restore` gives

pub record IsRestored (g : Network) (s : Pseudoflow) : Type 0 where
  pub feasible : IsFeasible g (restored g.arcs s.amounts)
  pub shown : (prices : List ℤ) → Shows g.arcs prices (restored g.arcs s.amounts) ↔ Shows s.net.arcs prices s.amounts
  pub cost_is : cost g.arcs (restored g.arcs s.amounts) ≡ cost s.net.arcs s.amounts +ℤ fixed_cost g.arcs

restored_at : (g : Network) (amounts : List ℤ) → All Ordered g.arcs → IsFeasible (net_of g) amounts
    → IsRestored g (record { net = net_of g; amounts = amounts })
unfolding net_of
restored_at g amounts ordered feasible =
    record {
      feasible = restored_feasible g amounts ordered feasible;
      shown = λ prices. (shows_of_restored g.arcs prices amounts feasible.within_bounds, restored_shows g.arcs prices amounts feasible.within_bounds);
      cost_is = restored_cost g.arcs amounts feasible.within_bounds;
    }

pub restored_all : (g : Network) (s : Pseudoflow) → IsWellFormed limits g → s.net ≡ net_of g → IsPseudoflow s → HasNoSurplus s → IsRestored g s
restored_all g s ok of_net flow none =
    let feasible = subst (λ n. IsFeasible n s.amounts) of_net (feasible_of_state s flow none) in
    let ordered : All Ordered g.arcs = λ k d l. (ok.within.arcs k d l).ordered in
    subst (λ n. IsRestored g (record { net = n; amounts = s.amounts })) (sym of_net) (restored_at g s.amounts ordered feasible)

pub length-restored : (arcs : List Arc) (amounts : List ℤ) → length arcs ≡ length amounts → length (restored arcs amounts) ≡ length arcs
length-restored [] amounts h = refl
length-restored (a ∷ arcs) [] h = absurd (omega (arith, h))
length-restored (a ∷ arcs) (x ∷ amounts) h = ap suc (length-restored arcs amounts (omega (arith, h)))

pub get_or-restored : (arcs : List Arc) (amounts : List ℤ) (i : ℕ) → i < length arcs → length arcs ≡ length amounts
    → get_or (restored arcs amounts) i (pos 0) ≡ restored_flow (get_or arcs i no_arc) (get_or amounts i (pos 0))
get_or-restored [] amounts i l h = absurd (omega arith)
get_or-restored (a ∷ arcs) [] i l h = absurd (omega (arith, h))
get_or-restored (a ∷ arcs) (x ∷ amounts) zero l h = refl
get_or-restored (a ∷ arcs) (x ∷ amounts) (suc i) l h =
    get_or-restored arcs amounts i (omega arith) (omega (arith, h))

-- one entry, as the code reads it
pub restored_read : (arcs : List Arc) (amounts : List ℤ) (i : ℕ) (a : Arc) (x y : ℤ) → length arcs ≡ length amounts → i < length arcs
    → get_or arcs i no_arc ≡ a → get_or amounts i (pos 0) ≡ x → y ≡ restored_flow a x → slice_get (restored arcs amounts) i ≡ Some y
restored_read arcs amounts i a x y n h ea ex ey =
    let at = get_or-restored arcs amounts i h n in
    let is : y ≡ get_or (restored arcs amounts) i (pos 0) = rw (at, ea, ex) ey in
    slice_get-get_or (restored arcs amounts) i (pos 0) (omega (arith, h, length-restored arcs amounts n)) ∙ ap (λ (z : ℤ). Some z) (sym is)

-- one arc more of the loop
pub restored_next : (flow : List ℤ) (i : ℕ) (x y : ℤ) (before after : List ℤ) → slice_get flow i ≡ Some x → y ≡ x → before ≡ take i flow
    → after ≡ before ++ y ∷ [] → after ≡ take (i + 1) flow
restored_next flow i x y before after read same eb e =
    take_next flow i y (pos 0) before after eb (slice_get_within flow i x read) (get_or_from_slice_get flow i x (pos 0) read ∙ sym same) e

pub net_of-arc_count : (g : Network) → length (net_of g).arcs ≡ length g.arcs
unfolding net_of
net_of-arc_count g = length-map g.arcs without_low

pub restored_done : (arcs : List Arc) (amounts : List ℤ) (i : ℕ) (flow : List ℤ) → length arcs ≡ length amounts → length arcs ≤ i
    → flow ≡ take i (restored arcs amounts) → flow ≡ restored arcs amounts
restored_done arcs amounts i flow n h e =
    e ∙ take_all i (restored arcs amounts) (omega (arith, h, length-restored arcs amounts n))

-- ---- least flows and greatest prices

pub restored_least_flows_are_least_lem : RestoredLeastFlowsAreLeast
restored_least_flows_are_least_lem g amounts ordered least =
    let all = restored_at g amounts ordered least.feasible in
    record {
      feasible = all.feasible;
      least = λ other feasible. let found = net_flows_cost_no_more_lem g other feasible in let le = least.least found.0 found.1 in
          omega (arith, ints, le, found.2, all.cost_is);
    }

-- low prices of a feasible flow of the net, and of the flow for which it stands
low_prices : (g : Network) (prices amounts : List ℤ) → IsFeasible (net_of g) amounts → AreLowPrices (net_of g) prices amounts
    ↔ AreLowPrices g prices (restored g.arcs amounts)
unfolding net_of
low_prices g prices amounts feasible =
    let count = length-map-range_with_len (supply_left g) 1 (node_count g) in (
      λ low. record {
        one_per_node = low.one_per_node ∙ count;
        not_above_zero = low.not_above_zero;
        show_flow = restored_shows g.arcs prices amounts feasible.within_bounds low.show_flow;
      },
      λ low. record {
        one_per_node = low.one_per_node ∙ sym count;
        not_above_zero = low.not_above_zero;
        show_flow = shows_of_restored g.arcs prices amounts feasible.within_bounds low.show_flow;
      },
    )

pub greatest_prices_carry_over_lem : GreatestPricesCarryOver
greatest_prices_carry_over_lem g prices amounts feasible =
    let count = net_of-node_count g in (
      λ great. record {
        low = (low_prices g prices amounts feasible).0 great.low;
        greatest = λ other low v h. great.greatest other ((low_prices g other amounts feasible).1 low) v (rw count h);
      },
      λ great. record {
        low = (low_prices g prices amounts feasible).1 great.low;
        greatest = λ other low v h. great.greatest other ((low_prices g other amounts feasible).0 low) v (rw (← count) h);
      },
    )
