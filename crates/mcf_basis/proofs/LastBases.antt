-- The flow of a basis at which no arc is eligible.
use Rattle.std.proofs.Common.{◌≡◌, ℕ, ◌+◌, ◌-◌, ◌<◌, ◌⊎◌, inl, inr, length, drop, get_or, refl, sym, ap, ◌∙◌, arith, subst, ℤ, pos, ◌<ℤ◌, ◌≤ℤ◌, true, false}
use Rattle.std.specs.Prelude.{unsigned_abs, int_lt}
use Rattle.std.specs.List.{AllZip}
use Rattle.std.proofs.lemmas.Grind.{get_or_after_one}
use Rattle.std.proofs.lemmas.Int.{ints}
use Rattle.std.proofs.lemmas.List.{get_or_default}
use Rattle.mcf_flows.specs.declared.arc.Arc.{Arc}
use Rattle.mcf_flows.specs.Flow.{CanCarry, IsComplementary, IsFeasible, Shows, reduced_cost}
use Rattle.mcf_flows.specs.Network.{Network, IsArcNumber, IsNode, at_node, node_count}
use Rattle.mcf_flows.specs.WellFormed.{HasEnds}
use Rattle.mcf_flows.proofs.AllZips.{AllZip_from}
use Rattle.mcf_network.specs.Nets.{IsNetArc}
use Rattle.mcf_network.specs.Residual.{no_arc, arc_at}
use Rattle.mcf_network.proofs.ArcLaws.{ends_at, net_arc_at}
use Rattle.mcf_basis.specs.Artificial.{with_artificial}
use Rattle.mcf_basis.specs.Bases.{CanHold, IsBasis}
use Rattle.mcf_basis.specs.Laws.{HasNoArtificial, LastBasesAreShown}
use Rattle.mcf_basis.specs.Structures.{TreeStructure, IsInTree, carried, price_at, reduced_at, state_of}
use Rattle.mcf_basis.specs.Violations.{HasNoEligible}
use Rattle.mcf_basis.proofs.Labels.{net_without, own_carried, own_count, own_label}
use Rattle.mcf_basis.proofs.Offers.{not_in_tree, own_reduced}

pub zero_or_more : (z : ℤ) → pos 0 ≤ℤ z → (z ≡ pos 0) ⊎ (pos 0 <ℤ z)
zero_or_more z h = grind (arith, ints, inl, inr)

pub above_zero : (z : ℤ) → int_lt (pos 0) z ≡ true → pos 0 <ℤ z
above_zero z e = grind (arith, ints)

pub not_above_zero : (z : ℤ) → int_lt (pos 0) z ≡ false → z ≤ℤ pos 0
not_above_zero z e = grind (arith, ints)

pub size_low : (x : ℤ) → pos 0 ≤ℤ x → pos (unsigned_abs x) ≡ x
size_low x h = grind (arith, ints)

pub node_count_added : (g : Network) → node_count g ≡ node_count (with_artificial g)
unfolding with_artificial
node_count_added g = refl

pub supply_added : (g : Network) (v : ℕ) → at_node (with_artificial g).supplies v ≡ at_node g.supplies v
unfolding with_artificial
supply_added g v = refl

module _ (b : TreeStructure) (ok : IsBasis b) where
  -- what the arc at a place carries, whatever the reads give past the end
  read_arc : (i : ℕ) (x : Arc) → i < length b.net.arcs → get_or b.net.arcs i x ≡ arc_at b.net (i + 1)
  read_arc i x h = let place : i + 1 - 1 ≡ i = omega arith in get_or_default b.net.arcs i x no_arc h ∙ ap (λ j. get_or b.net.arcs j no_arc) (sym place)

  read_own : (i : ℕ) (y : ℤ) → i < length b.net.arcs → get_or (state_of b).amounts i y ≡ carried b (i + 1)
  read_own i y h =
      let place : i + 1 - 1 ≡ i = omega arith in
      get_or_default (state_of b).amounts i y (pos 0) (omega (arith, own_count b ok, h)) ∙
      (ap (λ j. get_or (state_of b).amounts j (pos 0)) (sym place) ∙ own_carried b ok (i + 1) (pos 0) (omega arith, omega arith))

  -- what holds of each arc of the net and its amount holds of the two lists
  pub each_own : (R : Arc → ℤ → Type 0) → ((k : ℕ) → IsArcNumber b.net k → R (arc_at b.net k) (carried b k)) → AllZip R b.net.arcs (state_of b).amounts
  each_own R each =
      AllZip_from R b.net.arcs (state_of b).amounts (sym (own_count b ok))
      (λ i h x y. rw (read_arc i x h, read_own i y h) (each (i + 1) (omega arith, omega arith)))

  held : (k : ℕ) → IsArcNumber b.net k → CanCarry (arc_at b.net k) (carried b k)
  held k h =
      let a : IsNetArc (arc_at b.net k) = net_arc_at b.net k ok.of_net h in
      let c : CanHold b.net k (carried b k) = ok.flow.within_bounds k (own_label b.net k h) in
      (omega (arith, ints, a.no_low, c.low), c.high h.1)

  pub within : AllZip CanCarry b.net.arcs (state_of b).amounts
  within = each_own CanCarry held

  pub feasible : HasNoArtificial b → IsFeasible b.net (state_of b).amounts
  feasible none = record {
    within_bounds = within;
    meets_supplies = λ v h. (let s = ok.flow.no_surplus v (subst (λ n. IsNode n v) (node_count_added b.net) h) in
        omega (arith, ints, s, net_without b ok none v, supply_added b.net v));
  }

  -- the reduced cost by the prices of the nodes alone
  pub node_price : (v : ℕ) → IsNode (node_count b.net) v → at_node (drop 1 b.prices) v ≡ price_at b v
  node_price v h =
      let place : 1 + (v - 1) ≡ v = omega arith in
      get_or_after_one b.prices (v - 1) (pos 0) ∙ ap (price_at b) place

  own_reduced_cost : (k : ℕ) → IsArcNumber b.net k → reduced_cost (drop 1 b.prices) (arc_at b.net k) ≡ reduced_at b k
  own_reduced_cost k h =
      let ends : HasEnds (node_count b.net) (arc_at b.net k) = ends_at b.net k ok.of_net h in
      let r = own_reduced b k h in
      omega (arith, ints, node_price (arc_at b.net k).src ends.src_is_node, node_price (arc_at b.net k).dst ends.dst_is_node, r)

  module _ (none : HasNoEligible b) where
    -- an arc of positive reduced cost carries nothing, one of negative reduced cost all that it can
    pub empty_above : (k : ℕ) → IsArcNumber b.net k → pos 0 <ℤ reduced_at b k → carried b k ≡ pos 0
    empty_above k h rise =
        let a : IsNetArc (arc_at b.net k) = net_arc_at b.net k ok.of_net h in
        let out : ¬ IsInTree b k = not_in_tree b k ok (λ z. omega (arith, ints, z, rise)) in
        elim (ok.at_bounds k (own_label b.net k h) out) [
          | inl z ↦ z
          | inr f ↦ elim (zero_or_more (arc_at b.net k).cap a.width_low) [
            | inl c ↦ f.1 ∙ c
            | inr wide ↦ absurd (none k (record { arc = h; outside = out; wide = wide; gains = inr (f.1, rise) }))
          ]
        ]

    pub full_below : (k : ℕ) → IsArcNumber b.net k → reduced_at b k <ℤ pos 0 → carried b k ≡ (arc_at b.net k).cap
    full_below k h fall =
        let a : IsNetArc (arc_at b.net k) = net_arc_at b.net k ok.of_net h in
        let out : ¬ IsInTree b k = not_in_tree b k ok (λ z. omega (arith, ints, z, fall)) in
        elim (ok.at_bounds k (own_label b.net k h) out) [
          | inl z ↦ elim (zero_or_more (arc_at b.net k).cap a.width_low) [
            | inl c ↦ z ∙ sym c
            | inr wide ↦ absurd (none k (record { arc = h; outside = out; wide = wide; gains = inl (z, fall) }))
          ]
          | inr f ↦ f.1
        ]

    shown : (k : ℕ) → IsArcNumber b.net k → IsComplementary (drop 1 b.prices) (arc_at b.net k) (carried b k)
    shown k h =
        let r = own_reduced_cost k h in
        let a : IsNetArc (arc_at b.net k) = net_arc_at b.net k ok.of_net h in
        (λ high. empty_above k h (omega (arith, ints, r, high)) ∙ sym a.no_low, λ low. full_below k h (omega (arith, ints, r, low)))

    pub shows : Shows b.net.arcs (drop 1 b.prices) (state_of b).amounts
    shows = each_own (IsComplementary (drop 1 b.prices)) shown

pub last_bases_are_shown_lem : LastBasesAreShown
last_bases_are_shown_lem b ok none empty = (feasible b ok empty, shows b ok none)
