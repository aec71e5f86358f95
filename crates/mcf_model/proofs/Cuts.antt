-- What an arc carries that saves, where no cost is below 0: no more than all supplies and leasts.
-- The cut is at the prices.
use Rattle.std.proofs.Common.{◌≡◌, ℕ, zero, suc, ◌<◌, Bool, true, false, not, ◌&&◌, List, [], ◌∷◌, length, get_or, refl, arith, ℤ, pos, ◌+ℤ◌, ◌-ℤ◌, ◌≤ℤ◌, ◌<ℤ◌, neg_ℤ}
use Rattle.std.specs.Prelude.{int_le}
use Rattle.std.specs.List.{All, AllZip}
use Rattle.std.proofs.lemmas.Int.{ints, clamps}
use Rattle.mcf_flows.specs.declared.arc.Arc.{Arc}
use Rattle.mcf_flows.specs.Blocking.{enters, leaves, supply_in}
use Rattle.mcf_flows.specs.Network.{Network, arc_sum, at_node, flow_sum, node_count, node_sum, when}
use Rattle.mcf_flows.specs.Flow.{CanCarry, IsComplementary, IsFeasible, reduced_cost}
use Rattle.mcf_flows.specs.WellFormed.{HasEnds}
use Rattle.mcf_flows.proofs.ArcSums.{flow_sum-arc_sum, flow_sum-sub}
use Rattle.mcf_flows.proofs.Hoffman.{supply_across}
use Rattle.mcf_flows.proofs.IntLaws.{at_most, at_most_passes}
use Rattle.mcf_flows.proofs.NodeSums.{node_sum-le}
use Rattle.mcf_model.specs.Model.{size}

-- what each node sends or takes, and each arc has to carry, whatever its sign
abbrev pub sizes_in : List ℤ → ℤ
sizes_in supplies = node_sum (λ v. size (at_node supplies v)) (length supplies)

abbrev pub low_sizes : List Arc → ℤ
low_sizes arcs = arc_sum (λ a. size a.low) arcs

pub size_is : (x : ℤ) → (pos 0 ≤ℤ size x) × (x ≤ℤ size x) × (neg_ℤ x ≤ℤ size x)
size_is x = (omega (arith, ints, clamps), omega (arith, ints, clamps), omega (arith, ints, clamps))

pub supply_in_small : (supplies : List ℤ) (set : ℕ → Bool) → (supply_in supplies set ≤ℤ sizes_in supplies) × (neg_ℤ (sizes_in supplies) ≤ℤ supply_in supplies set)
supply_in_small supplies set = (
  node_sum-le (λ v. when (set v) (at_node supplies v)) (λ v. size (at_node supplies v)) (length supplies) (λ v h. (kept (set v) (at_node supplies v)).0),
  other (length supplies),
)
  where
    kept : (t : Bool) (x : ℤ) → (when t x ≤ℤ size x) × (neg_ℤ (size x) ≤ℤ when t x)
    kept true x = (omega (arith, ints, clamps), omega (arith, ints, clamps))
    kept false x = (omega (arith, ints, clamps), omega (arith, ints, clamps))

    other : (n : ℕ) → neg_ℤ (node_sum (λ v. size (at_node supplies v)) n) ≤ℤ node_sum (λ v. when (set v) (at_node supplies v)) n
    other zero = omega (arith, ints)
    other (suc n) = omega (arith, ints, other n, (kept (set (suc n)) (at_node supplies (suc n))).1)

-- ---- one term of a sum, where the others can't be far below 0

module _ (R : Arc → ℤ → Type 0) (t w : Arc → ℤ → ℤ) (each : (a : Arc) (f : ℤ) → R a f → (pos 0 ≤ℤ (t a f +ℤ w a f)) × (pos 0 ≤ℤ w a f)) where
  all_terms : (arcs : List Arc) (flow : List ℤ) → AllZip R arcs flow → pos 0 ≤ℤ (flow_sum t arcs flow +ℤ flow_sum w arcs flow)
  all_terms [] flow h = omega (arith, ints)
  all_terms (a ∷ arcs) [] h = absurd h
  all_terms (a ∷ arcs) (f ∷ flow) h = omega (arith, ints, (each a f h.0).0, all_terms arcs flow h.1)

  pub one_term : (arcs : List Arc) (flow : List ℤ) (i : ℕ) (d : Arc) (e : ℤ) → AllZip R arcs flow → i < length arcs
      → t (get_or arcs i d) (get_or flow i e) ≤ℤ (flow_sum t arcs flow +ℤ flow_sum w arcs flow)
  one_term [] flow i d e h k = absurd (omega arith)
  one_term (a ∷ arcs) [] i d e h k = absurd h
  one_term (a ∷ arcs) (f ∷ flow) zero d e h k = omega (arith, ints, (each a f h.0).1, all_terms arcs flow h.1)
  one_term (a ∷ arcs) (f ∷ flow) (suc i) d e h k =
      omega (arith, ints, (each a f h.0).0, one_term arcs flow i d e h.1 (omega arith))

-- ---- the cut

-- what is known of an arc: it carries what it may, prices show it, and it costs nothing below 0
pub record IsPlaced (prices : List ℤ) (a : Arc) (f : ℤ) : Type 0 where
  pub carries : CanCarry a f
  pub shown : IsComplementary prices a f
  pub costs : pos 0 ≤ℤ a.cost

-- the nodes where a unit is worth as much as at a price, or more
abbrev pub worth : List ℤ → ℤ → ℕ → Bool
worth prices p v = int_le p (at_node prices v)

-- what leaves a set less what enters it, of one arc
abbrev pub across : (ℕ → Bool) → Arc → ℤ → ℤ
across set a f = when (leaves set a) f -ℤ when (enters set a) f

below : (x y : ℤ) → int_le x y ≡ false → y <ℤ x
below x y h = grind (arith, ints)

above : (x y : ℤ) → y <ℤ x → int_le x y ≡ false
above x y h = grind (arith, ints)

at_cut : (p s d low f c : ℤ) → (pos 0 <ℤ (c -ℤ s +ℤ d) → f ≡ low) → low ≤ℤ f → pos 0 ≤ℤ c
    → pos 0 ≤ℤ ((when (int_le p s && not (int_le p d)) f -ℤ when (int_le p d && not (int_le p s)) f) +ℤ size low)
at_cut p s d low f c h l k = cases (int_le p s) (int_le p d) refl refl
  where
    cases : (b1 b2 : Bool) → int_le p s ≡ b1 → int_le p d ≡ b2 → pos 0 ≤ℤ ((when (b1 && not b2) f -ℤ when (b2 && not b1) f) +ℤ size low)
    cases true true e1 e2 = omega (arith, ints, clamps)
    cases true false e1 e2 = omega (arith, ints, clamps, l)
    cases false true e1 e2 = let e : f ≡ low = h (omega (arith, ints, k, below p s e1, at_most p d e2)) in omega (arith, ints, clamps, e)
    cases false false e1 e2 = omega (arith, ints, clamps)

saving_leaves : (s d f c : ℤ) → (c -ℤ s +ℤ d) <ℤ pos 0 → pos 0 ≤ℤ c → f ≡ when (int_le s s && not (int_le s d)) f -ℤ when (int_le s d && not (int_le s s)) f
saving_leaves s d f c h k =
    let e1 : int_le s s ≡ true = at_most_passes s s (omega (arith, ints)) in
    let e2 : int_le s d ≡ false = above s d (omega (arith, ints, h, k)) in
    rw (e1, e2) (omega (arith, ints))

pub saving_small : (g : Network) (prices flow : List ℤ) (i : ℕ) (d : Arc) (e : ℤ) → All (HasEnds (node_count g)) g.arcs → IsFeasible g flow
    → AllZip (IsPlaced prices) g.arcs flow → i < length g.arcs → reduced_cost prices (get_or g.arcs i d) <ℤ pos 0 → pos 0 ≤ℤ (get_or g.arcs i d).cost
    → get_or flow i e ≤ℤ (sizes_in g.supplies +ℤ low_sizes g.arcs)
saving_small g prices flow i d e ends feasible placed h saves costs =
    let a = get_or g.arcs i d in
    let f = get_or flow i e in
    let p = at_node prices a.src in
    let set = worth prices p in
    let one = one_term (IsPlaced prices) (across set) (λ a f. size a.low)
    (λ b x q. (at_cut p (at_node prices b.src) (at_node prices b.dst) b.low x b.cost q.shown.0 q.carries.0 q.costs, (size_is b.low).0)) g.arcs flow i d e placed h in
    omega (
      arith,
      ints,
      one,
      saving_leaves p (at_node prices a.dst) f a.cost saves costs,
      flow_sum-sub (λ b x. when (leaves set b) x) (λ b x. when (enters set b) x) g.arcs flow,
      supply_across g set flow ends feasible,
      (supply_in_small g.supplies set).0,
      flow_sum-arc_sum (IsPlaced prices) (λ b. size b.low) g.arcs flow placed,
    )
