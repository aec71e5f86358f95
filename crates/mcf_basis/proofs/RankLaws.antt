-- The pair of the cost and the sum of the prices as one number.
use Rattle.std.proofs.Common.{◌≡◌, ℕ, ◌+◌, ◌*◌, inl, inr, sym, ap, ◌∙◌, arith, subst, ℤ, pos, ◌+ℤ◌, ◌-ℤ◌, ◌*ℤ◌, ◌<ℤ◌, ◌≤ℤ◌}
use Rattle.std.proofs.lemmas.Int.{ints}
use Rattle.mcf_flows.specs.Network.{Network, node_count}
use Rattle.mcf_flows.specs.WellFormed.{IsUpTo}
use Rattle.mcf_flows.proofs.Bounds.{node_sum_up_to}
use Rattle.mcf_flows.proofs.IntLaws.{add-mul, mul-add, mul-mono_left, mul-one, one-mul, sub-mul}
use Rattle.mcf_basis.specs.Bases.{IsBasis, IsFullFlow}
use Rattle.mcf_basis.specs.Laws.{RanksBoundPivots, RanksFall}
use Rattle.mcf_basis.specs.Pivots.{PairFalls, full_cost, price_sum}
use Rattle.mcf_basis.specs.Ranks.{price_reach, price_span, rank_of}
use Rattle.mcf_basis.specs.Structures.{TreeStructure, full_state, price_at}
use Rattle.mcf_basis.proofs.TreePrices.{price_reached}

-- the sum of the prices lies within half the span
pub price_sum_reached : (b : TreeStructure) → IsBasis b → IsUpTo (node_count b.net * price_reach b.net) (price_sum b)
price_sum_reached b ok = node_sum_up_to (price_at b) (price_reach b.net) (node_count b.net) (λ v h. price_reached b ok v h.1)

-- over plain numbers: costs c and d, sums s and t
lower_cost : (c d s t : ℤ) (half : ℕ) → IsUpTo half s → IsUpTo half t → d <ℤ c → (d *ℤ pos (2 * half + 1) +ℤ t) <ℤ (c *ℤ pos (2 * half + 1) +ℤ s)
lower_cost c d s t half a b lt =
    let step : d ≤ℤ (c -ℤ pos 1) = omega (arith, ints) in
    let split : (c -ℤ pos 1) *ℤ pos (2 * half + 1) ≡ c *ℤ pos (2 * half + 1) -ℤ pos 1 *ℤ pos (2 * half + 1) = sub-mul c (pos 1) (pos (2 * half + 1)) in
    let one : pos 1 *ℤ pos (2 * half + 1) ≡ pos (2 * half + 1) = one-mul (pos (2 * half + 1)) in
    omega (arith, ints, a, b, mul-mono_left d (c -ℤ pos 1) (pos (2 * half + 1)) (omega (arith, ints)) step, split, one)

lower_sum : (c d s t : ℤ) (half : ℕ) → d ≡ c → t <ℤ s → (d *ℤ pos (2 * half + 1) +ℤ t) <ℤ (c *ℤ pos (2 * half + 1) +ℤ s)
lower_sum c d s t half e lt = omega (arith, ints, ap (λ x. x *ℤ pos (2 * half + 1)) e, lt)

pub rank_falls : (old new : TreeStructure) → IsBasis old → IsBasis new → new.net ≡ old.net → PairFalls old new → rank_of new <ℤ rank_of old
rank_falls old new ok ok' net falls =
    let was : IsUpTo (node_count old.net * price_reach old.net) (price_sum old) = price_sum_reached old ok in
    let is = subst (λ (g : Network). IsUpTo (node_count g * price_reach g) (price_sum new)) net (price_sum_reached new ok') in
    subst (λ (g : Network). (full_cost new *ℤ pos (price_span g + 1) +ℤ price_sum new) <ℤ rank_of old) (sym net)
    (elim falls [
      | inl lt ↦ lower_cost (full_cost old) (full_cost new) (price_sum old) (price_sum new) (node_count old.net * price_reach old.net) was is lt
      | inr both ↦ lower_sum (full_cost old) (full_cost new) (price_sum old) (price_sum new) (node_count old.net * price_reach old.net) both.0 both.1
    ])

pub ranks_fall_lem : RanksFall
ranks_fall_lem = rank_falls

-- over plain numbers
within_bound : (c d s t floor pivots : ℤ) (half : ℕ) → IsUpTo half s → IsUpTo half t → floor ≤ℤ d
    → (pivots +ℤ (d *ℤ pos (2 * half + 1) +ℤ t)) ≤ℤ (c *ℤ pos (2 * half + 1) +ℤ s) →
    pivots ≤ℤ ((c -ℤ floor) +ℤ ((c -ℤ floor) +ℤ pos 1) *ℤ pos (2 * half))
within_bound c d s t floor pivots half a b low h =
    let times : (floor *ℤ pos (2 * half + 1)) ≤ℤ (d *ℤ pos (2 * half + 1)) = mul-mono_left floor d (pos (2 * half + 1)) (omega (arith, ints)) low in
    let more_pos : pos (2 * half + 1) ≡ pos (2 * half) +ℤ pos 1 = omega (arith, ints) in
    let c_split : c *ℤ pos (2 * half + 1) ≡ c *ℤ pos (2 * half) +ℤ c *ℤ pos 1 = ap (λ x. c *ℤ x) more_pos ∙ mul-add c (pos (2 * half)) (pos 1) in
    let f_split = ap (λ x. floor *ℤ x) more_pos ∙ mul-add floor (pos (2 * half)) (pos 1) in
    let e_split = add-mul (c -ℤ floor) (pos 1) (pos (2 * half)) in
    let d_split : (c -ℤ floor) *ℤ pos (2 * half) ≡ c *ℤ pos (2 * half) -ℤ floor *ℤ pos (2 * half) = sub-mul c floor (pos (2 * half)) in
    omega (arith, ints, a, b, times, h, c_split, mul-one c, f_split, mul-one floor, e_split, one-mul (pos (2 * half)), d_split)

pub ranks_bound_pivots_lem : RanksBoundPivots
ranks_bound_pivots_lem first last pivots floor ok ok' net h low =
    let was : IsUpTo (node_count first.net * price_reach first.net) (price_sum first) = price_sum_reached first ok in
    let is = subst (λ (g : Network). IsUpTo (node_count g * price_reach g) (price_sum last)) net (price_sum_reached last ok') in
    let flow : IsFullFlow (full_state last) first.net = subst (IsFullFlow (full_state last)) net ok'.flow in
    let above : floor ≤ℤ full_cost last = low (full_state last) flow in
    let ranks : (pos pivots +ℤ (full_cost last *ℤ pos (price_span first.net + 1) +ℤ price_sum last)) ≤ℤ rank_of first =
    subst (λ (g : Network). (pos pivots +ℤ (full_cost last *ℤ pos (price_span g + 1) +ℤ price_sum last)) ≤ℤ rank_of first) net h in
    within_bound (full_cost first) (full_cost last) (price_sum first) (price_sum last) floor (pos pivots) (node_count first.net * price_reach first.net) was is
    above ranks
