-- A state that is 1-optimal has no negative cycle.
use Rattle.std.proofs.Common.{◌≡◌, ◌≢◌, ℕ, zero, suc, ◌+◌, ◌<◌, eqb, cond, Bool, true, false, List, [], ◌∷◌, length, refl, sym, ap, ◌∙◌, arith, ℤ, pos, neg_ℤ}
use Rattle.std.proofs.Common.{◌+ℤ◌, ◌-ℤ◌, ◌≤ℤ◌, inl, inr}
use Rattle.std.specs.List.{All, AllPairs}
use Rattle.std.proofs.Math.IntN.{◌*ℤ◌}
use Rattle.std.proofs.lemmas.Int.{ints}
use Rattle.std.proofs.lemmas.Bool.{cases_eq, eq-eqb, ne_eqb}
use Rattle.mcf_flows.specs.Network.{Network, IsNode, at_node, node_count, when}
use Rattle.mcf_flows.proofs.IntLaws.{add-mul, mul-mono_left}
use Rattle.mcf_flows.proofs.NodeSums.{node_sum-add, node_sum-at, node_sum-le}
use Rattle.mcf_network.specs.declared.rid.Rid.{Rid}
use Rattle.mcf_network.specs.Residual.{tail, head, unit_cost}
use Rattle.mcf_network.specs.States.{Pseudoflow}
use Rattle.mcf_network.specs.Walks.{HasRoom, IsWalk, walk_cost}
use Rattle.mcf_network.proofs.ArcLaws.{tail_is_node}
use Rattle.mcf_scaling.specs.Laws.{NearlyLeastHaveNoCycle}
use Rattle.mcf_scaling.specs.Optimality.{IsOptimalWithin}
use Rattle.mcf_scaling.proofs.Rises.{size_of, size_within}

-- ---- no more distinct tails than nodes

-- one of the residual arcs leaves this node
abbrev is_tail : Network → List Rid → ℕ → Bool
is_tail g [] v = false
is_tail g (r ∷ rest) v = cond (eqb (tail g r) v) true (is_tail g rest v)

not_tail : (g : Network) (walk : List Rid) (v : ℕ) → ((k : ℕ) (d : Rid) → k < length walk → v ≢ tail g (Rattle.std.proofs.Common.get_or walk k d))
    → is_tail g walk v ≡ false
not_tail g [] v h = refl
not_tail g (r ∷ rest) v h =
    rw (ne_eqb (tail g r) v (λ e. h 0 r (omega arith) (sym e))) (not_tail g rest v (λ k d l. h (suc k) d (omega arith)))

tail_counts : (g : Network) (walk : List Rid) (n : ℕ) → All (λ r. IsNode n (tail g r)) walk → AllPairs (λ r q. tail g r ≢ tail g q) walk
    → pos (length walk) ≤ℤ size_of (is_tail g walk) n
tail_counts g [] n nodes apart = omega (arith, ints, none n)
  where
    none : (n : ℕ) → size_of (λ v. false) n ≡ pos 0
    none zero = refl
    none (suc n) = omega (arith, ints, none n)
tail_counts g (r ∷ rest) n nodes apart =
    let more = tail_counts g rest n (λ k d h. nodes (suc k) d (omega arith)) (λ i j d h l. apart (suc i) (suc j) d (omega arith) (omega arith)) in
    let here = node_sum-at (λ v. pos 1) (tail g r) (pos 1) n (nodes 0 r (omega arith)) in
    let both = node_sum-add (λ v. when (is_tail g rest v) (pos 1)) (λ v. pos 1 *ℤ when (eqb (tail g r) v) (pos 1)) n in
    let le = node_sum-le (λ v. when (is_tail g rest v) (pos 1) +ℤ pos 1 *ℤ when (eqb (tail g r) v) (pos 1)) (λ v. when (is_tail g (r ∷ rest) v) (pos 1)) n at in
    omega (arith, ints, more, here, both, le)
  where
    lone : is_tail g rest (tail g r) ≡ false
    lone = not_tail g rest (tail g r) (λ k d h. apart 0 (suc k) d (omega arith) (omega arith))

    at : (v : ℕ) → IsNode n v → (when (is_tail g rest v) (pos 1) +ℤ pos 1 *ℤ when (eqb (tail g r) v) (pos 1)) ≤ℤ when (is_tail g (r ∷ rest) v) (pos 1)
    at v h =
        elim (cases_eq (tail g r) v) [
          | inl e ↦ (let other = sym (ap (is_tail g rest) e) ∙ lone in rw (eq-eqb (tail g r) v e, other) (omega (arith, ints)))
          | inr ne ↦ rw (ne_eqb (tail g r) v ne) (omega (arith, ints))
        ]

-- ---- reduced costs along a walk

along : (s : Pseudoflow) (prices : List ℤ) (walk : List Rid) (u w : ℕ) → IsOptimalWithin 1 s prices → All (HasRoom s) walk → IsWalk s.net u walk w
    → (at_node prices u -ℤ at_node prices w -ℤ pos (length walk)) ≤ℤ (walk_cost s.net walk *ℤ pos (node_count s.net + 1))
along s prices [] u w tight room walk =
    let same = ap (at_node prices) walk in
    omega (arith, ints, same)
along s prices (r ∷ rest) u w tight room walk =
    let here = tight r (room 0 r (omega arith)) in
    let from = ap (at_node prices) walk.0 in
    let more = along s prices rest (head s.net r) w tight (λ k d h. room (suc k) d (omega arith)) walk.1 in
    let split = add-mul (unit_cost s.net r) (walk_cost s.net rest) (pos (node_count s.net + 1)) in
    omega (arith, ints, here, from, more, split)

pub nearly_least_have_no_cycle_lem : NearlyLeastHaveNoCycle
nearly_least_have_no_cycle_lem s prices walk ok tight cycle =
    let n = node_count s.net in
    let nodes = λ (k : ℕ) (d : Rid) (h : k < length walk). tail_is_node s.net _ _ ok.of_net (cycle.has_room k d h).arc in
    let few = tail_counts s.net walk n nodes cycle.distinct in
    let all = size_within (is_tail s.net walk) n in
    let (u, closed) = cycle.closed in
    let low = along s prices walk u u tight cycle.has_room closed in
    let negative = cycle.negative in
    let high = mul-mono_left (walk_cost s.net walk) (neg_ℤ (pos 1)) (pos (n + 1)) (omega (arith, ints)) (omega (arith, ints, negative)) in
    omega (arith, ints, few, all, low, high)
