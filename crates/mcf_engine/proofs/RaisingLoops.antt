-- The loops over all nodes before and after a search for the greatest prices.
use Rattle.std.proofs.Common.{◌≡◌, ◌≢◌, ℕ, ◌+◌, ◌-◌, ◌<◌, ◌≤◌, List, length, set, ℤ, pos, ◌+ℤ◌, refl, sym, ap, subst, ◌∙◌, arith, ◌⊎◌, inl}
use Rattle.std.proofs.Common.{inr, length-set}
use Rattle.mcf_flows.specs.Network.{IsNode, at_node}
use Rattle.mcf_engine.specs.Heaps.{Keyed}
use Rattle.mcf_engine.specs.Private.Raisings.{AreRounded, IsRoundedDown, label}
use Rattle.mcf_network.proofs.Marks.{read_node}

-- the prices of the first nodes are rounded, and the others are as they were
pub record AreRoundedUpTo (scale : ℕ) (y : List ℤ) (h : Keyed) (z : List ℤ) (i : ℕ) : Type 0 where
  pub count : length z ≡ length y
  pub each : (v : ℕ) → IsNode i v → IsRoundedDown scale (label y h v) (at_node z v)
  pub rest : (v : ℕ) → i < v → at_node z v ≡ at_node y v

pub round_start : (scale : ℕ) (y : List ℤ) (h : Keyed) → AreRoundedUpTo scale y h y 0
round_start scale y h =
    record { count = refl; each = λ v n. absurd (omega (arith, n)); rest = λ v l. refl }

-- the label of the next node, by its price as it still is
pub label_next : (scale : ℕ) (y z : List ℤ) (h : Keyed) (i v : ℕ) → AreRoundedUpTo scale y h z i → v ≡ i + 1 → label z h v ≡ label y h v
label_next scale y z h i v so is = ap (λ x. x +ℤ at_node h.keys v) (so.rest v (omega (arith, is)))

pub round_next : (scale : ℕ) (y z : List ℤ) (h : Keyed) (i v : ℕ) (x p : ℤ) → AreRoundedUpTo scale y h z i → i < length z → v ≡ i + 1 → x ≡ label z h v
    → IsRoundedDown scale x p → AreRoundedUpTo scale y h (set z i p) (i + 1)
round_next scale y z h i v x p so inside is x_is round =
    let back : v - 1 ≡ i = omega (arith, is) in
    let node : IsNode (length z) v = (omega (arith, is), omega (arith, is, inside)) in
    let read : (u : ℕ) → 1 ≤ u
    → ((u ≡ v) × (at_node (set z i p) u ≡ p)) ⊎ ((u ≢ v) × (at_node (set z i p) u ≡ at_node z u)) = λ (u : ℕ) (k : 1 ≤ u). subst
    (λ j. ((u ≡ v) × (at_node (set z j p) u ≡ p)) ⊎ ((u ≢ v) × (at_node (set z j p) u ≡ at_node z u))) back (read_node z v u p (pos 0) node k) in
    let here : x ≡ label y h v = x_is ∙ label_next scale y z h i v so is in
    record {
      count = length-set z i p ∙ so.count;
      each = λ u n. elim (read u n.0) [
        | inl (e, a) ↦ subst (λ q. IsRoundedDown scale (label y h u) q) (sym a)
            (subst (λ q. IsRoundedDown scale q p) (here ∙ ap (λ w. label y h w) (sym e)) round)
        | inr (o, a) ↦ subst (λ q. IsRoundedDown scale (label y h u) q) (sym a) (so.each u (n.0, omega (arith, n, o, is)))
      ];
      rest = λ u l. elim (read u (omega (arith, l))) [
        | inl (e, _) ↦ absurd (omega (arith, e, is, l))
        | inr (_, a) ↦ a ∙ so.rest u (omega (arith, l))
      ];
    }

pub round_end : (scale : ℕ) (y z : List ℤ) (h : Keyed) (i : ℕ) → AreRoundedUpTo scale y h z i → length z ≤ i → AreRounded scale y h z
round_end scale y z h i so past =
    let count = so.count in
    record { count = count; each = λ v n. so.each v (n.0, omega (arith, n, past, count)) }
