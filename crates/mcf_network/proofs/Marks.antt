-- A table of marks, with one node more, and lists with an entry for each node.
use Rattle.std.proofs.Common.{◌≡◌, ◌≢◌, ℕ, zero, suc, cond, ◌+◌, ◌-◌, ◌<◌, ◌≤◌, Bool, true, false, List, length, get_or, set, replicate, refl, ap, sym, ◌∙◌, arith, ◌⊎◌}
use Rattle.std.proofs.Common.{inl, inr}
use Rattle.std.proofs.lemmas.Bool.{cases_eq}
use Rattle.std.proofs.lemmas.Grind.{get_or-set_at}
use Rattle.std.proofs.lemmas.List.{get_or-set_other, get_or-set_same}
use Rattle.std.proofs.lemmas.List.Sums.{count_by-le-length, sum_by-set}
use Rattle.std.proofs.lemmas.List.Folds.{sum_by-replicate}
use Rattle.mcf_flows.specs.Blocking.{in_table}
use Rattle.mcf_flows.specs.Network.{IsNode}
use Rattle.mcf_network.specs.NodeSets.{member_count, no_nodes, with_node}

-- a read of the entry of a node after a write of one
pub read_node : {X : Type 0} (xs : List X) (i v : ℕ) (a d : X) → IsNode (length xs) i → 1 ≤ v
    → ((v ≡ i) × (get_or (set xs (i - 1) a) (v - 1) d ≡ a)) ⊎ ((v ≢ i) × (get_or (set xs (i - 1) a) (v - 1) d ≡ get_or xs (v - 1) d))
read_node xs i v a d h low =
    elim (cases_eq v i) [
      | inl e ↦ (let same : v - 1 ≡ i - 1 = ap (λ k. k - 1) e in inl (e, get_or-set_at xs (i - 1) (v - 1) a d same (omega arith)))
      | inr n ↦ (let other : v - 1 ≢ i - 1 = omega arith in inr (n, get_or-set_other xs (i - 1) (v - 1) a d other))
    ]

-- a read after a write
pub read_set : {X : Type 0} (xs : List X) (i v : ℕ) (a d : X) → i < length xs
    → ((v ≡ i) × (get_or (set xs i a) v d ≡ a)) ⊎ ((v ≢ i) × (get_or (set xs i a) v d ≡ get_or xs v d))
read_set xs i v a d l =
    elim (cases_eq v i) [
      | inl e ↦ inl (e, get_or-set_at xs i v a d e l)
      | inr n ↦ inr (n, get_or-set_other xs i v a d n)
    ]

-- the node itself is marked
pub marked_new : (table : List Bool) (v : ℕ) → IsNode (length table) v → in_table (with_node table v) v ≡ true
marked_new table v h = get_or-set_same table (v - 1) true false (omega arith)

-- other marks stay
pub marked_still : (table : List Bool) (v w : ℕ) → IsNode (length table) v → in_table table w ≡ true → in_table (with_node table v) w ≡ true
marked_still table v w h e =
    elim (cases_eq (w - 1) (v - 1)) [
      | inl same ↦ ap (λ i. get_or (set table (v - 1) true) i false) same ∙ marked_new table v h
      | inr other ↦ get_or-set_other table (v - 1) (w - 1) true false other ∙ e
    ]

-- no other node is marked
pub marked_only : (table : List Bool) (v w : ℕ) → IsNode (length table) v → IsNode (length table) w → in_table (with_node table v) w ≡ true
    → (w ≡ v) ⊎ (in_table table w ≡ true)
marked_only table v w h k e =
    elim (cases_eq (w - 1) (v - 1)) [
      | inl same ↦ inl (omega arith)
      | inr other ↦ inr (sym (get_or-set_other table (v - 1) (w - 1) true false other) ∙ e)
    ]

-- a node that was not marked counts as one more
pub counted_new : (table : List Bool) (v : ℕ) → IsNode (length table) v → in_table table v ≡ false → member_count (with_node table v) ≡ member_count table + 1
counted_new table v h e =
    omega (arith, sum_by-set (λ b. cond b 1 0) table (v - 1) true false (omega arith), ap {B = ℕ} (λ b. cond b 1 0) e)

pub count_small : (table : List Bool) → member_count table ≤ length table
count_small table = count_by-le-length (λ b. b) table

-- the empty set
get_or-none : (n i : ℕ) → get_or (replicate n false) i false ≡ false
get_or-none zero i = refl
get_or-none (suc n) zero = refl
get_or-none (suc n) (suc i) = get_or-none n i

pub unmarked : (n v : ℕ) → in_table (no_nodes n) v ≡ false
unmarked n v = get_or-none n (v - 1)

pub count_none : (n : ℕ) → member_count (no_nodes n) ≡ 0
count_none n = omega (arith, sum_by-replicate (λ b. cond b 1 0) n false)
