-- Tables of marks, and how many are marked.
use Rattle.std.proofs.Common.{◌≡◌, ℕ, cond, ◌+◌, ◌-◌, ◌<◌, ◌≤◌, count_by, Bool, true, false, List, length, get_or, set, ap, arith}
use Rattle.std.proofs.lemmas.List.Sums.{sum_by-set}
use Rattle.mcf_flows.specs.Blocking.{in_table}
use Rattle.mcf_flows.specs.Network.{IsNode}
use Rattle.mcf_network.specs.NodeSets.{member_count, with_node}
use Rattle.mcf_network.proofs.Marks.{counted_new}

-- how many are marked after one mark is taken away
pub count_less : (table : List Bool) (v : ℕ) → v < length table → get_or table v false ≡ true
    → count_by (λ b. b) (set table v false) + 1 ≡ count_by (λ b. b) table
count_less table v l e = omega (arith, sum_by-set (λ b. cond b 1 0) table v false false l, ap {B = ℕ} (λ b. cond b 1 0) e)

-- a mark that was there counts as before
pub counted_again : (table : List Bool) (v : ℕ) → IsNode (length table) v → in_table table v ≡ true → member_count (with_node table v) ≡ member_count table
counted_again table v h e =
    omega (arith, sum_by-set (λ b. cond b 1 0) table (v - 1) true false (omega arith), ap {B = ℕ} (λ b. cond b 1 0) e)

pub counted_more : (table : List Bool) (v : ℕ) (b : Bool) → IsNode (length table) v → in_table table v ≡ b
    → member_count table ≤ member_count (with_node table v)
counted_more table v true h e = omega (arith, counted_again table v h e)
counted_more table v false h e = omega (arith, counted_new table v h e)
