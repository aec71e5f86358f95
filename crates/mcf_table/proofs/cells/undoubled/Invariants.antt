use Rattle.std.proofs.Common.{◌≡◌, ◌-◌, ◌++◌, List, ℕ, length, drop}
use Rattle.mcf_table.specs.Rows.{doubled}
use Rattle.mcf_table.proofs.cells.undoubled.Given as goal

abbrev pub invariant-bytes : goal.invariant-bytes
invariant-bytes l = (inside : List ℕ) → l.bytes ≡ doubled inside → (rest : List ℕ) × (inside ≡ l.made.items ++ rest) × (drop l.at l.bytes ≡ doubled rest)

abbrev pub decreases-bytes : goal.decreases-bytes
decreases-bytes l = length l.bytes - l.at
