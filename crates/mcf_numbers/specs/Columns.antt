-- Columns whose writes are counted.
use Rattle.std.specs.Prelude.{ℕ, List}

-- an entry for each place, and how often one was written
pub record Counted (A : Type 0) : Type 0 where
  pub entries : List A
  pub written : ℕ
