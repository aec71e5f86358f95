-- What a search finds: distances with what gave them. Each is a struct of the code without the
-- width of its numbers.
use Rattle.std.specs.Prelude.{ℕ, ℤ}

-- the last arc of a walk to a column that is not matched, and the length of the walk
pub record Target : Type 0 where
  pub arc : ℕ
  pub dist : ℤ

-- a settled row, and its distance less its price
pub record Row : Type 0 where
  pub id : ℕ
  pub base : ℤ
