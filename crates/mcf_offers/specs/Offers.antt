-- Offers of a search, and a queue of those that wait.
use Rattle.std.specs.Prelude.{ℕ, List, ℤ}

-- a distance that an arc offers to its column
pub record Offer : Type 0 where
  pub dist : ℤ
  pub column : ℕ
  pub arc : ℕ

-- the offers that wait, in no order, and for how many there is room
pub record Queue : Type 0 where
  pub items : List Offer
  pub room : ℕ
