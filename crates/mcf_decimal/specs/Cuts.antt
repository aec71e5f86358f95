-- Bytes that are cut in two.
-- Source: own
use Rattle.std.specs.Prelude.{◌≡◌, ◌≤◌, ℕ, Bool, List, length}
use Rattle.std.specs.List.{before_first, after_first}

-- the bytes are cut at the first that passes the test; where none does, all stand before the cut
pub record IsCut (test : ℕ → Bool) (bytes before after : List ℕ) : Type 0 where
  pub front : before ≡ before_first test bytes
  pub back : after ≡ after_first test bytes
  pub inside : length after ≤ length bytes
