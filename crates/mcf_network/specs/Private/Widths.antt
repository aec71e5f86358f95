-- How the widths of a net are stored one arc after another.
use Rattle.std.specs.Prelude.{◌≡◌, ℕ, ◌+◌, ◌<◌, ◌≤◌, List, length, ℤ}
use Rattle.mcf_network.specs.Stored.{width_at}

-- the arc at a place has a new width, and those before it keep theirs
pub record GainsWidth (before : List ℤ) (place : ℕ) (width : ℤ) (after : List ℤ) : Type 0 where
  pub fits : length after ≤ place + 1
  pub here : width_at after place ≡ width
  pub kept : (i : ℕ) → i < place → width_at after i ≡ width_at before i
