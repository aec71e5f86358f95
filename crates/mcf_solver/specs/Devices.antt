-- Sources and sinks.
-- Source: own
use Rattle.std.specs.Prelude.{◌≡◌, ◌+◌, ℕ}

-- one failure was counted
abbrev pub CountsOneFailure : ℕ → ℕ → Type 0
CountsOneFailure before now = now ≡ before + 1
