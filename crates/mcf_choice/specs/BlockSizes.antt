-- Sizes of the blocks of block pricing.
-- Source: own
use Rattle.std.specs.Prelude.{ℕ, ◌^◌, ◌≤◌}

-- the most arcs of a block
abbrev pub block_limit : ℕ
block_limit = 10 ^ 6

-- this many arcs may be a block
abbrev pub IsBlockSize : ℕ → Type 0
IsBlockSize size = (1 ≤ size) × (size ≤ block_limit)

-- the size of a block where no other is chosen
abbrev pub standard_block : ℕ
standard_block = 256
