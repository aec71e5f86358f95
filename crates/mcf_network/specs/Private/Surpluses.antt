-- How far from 0 what the nodes have left to send can lie while it is moved.
use Rattle.std.specs.Prelude.{ℕ, ◌^◌}

-- how far from 0 what a node has left to send lies at most, and what is moved of it: far more than
-- a net has, and far within 128 bits
abbrev pub surplus_reach : ℕ
surplus_reach = 10 ^ 30
