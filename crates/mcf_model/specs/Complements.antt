-- A set of places told by the other places: these are on the other side.
-- Source: own
use Rattle.std.specs.Prelude.{Bool, true, false, not}
use Rattle.mcf_flows.specs.declared.problem.Side.{Side}
use Rattle.mcf_flows.specs.declared.problem.Side.TheVariants.{Send, Take}

-- the test, turned if it has to be
abbrev pub turned_if : Bool → Bool → Bool
turned_if true b = not b
turned_if false b = b

-- the side, turned if it has to be
abbrev pub side_told : Bool → Side → Side
side_told true Send = Take
side_told true Take = Send
side_told false side = side
