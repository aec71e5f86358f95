use Rattle.mcf_network.proofs.WalkLaws.{IsLeastRoom}
use Rattle.mcf_network.proofs.walk.room_along.Given as goal

abbrev pub invariant-loop-r : goal.invariant-loop-r
invariant-loop-r l = IsLeastRoom l.state l.walk l.r-index l.least
