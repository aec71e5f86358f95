use Rattle.std.proofs.Common.{◌≡◌, length}
use Rattle.mcf_roster_reading.specs.Sayings.{unspaced}
use Rattle.mcf_roster_reading.proofs.sayings.unspaced.Given as goal

abbrev pub invariant-spaces : goal.invariant-spaces
invariant-spaces l = unspaced l.bytes ≡ unspaced l.rest

abbrev pub decreases-spaces : goal.decreases-spaces
decreases-spaces l = length l.rest
