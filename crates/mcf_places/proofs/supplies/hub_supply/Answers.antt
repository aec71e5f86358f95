use Rattle.std.proofs.Common.{arith}
use Rattle.std.proofs.lemmas.Int.{ints}
use Rattle.mcf_places.proofs.PlaceSteps.{hub_is}
use Rattle.mcf_places.proofs.supplies.hub_supply.Goals as goal

pub returns : goal.returns
returns c = omega (arith, ints, hub_is c.args.places.now, c.sums-totals.ensures, c.requires.small)
