use Rattle.mcf_matching.proofs.Mating.{parted_mates}
use Rattle.mcf_matching.proofs.turning.part.Goals as goal

pub returns-clause-mates : goal.returns-clause-mates
returns-clause-mates c =
    rw (c.push.ensures.value, c.place.ensures, c.place-2.ensures, c.ends-row.ensures.src, c.ends-row.ensures.dst, c.net.ensures.value)
    (parted_mates c.args.state.now c.args.mates.now c.args.k c.requires.matching c.requires.pair.arc c.requires.mates c.requires.pair)
