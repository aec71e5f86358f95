use Rattle.mcf_matching.proofs.Mating.{joined_mates, joined_room}
use Rattle.mcf_matching.proofs.turning.join.Goals as goal

pub push-requires-clause-high : goal.push-requires-clause-high
push-requires-clause-high c =
    joined_room c.args.state.now c.args.k c.requires.matching c.requires.arc c.requires.free_column

pub returns-clause-mates : goal.returns-clause-mates
returns-clause-mates c =
    rw (c.push.ensures.value, c.get-arc.ensures, c.get.ensures, c.get-2.ensures, c.place.ensures, c.place-2.ensures, c.ends-row.ensures.src, c.ends-row.ensures.dst, c.net.ensures.value)
    (joined_mates c.args.state.now c.args.mates.now c.args.k c.requires.matching c.requires.arc c.requires.mates c.requires.free_row c.requires.free_column)
