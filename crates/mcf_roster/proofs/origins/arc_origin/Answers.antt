use Rattle.std.proofs.Common.{rules, ◌<◌, ◌≤◌, length, arith}
use Rattle.mcf_roster.proofs.OriginLists.{pair_here, side_here}
use Rattle.mcf_roster.proofs.origins.arc_origin.Goals as goal

pub returns-then-arc-pairs : goal.returns-then-arc-pairs
returns-then-arc-pairs c =
    let h : c.args.arc < length c.pairs-pairs.result.now = search (rules, arith) in
    pair_here c.args.roster.now c.pairs-pairs.result.now c.pairs-pairs.ensures.value c.args.arc h

pub returns : goal.returns
returns c =
    let h : length c.pairs-pairs.result.now ≤ c.args.arc = search (rules, arith) in
    side_here c.args.roster.now c.pairs-pairs.result.now c.pairs-pairs.ensures.value c.args.arc c.takes.result.now c.needs.result.now c.side_origin.result
    c.takes.ensures.value c.needs.ensures.value h c.side_origin.ensures
