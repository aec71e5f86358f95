use Rattle.std.proofs.Common.{◌-◌, arith}
use Rattle.mcf_table.proofs.SeparatorLemmas.{rank_joined}
use Rattle.mcf_table.proofs.separators.+rank_in.Goals as goal

pub returns-in-Some-clause-rank : goal.returns-in-Some-clause-rank
returns-in-Some-clause-rank t c =
    rw c.with_more.ensures (rank_joined c.args.count (c.args.count - 1) _ _ _ _ c.args.byte c.rank_of-here.result c.rank_in-later.result
    (omega (arith, c.if-count-eq0.false)) c.in-Some.ensures.some c.rank_of-here.ensures c.rank_in-later.ensures.some
    c.rank_in-later.ensures.rank c.rank_in-later.ensures.none)
