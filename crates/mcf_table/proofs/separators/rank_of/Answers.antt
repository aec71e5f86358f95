use Rattle.mcf_table.proofs.SeparatorLemmas.{rank_is}
use Rattle.mcf_table.proofs.separators.rank_of.Goals as goal

pub returns : goal.returns
returns c = rank_is c.args.wanted.now c.args.line.now c.args.byte _ c.wanted_count.ensures c.byte_count.ensures
