use Rattle.mcf_table.proofs.separators.+rank_in.Given as goal

abbrev pub decreases-rank_in : goal.decreases-rank_in
decreases-rank_in l = l.count
