use Rattle.mcf_roster.proofs.ToldSums.{add_to_more}
use Rattle.mcf_roster.proofs.laws.competitions_add_to_more.Goals as goal

pub returns : goal.returns
returns c = add_to_more
