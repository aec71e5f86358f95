use Rattle.mcf_table.proofs.CutLemmas.{first_answer}
use Rattle.mcf_table.proofs.cuts.first_of.Goals as goal

pub returns : goal.returns
returns c = first_answer c.args.byte c.args.text.now c.memchr.result c.memchr.ensures
