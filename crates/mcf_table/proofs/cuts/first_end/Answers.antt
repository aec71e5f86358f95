use Rattle.mcf_table.proofs.CutLemmas.{end_answer}
use Rattle.mcf_table.proofs.cuts.first_end.Goals as goal

pub returns : goal.returns
returns c = end_answer c.args.separator c.args.text.now c.end_place.result c.end_place.ensures
