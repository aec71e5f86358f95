use Rattle.mcf_answer.proofs.Parsed.{reads_back}
use Rattle.mcf_answer.proofs.laws.what_is_written_is_read_back.Goals as goal

pub returns : goal.returns
returns c = reads_back
