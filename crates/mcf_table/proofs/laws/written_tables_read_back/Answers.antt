use Rattle.mcf_table.proofs.WrittenLemmas.{written_back}
use Rattle.mcf_table.proofs.laws.written_tables_read_back.Goals as goal

pub returns : goal.returns
returns c = written_back
