use Rattle.mcf_decimal.proofs.ReadBack.{reads_back}
use Rattle.mcf_decimal.proofs.written.put_decimal.Goals as goal

pub returns-clause-reads_back : goal.returns-clause-reads_back
returns-clause-reads_back c = λ least. reads_back c.args.mantissa c.args.places c.ranges.mantissa least
