use Rattle.mcf_decimal.proofs.WholeCells.{whole_numbers}
use Rattle.mcf_decimal.proofs.laws.whole_numbers_read_alike.Goals as goal

pub returns : goal.returns
returns c = whole_numbers
