use Rattle.mcf_decimal.proofs.WholeCells.{one_number}
use Rattle.mcf_decimal.proofs.laws.cells_say_one_number.Goals as goal

pub returns : goal.returns
returns c = one_number
