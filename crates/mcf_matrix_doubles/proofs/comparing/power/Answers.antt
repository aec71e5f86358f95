use Rattle.mcf_matrix_doubles.proofs.Powers.{power_read}
use Rattle.mcf_matrix_doubles.proofs.comparing.power.Goals as goal

pub overflow_cast-result-2 : goal.overflow_cast-result-2
overflow_cast-result-2 c = (power_read c.args.places c.requires).1

pub returns : goal.returns
returns c = (power_read c.args.places c.requires).0
