use Rattle.mcf_matrix_doubles.proofs.Powers.{product_read}
use Rattle.mcf_matrix_doubles.proofs.comparing.times_power.Goals as goal

pub overflow_mul-result : goal.overflow_mul-result
overflow_mul-result c = (product_read c.args.number c.power.result c.args.places c.requires.number c.requires.places c.power.ensures).1

pub returns : goal.returns
returns c = (product_read c.args.number c.power.result c.args.places c.requires.number c.requires.places c.power.ensures).0
