use Rattle.std.proofs.lemmas.Result.{on_err_weaker}
use Rattle.mcf_solver.proofs.WantedMemory.{nodes_wanted}
use Rattle.mcf_solver.proofs.solving.solve_instance_from.Goals as goal

pub returns-clause-wants : goal.returns-clause-wants
returns-clause-wants c = on_err_weaker c.solve_by.result (λ w. nodes_wanted c.args.instance.now w) c.solve_by.ensures.wants
