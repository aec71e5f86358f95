use Rattle.std.proofs.Common.{◌∙◌, sym, inl, inr}
use Rattle.std.proofs.lemmas.Result.{on_err_weaker}
use Rattle.mcf_instance.proofs.HeaderNodes.{instance_names_nodes}
use Rattle.mcf_solver.proofs.solving.answer_for.Goals as goal

pub returns-in-Ok-clause-wants : goal.returns-in-Ok-clause-wants
returns-in-Ok-clause-wants c = λ input is.
    on_err_weaker c.solve_instance.result (elim [
      | inl some ↦ inl (instance_names_nodes input c.in-Ok.instance (sym is ∙ c.in-Ok.is) some)
      | inr simplex ↦ inr (record { net = c.in-Ok.instance; read = sym is ∙ c.in-Ok.is; simplex = simplex })
    ]) c.solve_instance.ensures.wants
