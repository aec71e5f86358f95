use Rattle.std.proofs.Common.{rules, sym, ◌∙◌}
use Rattle.mcf_c.proofs.MadeOfArrays.{made_is, sized_arcs}
use Rattle.mcf_c.proofs.arrays.solve_arcs.Goals as goal

pub returns-in-Ok-Ok-clause-answers : goal.returns-in-Ok-Ok-clause-answers
returns-in-Ok-Ok-clause-answers c = rw (made_is _ _ (sym c.in-Ok-Ok.field-0-is ∙ c.in-Ok-Ok.ensures.exact)) at c.answer_instance.ensures.answers

pub returns-in-Err-clause-answers : goal.returns-in-Err-clause-answers
returns-in-Err-clause-answers c = let sized = sized_arcs _ _ c.in-Err.ensures.fits c.in-Err.ensures.supplied in search rules
