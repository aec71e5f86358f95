use Rattle.std.proofs.Common.{rules, sym, ◌∙◌}
use Rattle.mcf_c.proofs.MadeOfArrays.{made_is}
use Rattle.mcf_c.proofs.arrays.mcf_solve_pairs.Goals as goal

pub returns-in-Ok-Ok-clause-answers : goal.returns-in-Ok-Ok-clause-answers
returns-in-Ok-Ok-clause-answers c =
    rw (made_is _ _ (sym c.in-Ok-Ok.field-0-is ∙ c.in-Ok-Ok.ensures.exact), sym c.in-Some.is ∙ c.choice_of.ensures) at c.answer_instance.ensures.answers
