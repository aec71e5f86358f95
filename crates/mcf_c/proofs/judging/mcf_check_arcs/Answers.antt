use Rattle.std.proofs.Common.{rules, sym, ◌∙◌}
use Rattle.mcf_c.proofs.MadeOfArrays.{made_is, sized_arcs}
use Rattle.mcf_c.proofs.judging.mcf_check_arcs.Goals as goal

pub returns-in-Ok-Ok : goal.returns-in-Ok-Ok
returns-in-Ok-Ok c = rw (made_is _ _ (sym c.in-Ok-Ok.field-0-is ∙ c.in-Ok-Ok.ensures.exact)) at c.judge_instance.ensures

pub returns-in-Err : goal.returns-in-Err
returns-in-Err c = let sized = sized_arcs _ _ c.in-Err.ensures.fits c.in-Err.ensures.supplied in search rules
