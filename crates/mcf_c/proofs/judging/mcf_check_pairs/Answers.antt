use Rattle.std.proofs.Common.{sym, ◌∙◌}
use Rattle.mcf_c.proofs.MadeOfArrays.{made_is}
use Rattle.mcf_c.proofs.judging.mcf_check_pairs.Goals as goal

pub returns-in-Ok-Ok : goal.returns-in-Ok-Ok
returns-in-Ok-Ok c = rw (made_is _ _ (sym c.in-Ok-Ok.field-0-is ∙ c.in-Ok-Ok.ensures.exact)) at c.judge_instance.ensures
