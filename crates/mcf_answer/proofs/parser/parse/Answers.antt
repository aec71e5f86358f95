use Rattle.std.proofs.lemmas.Result.{IfOk-weaker}
use Rattle.mcf_answer.proofs.Parsed.{at_misfit, exact}
use Rattle.mcf_answer.proofs.parser.parse.Goals as goal

pub returns-clause-spelled : goal.returns-clause-spelled
returns-clause-spelled c = IfOk-weaker c.read_answer.result _ _ (exact c.args.text.now) c.read_answer.ensures.value

pub returns-clause-misfit : goal.returns-clause-misfit
returns-clause-misfit c = IfOk-weaker c.read_answer.result _ _ (at_misfit c.args.text.now) c.read_answer.ensures.value
