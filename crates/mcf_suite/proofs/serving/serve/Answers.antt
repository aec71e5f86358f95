use Rattle.std.proofs.Common.{inr, map}
use Rattle.mcf_suite.specs.Serving.{OpensBy}
use Rattle.mcf_suite.proofs.ServedLemmas.{kept_or_begun, told_of}
use Rattle.mcf_suite.proofs.serving.serve.Goals as goal

pub returns-in-Ok-clause-served : goal.returns-in-Ok-clause-served
returns-in-Ok-clause-served g c = inr c.in-Ok.ensures.served

pub returns-in-Err-clause-beginning : goal.returns-in-Err-clause-beginning
returns-in-Err-clause-beginning g c three = kept_or_begun g.S.Source.remaining g.S.Source.failures c.args.input.now c.answer.new.input
    (OpensBy g.P.FnMut c.args.opener.now c.answer.new.opener) (map g.W.AsStr.text c.args.words.now) _ _ _ c.in-Err.failure
    c.in-Err.ensures.failed

pub returns-in-Err-clause-told : goal.returns-in-Err-clause-told
returns-in-Err-clause-told g c three = told_of g.S.Source.remaining g.S.Source.failures c.args.input.now c.answer.new.input
    (OpensBy g.P.FnMut c.args.opener.now c.answer.new.opener) (map g.W.AsStr.text c.args.words.now) _ _ _ _ _ c.in-Err.failure
    c.send.result _ _ c.as_bytes.result.now c.in-Err.ensures.failed (rw c.as_bytes.ensures.value c.text.ensures) c.send.ensures.finished c.send.ensures.taken
    c.send.ensures.failed c.send.ensures.beginning
