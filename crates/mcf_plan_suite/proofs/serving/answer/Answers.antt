use Rattle.std.proofs.Common.{inl, map}
use Rattle.mcf_plan_suite.proofs.PlanServedLemmas.{help_is_served}
use Rattle.mcf_plan_suite.proofs.serving.answer.Goals as goal

pub returns-in-Err-clause-served : goal.returns-in-Err-clause-served
returns-in-Err-clause-served g c =
    help_is_served g.R.FnMut (λ file. file.items) c.args.read.now c.args.read.now (map g.W.AsStr.text c.args.words.now) c.in-Err.ensures.app
    c.in-Err.error c.show.result _ _ c.in-Err.ensures.is_mcfplan c.in-Err.ensures.faults c.show.ensures.status c.show.ensures.shown

pub returns-clause-served : goal.returns-clause-served
returns-clause-served g c = inl (record {
  app = c.in-Ok.ensures.app;
  is_mcfplan = c.in-Ok.ensures.is_mcfplan;
  faultless = c.in-Ok.ensures.faults;
  asked = c.in-Ok.asked;
  asks = c.in-Ok.ensures.asks;
  holds = (c.in_ok-text.text, c.in_ok-text.ensures, c.status_of.ensures.value, rw c.deref.ensures.value at c.in_ok-send.ensures.taken);
})
