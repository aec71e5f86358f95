use Rattle.mcf_solver.proofs.DeviceLaws.{if-err, sends-answer, sends-beginning}
use Rattle.mcf_solver.proofs.running.run.Goals as goal

pub returns-in_err-send-clause-beginning : goal.returns-in_err-send-clause-beginning
returns-in_err-send-clause-beginning g c =
    if-err _ _ _ (sends-beginning _ _ _ _ _ _ _ _ _ c.in_ok-outcome.ensures.read c.new-answer.ensures.items c.in_ok-kind.ensures
    c.deref.ensures.value c.in_err-send.ensures.beginning)

pub returns-clause-answer : goal.returns-clause-answer
returns-clause-answer g c =
    sends-answer _ _ _ _ _ _ _ _ _ c.in_ok-outcome.ensures.read c.new-answer.ensures.items c.in_ok-kind.ensures
    c.deref.ensures.value c.in_ok-send.ensures.taken
