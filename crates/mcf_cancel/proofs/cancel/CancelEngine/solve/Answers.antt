use Rattle.mcf_cancel.proofs.cancel.CancelEngine.solve.Goals as goal

pub returns-in-Blocked-clause-outcome : goal.returns-in-Blocked-clause-outcome
returns-in-Blocked-clause-outcome c = rw c.in-Blocked.is at c.in_ok-state.ensures.answer
