use Rattle.mcf_solver.proofs.ReadPieces.{answered}
use Rattle.mcf_solver.proofs.solving.solve_outcome.Goals as goal

pub returns : goal.returns
returns c = λ input is.
    answered c.args.choice c.args.outcome input c.in_ok-owed.owed _ _ _ c.correct_answers_are_accepted.ensures c.made_flows_are_shaped.ensures is
    c.write.ensures.in_range c.write.ensures.spells c.in_ok-owed.ensures.owed c.in_ok-owed.ensures.made c.in_ok-owed.ensures.formed c.answer_kind.ensures
    c.in_ok-write.ensures.ok
