use Rattle.mcf_double_solver.proofs.planning.judged_cut.Goals as goal

pub returns-then-judge_transport_cut-clause-right : goal.returns-then-judge_transport_cut-clause-right
returns-then-judge_transport_cut-clause-right c = c.judge_transport_cut.ensures.none c.if-judge_transport_cut.true
