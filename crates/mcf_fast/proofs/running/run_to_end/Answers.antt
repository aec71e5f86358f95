use Rattle.std.proofs.Common.{◌∙◌, arith}
use Rattle.mcf_fast.proofs.Watched.{run_falls, run_on, run_over, run_start}
use Rattle.mcf_fast.proofs.running.run_to_end.Goals as goal

pub rounds-init : goal.rounds-init
rounds-init c = run_start c.args.net.now c.in_ok-run.run' c.in_ok-run.ensures.basis (c.in_ok-run.ensures.rule ∙ c.rule_for.ensures)

pub rounds-smaller : goal.rounds-smaller
rounds-smaller c = run_falls c.args.net.now c.rounds.run c.advance.new.self c.rounds.invariant _ (omega arith) c.rounds-test.ensures.run

pub rounds-preserved : goal.rounds-preserved
rounds-preserved c = run_on c.args.net.now c.rounds.run c.advance.new.self c.rounds.invariant _ c.rounds-test.ensures.run

pub returns : goal.returns
returns c =
    run_over c.args.net.now c.rounds.run c.advance.new.self c.rounds.invariant c.finish.result.pivots.number c.finish.result.outcome
    c.rounds-test.ensures.run c.finish.ensures.pivots c.finish.ensures.outcome
