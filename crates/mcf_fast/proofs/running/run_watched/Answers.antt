use Rattle.std.proofs.Common.{◌∙◌, ap, sym, subst, arith}
use Rattle.mcf_basis.specs.Ranks.{rank_above}
use Rattle.mcf_simplex.specs.Following.{FollowingRule}
use Rattle.mcf_simplex.specs.Runs.{RunState}
use Rattle.mcf_fast.proofs.Watched.{IsRunOf, run_falls, run_left, run_on, run_over, run_start}
use Rattle.mcf_fast.proofs.running.run_watched.Goals as goal

pub quarters-init : goal.quarters-init
quarters-init c =
    record {
      run = subst (λ (r : RunState FollowingRule). IsRunOf c.args.net.now r) (sym c.set_least_arcs.ensures)
          (run_start c.args.net.now c.in_ok-run.run' c.in_ok-run.ensures.basis (c.in_ok-run.ensures.rule ∙ c.rule_for.ensures));
      step = c.of-watch.ensures.step;
      part = c.of-watch.ensures.part;
    }

pub returns-then-eq : goal.returns-then-eq
returns-then-eq c =
    run_left c.args.net.now c.quarters.run c.advance.new.self c.quarters.invariant.run c.step.result c.leave.result.number c.step.ensures
    c.quarters-test.ensures.run c.leave.ensures

pub quarters-smaller : goal.quarters-smaller
quarters-smaller c =
    let falls = run_falls c.args.net.now c.quarters.run c.advance.new.self c.quarters.invariant.run c.step.result c.step.ensures c.quarters-test.ensures.run in
    let same = ap (λ (r : RunState FollowingRule). rank_above r.basis) c.obey.ensures in
    omega (arith, falls, same)

pub quarters-preserved : goal.quarters-preserved
quarters-preserved c =
    record {
      run = subst (λ (r : RunState FollowingRule). IsRunOf c.args.net.now r) (sym c.obey.ensures)
          (run_on c.args.net.now c.quarters.run c.advance.new.self c.quarters.invariant.run c.step.result c.quarters-test.ensures.run);
      step = (let same = c.decide-decision.ensures.step in let some = c.quarters.invariant.step in omega (arith, same, some));
      part = (let same = c.decide-decision.ensures.part in let some = c.quarters.invariant.part in omega (arith, same, some));
    }

pub returns : goal.returns
returns c =
    run_over c.args.net.now c.quarters.run c.advance.new.self c.quarters.invariant.run c.finish.result.pivots.number c.finish.result.outcome
    c.quarters-test.ensures.run c.finish.ensures.pivots c.finish.ensures.outcome
