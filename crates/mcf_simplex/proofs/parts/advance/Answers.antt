use Rattle.std.proofs.Common.{arith, subst}
use Rattle.mcf_basis.specs.Steps.{moved_by}
use Rattle.mcf_simplex.specs.Runs.{Reached}
use Rattle.mcf_simplex.proofs.Running.{moved_on_next, moved_on_start}
use Rattle.mcf_simplex.proofs.parts.advance.Goals as goal

pub loop-made-init : goal.loop-made-init
loop-made-init g c = moved_on_start g.P.Pricing.Picks c.args.rule.now c.args.basis.now c.requires

pub loop-made-preserved : goal.loop-made-preserved
loop-made-preserved g c =
    moved_on_next g.P.Pricing.Picks c.args.rule.now c.args.basis.now c.loop-made.rule c.pick.new.self c.loop-made.basis c.pivot-step.new.self c.loop-made.made
    c.in-Some.k (moved_by c.pivot-step.result) c.loop-made.invariant c.in-Some.ensures.picks c.pivot-step.ensures.step c.pivot-step.ensures.falls
    c.pivot-step.ensures.basis

pub returns-in_default-clause-run : goal.returns-in_default-clause-run
returns-in_default-clause-run g c =
    record {
      rule = c.loop-made.rule;
      pivots = c.loop-made.made;
      reached = c.loop-made.invariant.reached;
      found_none = c.in_default.ensures.picks;
    }

pub returns-in_default-clause-net : goal.returns-in_default-clause-net
returns-in_default-clause-net g c = c.loop-made.invariant.net

pub returns-in_default-clause-basis : goal.returns-in_default-clause-basis
returns-in_default-clause-basis g c = c.loop-made.invariant.basis

pub returns-clause-run : goal.returns-clause-run
returns-clause-run g c =
    subst (Reached g.P.Pricing.Picks c.args.rule.now c.args.basis.now c.loop-made.rule c.loop-made.basis)
    (let end = c.loop-made.auto.made-end in let over = c.loop-made-test.false in omega (arith, end, over)) c.loop-made.invariant.reached

pub returns-clause-net : goal.returns-clause-net
returns-clause-net g c = c.loop-made.invariant.net

pub returns-clause-basis : goal.returns-clause-basis
returns-clause-basis g c = c.loop-made.invariant.basis
