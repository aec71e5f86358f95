use Rattle.mcf_basis.specs.Steps.{moved_by}
use Rattle.mcf_simplex.proofs.Running.{measure_falls, under_way_end, under_way_next, under_way_start}
use Rattle.mcf_simplex.proofs.run.run.Goals as goal

pub pivots-init : goal.pivots-init
pivots-init g c = under_way_start g.P.Pricing.Picks c.args.rule.now c.args.basis.now c.requires

pub pivots-smaller : goal.pivots-smaller
pivots-smaller g c =
    measure_falls c.pivots.basis c.pivot.new.self c.in-Some.k (moved_by c.pivot.result) c.pivots.invariant.basis c.pivot.ensures.basis
    c.pivot.ensures.step c.pivot.ensures.falls

pub pivots-preserved : goal.pivots-preserved
pivots-preserved g c =
    under_way_next g.P.Pricing.Picks c.args.rule.now c.args.basis.now c.pivots.rule c.pick.new.self c.pivots.basis c.pivot.new.self c.in-Some.k
    (moved_by c.pivot.result) c.pivots.invariant c.in-Some.ensures.picks c.pivot.ensures.step c.pivot.ensures.falls c.pivot.ensures.basis

pub returns-clause-run : goal.returns-clause-run
returns-clause-run g c =
    under_way_end g.P.Pricing.Picks c.args.rule.now c.args.basis.now c.pivots.rule c.pick.new.self c.pivots.basis c.requires
    c.pivots.invariant c.in_default.ensures.picks
