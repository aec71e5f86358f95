use Rattle.std.proofs.Common.{subst, refl}
use Rattle.mcf_basis.specs.Structures.{state_of}
use Rattle.mcf_simplex.proofs.Ending.{made_by_run, run_outcome}
use Rattle.mcf_simplex.specs.Private.Loops.{IsLoop}
use Rattle.mcf_simplex.specs.Runs.{RuleState}
use Rattle.mcf_simplex.proofs.simplex.SimplexEngine.solve.Goals as goal

pub returns-clause-asked : goal.returns-clause-asked
returns-clause-asked g c even =
    let loop = subst (λ (e : RuleState g.row.P.Denot). IsLoop g.P.Pricing.Picks e.rule c.in_ok-room.room.basis c.run.new.rule c.run.new.basis) c.self.view_is
    c.run.ensures.run in (
      state_of c.run.new.basis,
      made_by_run g.P.Pricing.Picks c.args.self.now.rule c.args.net.now c.in_ok-room.room.basis c.run.new.rule c.run.new.basis (state_of c.run.new.basis)
          c.finish-ended.result.pivots.number c.in_ok-room.ensures.basis loop c.run.ensures.basis refl c.finish-ended.ensures.pivots,
    )

pub returns-clause-outcome : goal.returns-clause-outcome
returns-clause-outcome g c =
    let loop = subst (λ (e : RuleState g.row.P.Denot). IsLoop g.P.Pricing.Picks e.rule c.in_ok-room.room.basis c.run.new.rule c.run.new.basis) c.self.view_is
    c.run.ensures.run in
    run_outcome g.P.Pricing.Picks c.args.self.now.rule c.args.net.now c.in_ok-room.room.basis c.run.new.rule c.run.new.basis
    c.finish-ended.result.pivots.number c.finish-ended.result.outcome
    c.in_ok-room.ensures.basis loop c.run.ensures.basis c.run.ensures.net c.finish-ended.ensures.pivots c.finish-ended.ensures.outcome
