use Rattle.std.proofs.Common.{ap, sym, ◌∙◌}
use Rattle.mcf_flows.specs.Network.{Network, node_count}
use Rattle.mcf_scaling.proofs.EngineSteps.{end_feasible, end_least, end_prices, end_scaled, under_way_next, under_way_start}
use Rattle.mcf_scaling.proofs.scaling.run_phases.Goals as goal

pub phases-init : goal.phases-init
phases-init c =
    under_way_start c.args.refine.flow c.args.refine c.requires.feasible c.requires.start c.requires.valid

pub phases-preserved : goal.phases-preserved
phases-preserved c =
    under_way_next c.args.refine.flow c.phases.refine c.begin.new.self c.discharge_all.new.refine c.phases.invariant c.begin.ensures.step c.discharge_all.ensures.run
    c.discharge_all.ensures.rest c.discharge_all.ensures.valid

pub priced-requires-clause-room : goal.priced-requires-clause-room
priced-requires-clause-room c =
    c.requires.room ∙ sym (ap (λ (g : Network). node_count g) (end_feasible c.args.refine.flow c.phases.refine c.phases.invariant).of_net)

pub returns-clause-least : goal.returns-clause-least
returns-clause-least c =
    end_least c.args.refine.flow c.phases.refine c.priced.result.0 c.priced.result.1.items c.phases.invariant c.priced.ensures.state c.priced.ensures.prices

pub returns-clause-shown : goal.returns-clause-shown
returns-clause-shown c =
    end_prices c.args.refine.flow c.phases.refine c.priced.result.0 c.priced.result.1.items c.phases.invariant c.priced.ensures.state c.priced.ensures.prices

pub returns-clause-made : goal.returns-clause-made
returns-clause-made c =
    end_scaled c.args.refine.flow c.phases.refine c.priced.result.0 c.priced.result.2 c.requires.feasible c.phases.invariant c.phases-test.ensures.yes
    c.priced.ensures.state c.priced.ensures.steps
