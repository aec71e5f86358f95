use Rattle.mcf_flows.specs.declared.problem.Side.TheVariants.{Send, Take}
use Rattle.mcf_flows.specs.Blocking.{in_table}
use Rattle.mcf_flows.proofs.Hoffman.{blocked_has_no_flow_lem}
use Rattle.mcf_flows.proofs.blocking.blocks.Goals as goal

pub returns-in-Send-clause-none : goal.returns-in-Send-clause-none
returns-in-Send-clause-none c =
    λ yes flow feasible. blocked_has_no_flow_lem c.args.instance.now (in_table c.args.table.now) Send flow c.blocks_by_send.ensures.well_formed.ends
    (c.blocks_by_send.ensures.exact.0 yes) feasible

pub returns-in-Take-clause-none : goal.returns-in-Take-clause-none
returns-in-Take-clause-none c =
    λ yes flow feasible. blocked_has_no_flow_lem c.args.instance.now (in_table c.args.table.now) Take flow c.blocks_by_take.ensures.well_formed.ends
    (c.blocks_by_take.ensures.exact.0 yes) feasible
