use Rattle.std.proofs.Common.{arith}
use Rattle.mcf_range_text.proofs.PassLaws.{few_routes}
use Rattle.mcf_range_text.proofs.passes.first_number.Goals as goal

pub overflow_add-result : goal.overflow_add-result
overflow_add-result c =
    omega (arith, c.route_count.ensures.value, few_routes c.args.planner.now c.args.least.now c.requires, c.args.least.now.shown.carries.small)

pub returns-clause-few : goal.returns-clause-few
returns-clause-few c =
    omega (arith, c.route_count.ensures.value, few_routes c.args.planner.now c.args.least.now c.requires, c.args.least.now.shown.carries.small)
