use Rattle.std.proofs.Common.{rules}
use Rattle.std.specs.List.{AllZip}
use Rattle.std.specs.Prelude.{IfOk}
use Rattle.mcf_ranges.specs.Ranges.{IsCostRange}
use Rattle.mcf_c.proofs.RangeLists.{as_long}
use Rattle.mcf_c.proofs.cost_ranges.ranges_for.Goals as goal

pub returns-clause-long : goal.returns-clause-long
returns-clause-long c =
    let R = IsCostRange c.args.instance.now c.args.shown.now.flow.now in
    let found : IfOk c.cost_ranges.result (λ ys. AllZip R c.args.arcs.now ys.items) = search rules in
    as_long c.cost_ranges.result R c.args.arcs.now found
