use Rattle.std.proofs.Common.{rules, length}
use Rattle.std.specs.List.{flat_map, range_with_len}
use Rattle.mcf_plan_rows.specs.BottleneckRows.{route_led_rows, set_rows, side_rows}
use Rattle.mcf_plan_rows.specs.FaultRows.{tables_in}
use Rattle.mcf_plan_rows.proofs.TableTexts.{sets_put}
use Rattle.mcf_plan_rows.proofs.bottleneck_rows.put_bottleneck.Goals as goal

pub returns : goal.returns
returns c =
    let b = c.args.blocked in
    let two = tables_in c.args.two in
    sets_put c.put_leading.result c.args.out.now.items c.put_side.new.out.items c.put_members.new.out.items c.put_leading.new.out.items
    (side_rows b.planner.now b.scales b.bottleneck.now)
    (flat_map (set_rows c.args.two.places.now b.planner.now b.scales b.bottleneck.now) (range_with_len 0 (length b.bottleneck.now.entries.items)))
    (flat_map (route_led_rows two b.planner.now b.scales b.bottleneck.now) (range_with_len 0 (length b.planner.now.routes)))
    (search rules) (search rules) (search rules)
