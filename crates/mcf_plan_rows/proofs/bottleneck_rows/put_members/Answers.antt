use Rattle.std.proofs.Common.{rules, ◌≡◌, ◌++◌, ◌<◌, length}
use Rattle.mcf_answer_rows.specs.Lines.{rows_text}
use Rattle.mcf_plan_rows.specs.BottleneckRows.{set_rows}
use Rattle.mcf_answer_rows.proofs.RowTexts.{sets_step}
use Rattle.mcf_plan_rows.proofs.bottleneck_rows.put_members.Goals as goal

pub loop-place-preserved : goal.loop-place-preserved
loop-place-preserved c =
    let b = c.args.blocked in
    let rows = set_rows c.args.places.now b.planner.now b.scales b.bottleneck.now in
    let small : c.loop-place.place < length b.bottleneck.now.entries.items = search rules in
    let put : c.put_member.new.out.items ≡ c.loop-place.out.items ++ rows_text (rows c.loop-place.place) = search rules in
    sets_step rows _ _ _ c.loop-place.place (length b.bottleneck.now.entries.items) small c.loop-place.invariant put
