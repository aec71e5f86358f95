use Rattle.std.proofs.Common.{rules, ◌≡◌, ◌++◌, ◌<◌, length}
use Rattle.mcf_answer_rows.proofs.RowTexts.{sets_step}
use Rattle.mcf_answer_rows.specs.Lines.{rows_text}
use Rattle.mcf_range_text.specs.PassRangeTexts.{pass_range_at}
use Rattle.mcf_range_text.proofs.unit_rows.put_passes.Goals as goal

pub loop-place-preserved : goal.loop-place-preserved
loop-place-preserved c =
    let rows = pass_range_at c.args.scales c.args.places.now c.args.ranges.now in
    let small : c.loop-place.place < length c.args.ranges.now = search rules in
    let put : c.put_pass.new.out.items ≡ c.loop-place.out.items ++ rows_text (rows c.loop-place.place) = search rules in
    sets_step rows _ _ _ c.loop-place.place (length c.args.ranges.now) small c.loop-place.invariant put
