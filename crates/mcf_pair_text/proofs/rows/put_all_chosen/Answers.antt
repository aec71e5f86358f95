use Rattle.std.proofs.Common.{rules, ◌≡◌, ◌++◌, ◌<◌, length}
use Rattle.mcf_answer_rows.proofs.RowTexts.{sets_step}
use Rattle.mcf_answer_rows.specs.Lines.{rows_text}
use Rattle.mcf_pair_text.specs.PairPlaces.{sheet_in}
use Rattle.mcf_pair_text.specs.PairRows.{chosen_rows}
use Rattle.mcf_pair_text.proofs.rows.put_all_chosen.Goals as goal

pub loop-place-preserved : goal.loop-place-preserved
loop-place-preserved c =
    let rows = chosen_rows (sheet_in c.args.page) c.args.table.now c.args.chosen.now in
    let small : c.loop-place.place < length c.args.chosen.now = search rules in
    let put : c.put_chosen.new.out.items ≡ c.loop-place.out.items ++ rows_text (rows c.loop-place.place) = search rules in
    sets_step rows _ _ _ c.loop-place.place (length c.args.chosen.now) small c.loop-place.invariant put
