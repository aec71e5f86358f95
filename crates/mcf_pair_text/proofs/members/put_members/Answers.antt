use Rattle.std.proofs.Common.{rules, ◌≡◌, ◌++◌, ◌<◌, false, length, true}
use Rattle.std.specs.Prelude.{slice_index_or}
use Rattle.mcf_answer_rows.proofs.RowTexts.{sets_step}
use Rattle.mcf_answer_rows.specs.Lines.{row_line}
use Rattle.mcf_names.specs.Names.{name_at}
use Rattle.mcf_pair_text.specs.MemberRows.{member_row, member_rows}
use Rattle.mcf_pair_text.proofs.MemberTexts.{passed_over, told_once}
use Rattle.mcf_pair_text.proofs.members.put_members.Goals as goal

pub loop-place-preserved-then-not-test_at : goal.loop-place-preserved-then-not-test_at
loop-place-preserved-then-not-test_at c =
    let k = c.args.kind in
    let m = c.args.side in
    let rows = member_rows k.word.now k.records.now c.args.under.now m.names.now m.tests.now m.amounts.now in
    let small : c.loop-place.place < length m.tests.now = search rules in
    let left : slice_index_or m.tests.now c.loop-place.place false ≡ false = search rules in
    sets_step rows _ _ _ c.loop-place.place (length m.tests.now) small c.loop-place.invariant
    (passed_over _ k.word.now k.records.now c.args.under.now m.names.now m.tests.now m.amounts.now c.loop-place.place left)

pub loop-place-preserved : goal.loop-place-preserved
loop-place-preserved c =
    let k = c.args.kind in
    let m = c.args.side in
    let rows = member_rows k.word.now k.records.now c.args.under.now m.names.now m.tests.now m.amounts.now in
    let small : c.loop-place.place < length m.tests.now = search rules in
    let taken : slice_index_or m.tests.now c.loop-place.place false ≡ true = search rules in
    let put : c.put_member.new.out.items ≡ c.loop-place.out.items ++ row_line (member_row k.word.now k.records.now c.args.under.now (name_at m.names.now c.loop-place.place) (slice_index_or m.amounts.now c.loop-place.place 0)) = search rules in
    sets_step rows _ _ _ c.loop-place.place (length m.tests.now) small c.loop-place.invariant
    (told_once _ _ k.word.now k.records.now c.args.under.now m.names.now m.tests.now m.amounts.now c.loop-place.place taken put)
