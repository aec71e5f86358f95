use Rattle.std.proofs.Common.{◌≡◌, ◌++◌, length, ◌-◌}
use Rattle.std.specs.List.{flat_map, range_with_len}
use Rattle.mcf_answer_rows.specs.Lines.{rows_text}
use Rattle.mcf_pair_text.specs.MemberRows.{member_rows}
use Rattle.mcf_pair_text.proofs.members.put_members.Given as goal

abbrev pub invariant-loop-place : goal.invariant-loop-place
invariant-loop-place l =
    l.out.items ++ rows_text (flat_map (member_rows l.kind.word.now l.kind.records.now l.under l.side.names.now l.side.tests.now l.side.amounts.now) (range_with_len l.place (length l.side.tests.now - l.place)))
    ≡ l.initial.out.items ++ rows_text (flat_map (member_rows l.kind.word.now l.kind.records.now l.under l.side.names.now l.side.tests.now l.side.amounts.now) (range_with_len 0 (length l.side.tests.now)))
