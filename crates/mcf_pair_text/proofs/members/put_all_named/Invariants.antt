use Rattle.std.proofs.Common.{◌≡◌, ◌++◌, drop, map}
use Rattle.mcf_answer_rows.specs.Lines.{rows_text}
use Rattle.mcf_pair_text.specs.MemberRows.{named_row}
use Rattle.mcf_pair_text.proofs.members.put_all_named.Given as goal

abbrev pub invariant-loop-place : goal.invariant-loop-place
invariant-loop-place l =
    l.out.items ++ rows_text (map (named_row l.kind.word.now l.kind.records.now l.under) (drop l.place l.names))
    ≡ l.initial.out.items ++ rows_text (map (named_row l.kind.word.now l.kind.records.now l.under) l.names)
