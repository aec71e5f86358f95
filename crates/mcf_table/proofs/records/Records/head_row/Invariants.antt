use Rattle.std.proofs.Common.{◌≡◌, ◌+◌, length, map, min}
use Rattle.mcf_table.proofs.HeadRowLemmas.{NoneBelow}
use Rattle.mcf_table.proofs.records.Records.head_row.Given as goal

abbrev pub invariant-rows : goal.invariant-rows
invariant-rows l = record {
  end : l.end ≡ min (length l.self) (l.from + 10);
  none : NoneBelow l.from (map (λ head. head.now) l.wanted) l.self l.row;
}
