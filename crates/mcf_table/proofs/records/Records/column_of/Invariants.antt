use Rattle.std.proofs.Common.{◌≡◌, ◌-◌, length}
use Rattle.mcf_table.specs.Heads.{column_of, heads}
use Rattle.mcf_table.specs.Private.Found.{also_at_all}
use Rattle.mcf_table.proofs.HeadLemmas.{heads_left}
use Rattle.mcf_table.proofs.records.Records.column_of.Given as goal

abbrev pub invariant-heads : goal.invariant-heads
invariant-heads l = record {
  count : l.count ≡ length (heads l.self);
  left : also_at_all l.found (heads_left l.head l.self l.place) ≡ column_of l.head l.self;
}

abbrev pub decreases-heads : goal.decreases-heads
decreases-heads l = l.count - l.place
