use Rattle.std.proofs.Common.{◌≡◌, ◌++◌, ◌-◌, length}
use Rattle.mcf_table.specs.Heads.{beyond, heads}
use Rattle.mcf_table.proofs.HeadLemmas.{rows_left}
use Rattle.mcf_table.proofs.records.Records.beyond.Given as goal

abbrev pub invariant-rows : goal.invariant-rows
invariant-rows l = record {
  first : l.first ≡ length (heads l.self);
  left : l.found.items ++ rows_left l.self l.row ≡ beyond l.self;
}

abbrev pub decreases-rows : goal.decreases-rows
decreases-rows l = length l.self - l.row
