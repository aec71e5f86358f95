use Rattle.std.proofs.Common.{◌≡◌, drop}
use Rattle.std.specs.Prelude.{find}
use Rattle.mcf_reading.specs.NearHeads.{is_nearly}
use Rattle.mcf_reading.proofs.near_heads.near_word.Given as goal

abbrev pub invariant-loop-place : goal.invariant-loop-place
invariant-loop-place l =
    find (is_nearly l.table l.records l.meant.word.now l.meant.digits.now) (drop l.place l.heads)
    ≡ find (is_nearly l.table l.records l.meant.word.now l.meant.digits.now) l.heads
