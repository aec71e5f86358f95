use Rattle.std.proofs.Common.{◌≡◌, drop}
use Rattle.std.specs.List.{list_any}
use Rattle.mcf_reading.specs.NearHeads.{is_title_of}
use Rattle.mcf_reading.proofs.near_heads.is_read.Given as goal

abbrev pub invariant-loop-place : goal.invariant-loop-place
invariant-loop-place l = list_any (is_title_of l.title) (drop l.place l.read) ≡ list_any (is_title_of l.title) l.read
