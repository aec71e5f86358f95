use Rattle.std.proofs.Common.{◌≡◌, ◌++◌}
use Rattle.std.specs.List.{flat_map, range_with_len}
use Rattle.mcf_reading.specs.HeadTexts.{step_heads}
use Rattle.mcf_reading.proofs.heads.push_steps.Given as goal

abbrev pub invariant-loop-place : goal.invariant-loop-place
invariant-loop-place l = l.heads.items ≡ l.initial.heads.items ++ flat_map step_heads (range_with_len l.first l.place)
