use Rattle.std.proofs.Common.{◌≡◌, ◌+◌, ◌<◌, ℕ, true}
use Rattle.mcf_reading.specs.HeadTexts.{column_under}
use Rattle.mcf_reading.specs.declared.locations.Head.TheVariants.{Most}
use Rattle.mcf_reading.proofs.heads.further_count.Given as goal
use Rattle.mcf_table.specs.Heads.{is_there}

abbrev pub invariant-loop-count : goal.invariant-loop-count
invariant-loop-count l = (k : ℕ) → k < l.count → is_there (column_under l.records (Most (2 + k))) ≡ true
