use Rattle.std.proofs.Common.{◌≡◌, take}
use Rattle.std.specs.Prelude.{filter}
use Rattle.mcf_forms.specs.Wishes.{is_rank}
use Rattle.mcf_forms.proofs.sheets.ranks_among.Given as goal

abbrev pub invariant-loop-place : goal.invariant-loop-place
invariant-loop-place l = l.made.items ≡ filter is_rank (take l.place l.numbers)
