use Rattle.std.proofs.Common.{◌≡◌, drop, take}
use Rattle.mcf_forms.proofs.wishes.rows_from.Given as goal

abbrev pub invariant-loop-place : goal.invariant-loop-place
invariant-loop-place l = l.made ≡ take l.place (drop l.first l.records)
