use Rattle.std.proofs.Common.{◌≡◌, drop, map}
use Rattle.std.specs.Prelude.{find}
use Rattle.mcf_table.specs.Texts.{is_filled}
use Rattle.mcf_forms.proofs.sheets.first_filled.Given as goal

abbrev pub invariant-loop-place : goal.invariant-loop-place
invariant-loop-place l = find is_filled (map (λ cell. cell.now) (drop l.place l.cells)) ≡ find is_filled (map (λ cell. cell.now) l.cells)
