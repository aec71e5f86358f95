-- What a pivot says that it moved round its cycle, as a number: 0 where it says that nothing moved.
-- Source: AMO 11.5, 11.6
use Rattle.std.specs.Prelude.{ℤ, pos}
use Rattle.mcf_basis.specs.declared.pivot.PivotStep.{PivotStep}
use Rattle.mcf_basis.specs.declared.pivot.PivotStep.TheVariants.{Moved, Still}

-- how much a pivot says that it moved; 0 where it says that nothing did
abbrev pub moved_by : PivotStep → ℤ
moved_by (Moved x) = x
moved_by Still = pos 0
