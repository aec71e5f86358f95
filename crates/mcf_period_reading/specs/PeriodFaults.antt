-- Faults of what tables say about periods, at their places.
-- Source: own
use Rattle.std.specs.Prelude.{ℕ, Bool, if◌then◌else◌, List, [], ◌∷◌, Option, Some, None}
use Rattle.mcf_reading.specs.declared.locations.Table.{Table}
use Rattle.mcf_period_reading.specs.declared.heads.PeriodHead.{PeriodHead}
use Rattle.mcf_period_reading.specs.declared.kinds.PeriodFault.{PeriodFault}
use Rattle.mcf_period_reading.specs.declared.kinds.PeriodKind.{PeriodKind}

-- the kind, if the test holds
abbrev pub if_kind : Bool → PeriodKind → Option PeriodKind
if_kind test kind = if test then Some kind else None

-- the fault of a kind in a row, under a head, if there is one
abbrev pub told : Table → ℕ → PeriodHead → Option PeriodKind → List PeriodFault
told table row under None = []
told table row under (Some kind) = record { table = table; row = row; head = under; kind = kind } ∷ []
