-- What the engine keeps while it offers the rows.
use Rattle.std.specs.Prelude.{ℕ}
use Rattle.mcf_flows.specs.Network.{Network}
use Rattle.mcf_matching.specs.declared.extended.Extended.{Extended}
use Rattle.mcf_matching.specs.declared.extended.Extended.TheVariants.{Matched, Blocked}
use Rattle.mcf_matching.specs.Extending.{Assigned}
use Rattle.mcf_assign.specs.Runs.{IsBlockedAtRow, Run, sources_to}

-- the rows up to a number were offered: all were matched, or the last one was blocked
abbrev pub AreOffered : Network → ℕ → Extended → Assigned → Type 0
AreOffered g n Matched m = Run g (sources_to g n) m
AreOffered g n Blocked m = IsBlockedAtRow g m.reached m.searches
