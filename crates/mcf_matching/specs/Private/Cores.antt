-- A matching in one of two widths.
use Rattle.mcf_matching.specs.declared.matching.Core.{Core}
use Rattle.mcf_matching.specs.declared.matching.Core.TheVariants.{Narrow, Wide}
use Rattle.mcf_matching.specs.Extending.{Assigned}

-- what clauses see of it
abbrev pub assigned_in : Core → Assigned
assigned_in (Narrow partial) = partial
assigned_in (Wide partial) = partial
