use Rattle.std.proofs.Common.{◌≡◌, map}
use Rattle.mcf_names.proofs.DistinctLemmas.{distinct_to}
use Rattle.mcf_names.proofs.names.Names.distinct.Given as goal

abbrev pub invariant-names : goal.invariant-names
invariant-names l = map (λ name. name.now) l.kept.items ≡ distinct_to l.self l.place
