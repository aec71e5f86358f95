use Rattle.std.proofs.Common.{map}
use Rattle.mcf_names.proofs.IndexLemmas.{ArePlacedTo}
use Rattle.mcf_names.proofs.sorted.with_places.Given as goal

abbrev pub invariant-names : goal.invariant-names
invariant-names l = ArePlacedTo (map (λ name. name.now) l.names) l.place l.made.items
