-- Groups, as they are seen, one after the other.
use Rattle.std.proofs.Common.{◌≡◌, List, [], ◌∷◌, ◌++◌, map, ap, ◌∙◌}
use Rattle.std.proofs.lemmas.List.{map_push}
use Rattle.mcf_groups.specs.declared.groups.Group.{Group}
use Rattle.mcf_pair_tables.specs.PairGroups.{Seen, seen}

-- a group more
pub seen_pushed : (old new : List Group) (g : Group) (s : Seen) → new ≡ old ++ g ∷ [] → seen g ≡ s → map seen new ≡ map seen old ++ s ∷ []
seen_pushed old new g s put is = ap (map seen) put ∙ map_push seen old g ∙ ap (λ (x : Seen). map seen old ++ x ∷ []) is
