-- Steps of the loops that make the arcs of a model.
use Rattle.std.proofs.Common.{◌≡◌, ℕ, zero, suc, ◌+◌, ◌<◌, ◌≤◌, List, [], ◌∷◌, ◌++◌, length, map, drop, get_or, refl, ap, ◌∙◌, arith, add-one, drop-cons, append_assoc, ℤ, ◌-ℤ◌}
use Rattle.std.proofs.lemmas.List.{map-append}
use Rattle.std.specs.Int.{int_min}
use Rattle.mcf_flows.specs.declared.arc.Arc.{Arc}
use Rattle.mcf_instance.specs.declared.arrays.RawArc.{RawArc}
use Rattle.mcf_instance.specs.Arrays.{arc_of_numbers}
use Rattle.mcf_model.specs.declared.rows.Step.{Step}
use Rattle.mcf_model.specs.Arcs.{last_arc, step_arc, way}

-- the arcs that are made so far, and those still to come
pub pushed : (old new : List RawArc) (arc : RawArc) (a : Arc) (rest : List Arc) → new ≡ old ++ arc ∷ [] → arc_of_numbers arc ≡ a
    → map arc_of_numbers new ++ rest ≡ map arc_of_numbers old ++ a ∷ rest
pushed old new arc a rest e k =
    ap (λ xs. map arc_of_numbers xs ++ rest) e
    ∙ ap (λ xs. xs ++ rest) (map-append arc_of_numbers old (arc ∷ []))
    ∙ append_assoc (map arc_of_numbers old) (arc_of_numbers arc ∷ []) rest
    ∙ ap (λ b. map arc_of_numbers old ++ b ∷ rest) k

pub way_more : (tail head : ℕ) (rest : ℤ) (steps : List Step) (i : ℕ) (d : Step) (cap c : ℤ) → i < length steps
    → way tail head rest (drop i steps) cap c
    ≡ step_arc tail head rest (get_or steps i d) ∷ way tail head (rest -ℤ int_min rest (get_or steps i d).most) (drop (i + 1) steps) cap c
way_more tail head rest steps i d cap c h =
    rw add-one (ap (λ xs. way tail head rest xs cap c) (drop-cons steps i d h))

pub way_end : (tail head : ℕ) (rest : ℤ) (steps : List Step) (i : ℕ) (cap c : ℤ) → length steps ≤ i
    → way tail head rest (drop i steps) cap c ≡ last_arc tail head rest cap c ∷ []
way_end tail head rest [] zero cap c h = refl
way_end tail head rest [] (suc i) cap c h = refl
way_end tail head rest (s ∷ steps) zero cap c h = absurd (omega arith)
way_end tail head rest (s ∷ steps) (suc i) cap c h = way_end tail head rest steps i cap c (omega arith)
