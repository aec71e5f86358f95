-- Steps of the loops that make the routes of a model, as rows.
use Rattle.std.proofs.Common.{◌≡◌, ℕ, ◌+◌, ◌-◌, List, [], ◌∷◌, ◌++◌, length, map, get_or, ap, sym, ◌∙◌, arith, append_assoc}
use Rattle.std.specs.List.{range_with_len}
use Rattle.std.proofs.lemmas.List.FromFn.{map-range_with_len_more}
use Rattle.mcf_roster.specs.declared.pairs.Range.{Range}
use Rattle.mcf_roster.specs.Models.{hub_of}
use Rattle.mcf_roster.specs.Rosters.{Roster, range_at}

-- one more entry of a list that is made number by number
pub entry_more : {X : Type 0} (f : ℕ → X) (first old new : List X) (i : ℕ) (x : X) → old ≡ first ++ map f (range_with_len 1 i) → new ≡ old ++ x ∷ []
    → x ≡ f (i + 1) → new ≡ first ++ map f (range_with_len 1 (i + 1))
entry_more f first old new i x e is x_is =
    is ∙ ap (λ xs. xs ++ x ∷ []) e ∙ append_assoc first (map f (range_with_len 1 i)) (x ∷ [])
    ∙ ap (λ y. first ++ (map f (range_with_len 1 i) ++ y ∷ [])) x_is
    ∙ ap (λ xs. first ++ xs) (sym (map-range_with_len_more f 1 i (i + 1) (omega arith)))

-- the range of the next person or thing
pub range_next : (ranges : List Range) (i : ℕ) → get_or ranges i (record { least = 0; most = 0 }) ≡ range_at ranges (i + 1)
range_next ranges i = let e : i ≡ i + 1 - 1 = omega arith in ap (λ j. get_or ranges j (record { least = 0; most = 0 })) e

-- the number of the hub, from lists of ranges
pub hub_is : (R : Roster) (takes needs : List Range) (hub : ℕ) → takes ≡ R.takes → needs ≡ R.needs → hub ≡ length takes + length needs + 1 → hub ≡ hub_of R
hub_is R takes needs hub e f is = is ∙ ap (λ t. length t + length needs + 1) e ∙ ap (λ n. length R.takes + length n + 1) f
