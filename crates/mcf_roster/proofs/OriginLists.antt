-- Entries of lists that are put together from lists with an entry for each number from 1 on.
use Rattle.std.proofs.Common.{◌≡◌, ℕ, ◌+◌, ◌-◌, ◌<◌, ◌≤◌, List, ◌++◌, length, map, get_or, ap, sym, ◌∙◌, subst, arith}
use Rattle.std.specs.List.{range_with_len}
use Rattle.std.proofs.lemmas.List.{get_or-append_right, get_or_append_left, get_or_past}
use Rattle.std.proofs.lemmas.List.FromFn.{get_or-map-range_with_len, length-map-range_with_len}
use Rattle.mcf_roster.specs.declared.origins.Origin.{Origin}
use Rattle.mcf_roster.specs.declared.origins.Origin.TheVariants.{OfPair, OfPerson, OfThing, OfAll}
use Rattle.mcf_roster.specs.declared.pairs.Pair.{Pair}
use Rattle.mcf_roster.specs.declared.pairs.Range.{Range}
use Rattle.mcf_roster.specs.Origins.{arc_origins, side_origins}
use Rattle.mcf_roster.specs.Rosters.{Roster}

module _ {X : Type 0} (f : ℕ → X) (n i : ℕ) (rest : List X) (d : X) where
  pub entry_here : i < n → get_or (map f (range_with_len 1 n) ++ rest) i d ≡ f (i + 1)
  entry_here h =
      get_or_append_left (map f (range_with_len 1 n)) rest d i (omega (arith, h, length-map-range_with_len f 1 n))
      ∙ get_or-map-range_with_len f 1 n i (i + 1) d h (omega arith)

  pub entry_later : n ≤ i → get_or (map f (range_with_len 1 n) ++ rest) i d ≡ get_or rest (i - n) d
  entry_later h = get_or-append_right (map f (range_with_len 1 n)) rest n i d (length-map-range_with_len f 1 n) h

module _ (persons things i : ℕ) where
  abbrev others : List Origin
  others = map OfThing (range_with_len 1 things)

  pub person_here : i < persons → OfPerson (i + 1) ≡ get_or (side_origins persons things) i OfAll
  person_here h = sym (entry_here OfPerson persons i others OfAll h)

  pub thing_here : persons ≤ i → i - persons < things → OfThing (i - persons + 1) ≡ get_or (side_origins persons things) i OfAll
  thing_here h k =
      sym
      (entry_later OfPerson persons i others OfAll h
      ∙ get_or-map-range_with_len OfThing 1 things (i - persons) (i - persons + 1) OfAll k (omega arith))

  pub none_here : persons ≤ i → things ≤ i - persons → OfAll ≡ get_or (side_origins persons things) i OfAll
  none_here h k =
      sym
      (entry_later OfPerson persons i others OfAll h
      ∙ get_or_past others (i - persons) OfAll (omega (arith, k, length-map-range_with_len OfThing 1 things)))

module _ (R : Roster) (pairs : List Pair) (same : pairs ≡ R.pairs) (arc : ℕ) where
  pub pair_here : arc < length pairs → OfPair (arc + 1) ≡ get_or (arc_origins R) arc OfAll
  pair_here h =
      sym (entry_here OfPair (length R.pairs) arc (side_origins (length R.takes) (length R.needs)) OfAll (subst (λ ps. arc < length ps) same h))

  pub side_here : (takes needs : List Range) (found : Origin) → takes ≡ R.takes → needs ≡ R.needs → length pairs ≤ arc
      → found ≡ get_or (side_origins (length takes) (length needs)) (arc - length pairs) OfAll → found ≡ get_or (arc_origins R) arc OfAll
  side_here takes needs found e f h is =
      is ∙ ap (λ ps. get_or (side_origins (length takes) (length needs)) (arc - length ps) OfAll) same
      ∙ ap (λ ts. get_or (side_origins (length ts) (length needs)) (arc - length R.pairs) OfAll) e
      ∙ ap (λ ns. get_or (side_origins (length R.takes) (length ns)) (arc - length R.pairs) OfAll) f
      ∙ sym
      (entry_later OfPair (length R.pairs) arc (side_origins (length R.takes) (length R.needs)) OfAll (subst (λ ps. length ps ≤ arc) same h))
