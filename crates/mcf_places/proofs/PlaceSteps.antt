-- Steps of the loops over places.
use Rattle.std.proofs.Common.{◌≡◌, ℕ, zero, suc, ◌+◌, ◌<◌, List, [], ◌∷◌, length, take, get_or, refl, arith, add-one, ℤ, pos, neg_ℤ, ◌+ℤ◌, ◌-ℤ◌, ◌≤ℤ◌}
use Rattle.std.specs.List.{All}
use Rattle.std.proofs.lemmas.Int.{ints, clamps}
use Rattle.std.proofs.lemmas.List.Elements.{All-cons}
use Rattle.mcf_places.specs.declared.places.Place.{Place}
use Rattle.mcf_places.specs.Models.{hub_supply}
use Rattle.mcf_places.specs.Planners.{all_given, all_wanted, given, place_sum, wanted}

pub place_sum_more : (t : Place → ℤ) (ps : List Place) (i : ℕ) (d : Place) → i < length ps
    → place_sum (λ v p. t p) 1 (take (i + 1) ps) ≡ place_sum (λ v p. t p) 1 (take i ps) +ℤ t (get_or ps i d)
place_sum_more t ps i d h = rw add-one (go 1 ps i h)
  where
    go : (v : ℕ) (ps : List Place) (i : ℕ) → i < length ps
        → place_sum (λ v p. t p) v (take (suc i) ps) ≡ place_sum (λ v p. t p) v (take i ps) +ℤ t (get_or ps i d)
    go v [] i h = absurd (omega arith)
    go v (p ∷ ps) zero h = omega (arith, ints)
    go v (p ∷ ps) (suc i) h = omega (arith, ints, go (suc v) ps i (omega arith))

-- the hub balances what is given and what is wanted
pub hub_is : (ps : List Place) → hub_supply ps ≡ all_wanted ps -ℤ all_given ps
hub_is ps = go 1 ps
  where
    go : (v : ℕ) (ps : List Place)
        → place_sum (λ j p. neg_ℤ p.supply) v ps ≡ place_sum (λ j p. wanted p) v ps -ℤ place_sum (λ j p. given p) v ps
    go v [] = refl
    go v (p ∷ ps) = omega (arith, ints, clamps, go (suc v) ps)

-- no place gives, or wants, more than all
pub each_small : (ps : List Place) (k : ℤ) → (all_given ps +ℤ all_wanted ps) ≤ℤ k → All (λ p. (given p ≤ℤ k) × (wanted p ≤ℤ k)) ps
each_small ps k h = (go 1 ps h).0
  where
    go : (v : ℕ) (ps : List Place) → (place_sum (λ j p. given p) v ps +ℤ place_sum (λ j p. wanted p) v ps) ≤ℤ k
        → All (λ p. (given p ≤ℤ k) × (wanted p ≤ℤ k)) ps × (pos 0 ≤ℤ place_sum (λ j p. given p) v ps) × (pos 0 ≤ℤ place_sum (λ j p. wanted p) v ps)
    go v [] h = ((λ i d l. absurd (omega arith)), omega (arith, ints), omega (arith, ints))
    go v (p ∷ ps) h =
        let low : (pos 0 ≤ℤ given p) × (pos 0 ≤ℤ wanted p) = (omega (arith, ints, clamps), omega (arith, ints, clamps)) in
        let later = go (suc v) ps (omega (arith, ints, low, h)) in (
          All-cons (λ p. (given p ≤ℤ k) × (wanted p ≤ℤ k)) p ps (omega (arith, ints, low, later.1, later.2, h), omega (arith, ints, low, later.1, later.2, h))
              later.0,
          omega (arith, ints, low, later.1),
          omega (arith, ints, low, later.2),
        )
