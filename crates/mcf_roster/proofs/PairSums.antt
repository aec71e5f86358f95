-- Sums over the pairs of a roster.
use Rattle.std.proofs.Common.{◌≡◌, ℕ, eqb, Bool, true, false, List, [], ◌∷◌, length, map, refl, ap, arith, ℤ, pos, ◌+ℤ◌}
use Rattle.std.specs.Prelude.{cond}
use Rattle.std.specs.List.{All, filter}
use Rattle.std.proofs.lemmas.Int.{ints}
use Rattle.std.proofs.lemmas.List.Elements.{All-head, All-tail}
use Rattle.mcf_flows.specs.Network.{IsNode, node_sum, when}
use Rattle.mcf_flows.proofs.NodeSums.{node_sum-add, node_sum-in, node_sum-zero}
use Rattle.mcf_model.specs.Bottlenecks.{route_sum}
use Rattle.mcf_model.specs.Model.{Route, plan_sum}
use Rattle.mcf_roster.specs.declared.pairs.Pair.{Pair}
use Rattle.mcf_roster.specs.Competitions.{pair_count}
use Rattle.mcf_roster.specs.Models.{amount_of, pair_route}
use Rattle.mcf_roster.specs.Rosters.{chosen_sum}

-- a sum over pairs and what their routes carry
abbrev pub amount_sum : (Pair → ℤ → ℤ) → List Pair → List ℤ → ℤ
amount_sum t [] xs = pos 0
amount_sum t (p ∷ ps) [] = pos 0
amount_sum t (p ∷ ps) (x ∷ xs) = t p x +ℤ amount_sum t ps xs

pub plan_sum-pairs : (t : Route → ℤ → ℤ) (n : ℕ) (ps : List Pair) (xs : List ℤ)
    → plan_sum t (map (pair_route n) ps) xs ≡ amount_sum (λ p x. t (pair_route n p) x) ps xs
plan_sum-pairs t n [] xs = refl
plan_sum-pairs t n (p ∷ ps) [] = refl
plan_sum-pairs t n (p ∷ ps) (x ∷ xs) = ap (λ z. t (pair_route n p) x +ℤ z) (plan_sum-pairs t n ps xs)

-- terms of which each is 0
pub no_amounts : (H : Pair → Type 0) (t : Pair → ℤ → ℤ) → ((p : Pair) (x : ℤ) → H p → t p x ≡ pos 0) → (ps : List Pair) (xs : List ℤ) → All H ps
    → amount_sum t ps xs ≡ pos 0
no_amounts H t e [] xs h = refl
no_amounts H t e (p ∷ ps) [] h = refl
no_amounts H t e (p ∷ ps) (x ∷ xs) h =
    omega (arith, ints, e p x (All-head H p ps h), no_amounts H t e ps xs (All-tail H p ps h))

pub same_amounts : (s t : Pair → ℤ → ℤ) → ((p : Pair) (x : ℤ) → s p x ≡ t p x) → (ps : List Pair) (xs : List ℤ) → amount_sum s ps xs ≡ amount_sum t ps xs
same_amounts s t e [] xs = refl
same_amounts s t e (p ∷ ps) [] = refl
same_amounts s t e (p ∷ ps) (x ∷ xs) = omega (arith, ints, e p x, same_amounts s t e ps xs)

-- a sum over the chosen pairs is one over what the routes of all pairs carry
pub chosen_amounts : (s : Pair → ℤ) (t : Pair → ℤ → ℤ) → ((p : Pair) (c : Bool) → when c (s p) ≡ t p (amount_of c)) → (ps : List Pair) (cs : List Bool)
    → chosen_sum s ps cs ≡ amount_sum t ps (map amount_of cs)
chosen_amounts s t e [] cs = refl
chosen_amounts s t e (p ∷ ps) [] = refl
chosen_amounts s t e (p ∷ ps) (c ∷ cs) = omega (arith, ints, e p c, chosen_amounts s t e ps cs)

-- what the pairs of each person, or of each thing, carry is what all carry
pub spread : (end : Pair → ℕ) (n : ℕ) (ps : List Pair) (xs : List ℤ) → All (λ p. IsNode n (end p)) ps
    → node_sum (λ v. amount_sum (λ p x. when (eqb (end p) v) x) ps xs) n ≡ amount_sum (λ p x. x) ps xs
spread end n [] xs h = node_sum-zero n
spread end n (p ∷ ps) [] h = node_sum-zero n
spread end n (p ∷ ps) (x ∷ xs) h =
    let here : node_sum (λ v. when (eqb (end p) v) x) n ≡ x = node_sum-in (λ v. true) (end p) x n (All-head (λ p. IsNode n (end p)) p ps h) in
    omega (
      arith,
      ints,
      node_sum-add (λ v. when (eqb (end p) v) x) (λ v. amount_sum (λ p x. when (eqb (end p) v) x) ps xs) n,
      here,
      spread end n ps xs (All-tail (λ p. IsNode n (end p)) p ps h),
    )

-- ---- sums over the routes of pairs

pub count_more : (test : Pair → Bool) (p : Pair) (ps : List Pair) → pair_count test (p ∷ ps) ≡ when (test p) (pos 1) +ℤ pair_count test ps
count_more test p ps = go (test p)
  where
    go : (b : Bool) → pos (length (cond b (p ∷ filter test ps) (filter test ps))) ≡ when b (pos 1) +ℤ pos (length (filter test ps))
    go true = omega (arith, ints)
    go false = omega (arith, ints)

pub pairs_counted : (H : Pair → Type 0) (n : ℕ) (t : Route → ℤ) (test : Pair → Bool) → ((p : Pair) → H p → t (pair_route n p) ≡ when (test p) (pos 1))
    → (ps : List Pair) → All H ps → route_sum t (map (pair_route n) ps) ≡ pair_count test ps
pairs_counted H n t test e [] h = refl
pairs_counted H n t test e (p ∷ ps) h =
    omega (arith, ints, count_more test p ps, e p (All-head H p ps h), pairs_counted H n t test e ps (All-tail H p ps h))

pub pairs_none : (n : ℕ) (t : Route → ℤ) → ((p : Pair) → t (pair_route n p) ≡ pos 0) → (ps : List Pair) → route_sum t (map (pair_route n) ps) ≡ pos 0
pairs_none n t e [] = refl
pairs_none n t e (p ∷ ps) = omega (arith, ints, e p, pairs_none n t e ps)
