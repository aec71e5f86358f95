-- What a look at the residual arcs that leave a node finds.
use Rattle.std.proofs.Common.{◌≡◌, ◌∙◌, ℕ, ◌*◌, ◌^◌, List, [], ◌∷◌, Option, Some, None, ap, refl, sym, arith, subst, ℤ, pos, ◌+ℤ◌, ◌-ℤ◌, ◌≤ℤ◌, ◌<ℤ◌}
use Rattle.std.proofs.Common.{◌⊎◌, inl, inr}
use Rattle.std.specs.Int.{int_min}
use Rattle.std.specs.List.{All, Contains}
use Rattle.std.specs.Option.{IfSome, IfNone}
use Rattle.std.proofs.lemmas.Int.{by_lt_z, clamps, ints}
use Rattle.std.proofs.lemmas.List.Elements.{All-head, All-tail}
use Rattle.mcf_flows.specs.Network.{at_node}
use Rattle.mcf_flows.specs.WellFormed.{IsUpTo}
use Rattle.mcf_network.specs.declared.rid.Rid.{Rid}
use Rattle.mcf_network.specs.Residual.{tail}
use Rattle.mcf_network.specs.Stars.{Leaves, ListsLeaving}
use Rattle.mcf_network.specs.States.{Pseudoflow}
use Rattle.mcf_network.specs.Walks.{HasRoom}
use Rattle.mcf_network.proofs.Lists.{Contains-cons}
use Rattle.mcf_scaling.specs.Private.Leasts.{IsLowered, StandsFor, landed, nothing}
use Rattle.mcf_scaling.specs.Optimality.{IsAdmissible, IsLeastReduced, lesser_of, scaled_reduced}

pub nothing_in : {X : Type 0} (x : X) → Contains [] x → ⊥
nothing_in x (k, h, e) = omega (arith, h)

-- the number is at most another, and is there
abbrev pub IsAtMost : Option ℤ → ℤ → Type 0
IsAtMost None z = ⊥
IsAtMost (Some x) z = x ≤ℤ z

-- the least reduced cost of the residual arcs with room that leave the node, but those still to
-- come
pub record IsLeastSoFar (s : Pseudoflow) (prices : List ℤ) (v : ℕ) (least : Option ℤ) (rest : List Rid) : Type 0 where
  pub leaves : All (Leaves s.net v) rest
  pub each : (r : Rid) → HasRoom s r → tail s.net r ≡ v → IsAtMost least (scaled_reduced s.net prices r) ⊎ Contains rest r
  pub reached : IfSome least (λ x. (r : Rid) × HasRoom s r × (tail s.net r ≡ v) × (x ≡ scaled_reduced s.net prices r))

least_start : (s : Pseudoflow) (prices : List ℤ) (v : ℕ) (list : List Rid) → ListsLeaving s.net v list → IsLeastSoFar s prices v None list
least_start s prices v list lists =
    record {
      leaves = lists.each_leaves;
      each = λ r room from. inr (lists.every r (record { arc = room.arc; from = from }));
      reached = tt;
    }

at_most_lesser : (a b : Option ℤ) (z : ℤ) → IsAtMost a z → IsAtMost (lesser_of a b) z
at_most_lesser None b z h = absurd h
at_most_lesser (Some x) None z h = h
at_most_lesser (Some x) (Some y) z h = omega (arith, ints, clamps, h)

at_most_other : (a b : Option ℤ) (z : ℤ) → IsAtMost b z → IsAtMost (lesser_of a b) z
at_most_other None b z h = h
at_most_other (Some x) None z h = absurd h
at_most_other (Some x) (Some y) z h = omega (arith, ints, clamps, h)

lesser_is : (x y : ℤ) → (int_min x y ≡ x) ⊎ (int_min x y ≡ y)
lesser_is x y = by_lt_z x y (λ p. inl (omega (arith, ints, clamps, p))) (λ p. inr (omega (arith, ints, clamps, p)))

-- what a number stands for is one
stands_for_one : (x : ℤ) (a b : Option ℤ) → StandsFor x a → StandsFor x b → a ≡ b
stands_for_one x None None h k = refl
stands_for_one x None (Some z) h k = let low = k.1 in absurd (omega (arith, ints, h, low))
stands_for_one x (Some y) None h k = let low = h.1 in absurd (omega (arith, ints, k, low))
stands_for_one x (Some y) (Some z) h k = ap Some (sym h.0 ∙ k.0)

reached_lesser : (P : ℤ → Type 0) (a b : Option ℤ) → IfSome a P → IfSome b P → IfSome (lesser_of a b) P
reached_lesser P None b h k = k
reached_lesser P (Some x) None h k = h
reached_lesser P (Some x) (Some y) h k =
    elim (lesser_is x y) [
      | inl e ↦ subst P (sym e) h
      | inr e ↦ subst P (sym e) k
    ]

-- one residual arc more, without room
least_shut : (s : Pseudoflow) (prices : List ℤ) (v : ℕ) (least : Option ℤ) (r : Rid) (rest : List Rid) → IsLeastSoFar s prices v least (r ∷ rest)
    → ¬ HasRoom s r → IsLeastSoFar s prices v least rest
least_shut s prices v least r rest so none =
    record {
      leaves = All-tail (Leaves s.net v) r rest so.leaves;
      each = λ q room from. elim (so.each q room from) [
        | inl done ↦ inl done
        | inr waits ↦ elim (Contains-cons r rest q waits) [
          | inl same ↦ absurd (none (subst (HasRoom s) (sym same) room))
          | inr later ↦ inr later
        ]
      ];
      reached = so.reached;
    }

-- and one with room
least_open : (s : Pseudoflow) (prices : List ℤ) (v : ℕ) (least : Option ℤ) (r : Rid) (rest : List Rid) → IsLeastSoFar s prices v least (r ∷ rest)
    → HasRoom s r → IsLeastSoFar s prices v (lesser_of least (Some (scaled_reduced s.net prices r))) rest
least_open s prices v least r rest so some =
    let here = All-head (Leaves s.net v) r rest so.leaves in
    let b : Option ℤ = Some (scaled_reduced s.net prices r) in
    record {
      leaves = All-tail (Leaves s.net v) r rest so.leaves;
      each = λ q room from. elim (so.each q room from) [
        | inl done ↦ inl (at_most_lesser least b (scaled_reduced s.net prices q) done)
        | inr waits ↦ elim (Contains-cons r rest q waits) [
          | inl same ↦ inl (subst (λ (x : Rid). IsAtMost (lesser_of least b) (scaled_reduced s.net prices x)) same
              (at_most_other least b (scaled_reduced s.net prices r) (omega (arith, ints))))
          | inr later ↦ inr later
        ]
      ];
      reached = reached_lesser (λ x. (q : Rid) × HasRoom s q × (tail s.net q ≡ v) × (x ≡ scaled_reduced s.net prices q)) least b so.reached
          (r, some, here.from, refl);
    }

-- at the end
least_some : (s : Pseudoflow) (prices : List ℤ) (v : ℕ) (least : Option ℤ) → IsLeastSoFar s prices v least [] → IfSome least (IsLeastReduced s prices v)
least_some s prices v None so = tt
least_some s prices v (Some x) so =
    record {
      each = λ r room from. elim (so.each r room from) [
        | inl h ↦ h
        | inr k ↦ absurd (nothing_in r k)
      ];
      reached = so.reached;
    }

least_none : (s : Pseudoflow) (prices : List ℤ) (v : ℕ) (least : Option ℤ) → IsLeastSoFar s prices v least []
    → IfNone least ((r : Rid) → tail s.net r ≡ v → ¬ HasRoom s r)
least_none s prices v None so =
    λ r from room. elim (so.each r room from) [
      | inl h ↦ h
      | inr k ↦ nothing_in r k
    ]
least_none s prices v (Some x) so = tt

-- ---- a scan for the least, by a number that holds the price of the node, too

pub record IsScanned (s : Pseudoflow) (prices : List ℤ) (v : ℕ) (price least : ℤ) (rest : List Rid) : Type 0 where
  pub option : Option ℤ
  pub stands : StandsFor (least -ℤ price) option
  pub small : IsUpTo (2 * 10 ^ 31) least
  pub so : IsLeastSoFar s prices v option rest

pub scanned_start : (s : Pseudoflow) (prices : List ℤ) (v : ℕ) (price least : ℤ) (list : List Rid) → IsUpTo (10 ^ 29) price
    → least ≡ pos nothing +ℤ price → ListsLeaving s.net v list → IsScanned s prices v price least list
scanned_start s prices v price least list small e lists =
    let low = small.0 in
    let high = small.1 in
    record {
      option = None;
      stands = omega (arith, ints, e);
      small = (omega (arith, ints, e, low), omega (arith, ints, e, high));
      so = least_start s prices v list lists;
    }

-- the lesser of what a number stands for and of a number below all that stand for nothing
stands_lesser : (x z price : ℤ) (o : Option ℤ) → (z -ℤ price) <ℤ pos nothing → StandsFor (x -ℤ price) o
    → StandsFor (int_min x z -ℤ price) (lesser_of o (Some (z -ℤ price)))
stands_lesser x z price None less stands = (omega (arith, ints, clamps, less, stands), omega (arith, ints, clamps, less, stands))
stands_lesser x z price (Some y) less stands =
    let e = stands.0 in let low = stands.1 in (omega (arith, ints, clamps, e, less), omega (arith, ints, clamps, less, low))

scanned_shut : (s : Pseudoflow) (prices : List ℤ) (v : ℕ) (price least next : ℤ) (r : Rid) (rest : List Rid) → ¬ HasRoom s r → next ≡ least
    → IsScanned s prices v price least (r ∷ rest) → IsScanned s prices v price next rest
scanned_shut s prices v price least next r rest none same scan =
    record {
      option = scan.option;
      stands = subst (λ (x : ℤ). StandsFor (x -ℤ price) scan.option) (sym same) scan.stands;
      small = subst (IsUpTo (2 * 10 ^ 31)) (sym same) scan.small;
      so = least_shut s prices v scan.option r rest scan.so none;
    }

scanned_small : (x y z : ℤ) → y ≡ int_min x z → IsUpTo (2 * 10 ^ 31) x → IsUpTo (10 ^ 30) z → IsUpTo (2 * 10 ^ 31) y
scanned_small x y z e h k =
    let h_low = h.0 in
    let h_high = h.1 in
    let k_low = k.0 in
    let k_high = k.1 in
    (omega (arith, ints, clamps, e, h_low, k_low), omega (arith, ints, clamps, e, h_high, k_high))

pub landed_less : (s : Pseudoflow) (prices : List ℤ) (r : Rid) (price : ℤ) → price ≡ at_node prices (tail s.net r)
    → (landed s.net prices r -ℤ price) ≡ scaled_reduced s.net prices r
landed_less s prices r price is = omega (arith, ints, is)

less_than_nothing : (z price : ℤ) → IsUpTo (10 ^ 30) z → IsUpTo (10 ^ 29) price → (z -ℤ price) <ℤ pos nothing
less_than_nothing z price h k = let high = h.1 in let low = k.0 in omega (arith, ints, high, low)

scanned_open : (s : Pseudoflow) (prices : List ℤ) (v : ℕ) (price least next : ℤ) (r : Rid) (rest : List Rid) → IsUpTo (10 ^ 29) price
    → price ≡ at_node prices v → HasRoom s r → next ≡ int_min least (landed s.net prices r) → IsUpTo (10 ^ 30) (landed s.net prices r)
    → IsScanned s prices v price least (r ∷ rest) → IsScanned s prices v price next rest
scanned_open s prices v price least next r rest small is some same within scan =
    let z = landed s.net prices r in
    let here = All-head (Leaves s.net v) r rest scan.so.leaves in
    let reduced = landed_less s prices r price (is ∙ ap (at_node prices) (sym here.from)) in
    let stands = stands_lesser least z price scan.option (less_than_nothing z price within small) scan.stands in
    let now = subst (λ (x : ℤ). StandsFor (x -ℤ price) (lesser_of scan.option (Some (z -ℤ price)))) (sym same) stands in
    record {
      option = lesser_of scan.option (Some (scaled_reduced s.net prices r));
      stands = subst (λ (y : ℤ). StandsFor (next -ℤ price) (lesser_of scan.option (Some y))) reduced now;
      small = scanned_small least next z same scan.small within;
      so = least_open s prices v scan.option r rest scan.so some;
    }

pub scanned_next : (s : Pseudoflow) (prices : List ℤ) (v : ℕ) (price least next : ℤ) (r : Rid) (rest : List Rid) → IsUpTo (10 ^ 29) price
    → price ≡ at_node prices v → IsLowered s prices r least next → IsScanned s prices v price least (r ∷ rest)
    → IsScanned s prices v price next rest
scanned_next s prices v price least next r rest small is lowers scan =
    elim lowers [
      | inl shut ↦ scanned_shut s prices v price least next r rest shut.0 shut.1 scan
      | inr opens ↦ scanned_open s prices v price least next r rest small is opens.0 opens.1 opens.2 scan
    ]

pub scanned_some : (s : Pseudoflow) (prices : List ℤ) (v : ℕ) (price least : ℤ) (found : Option ℤ) (paid : ℤ) → paid ≡ price
    → IsScanned s prices v price least [] → StandsFor (least -ℤ paid) found → IfSome found (IsLeastReduced s prices v)
scanned_some s prices v price least found paid same scan is =
    subst (λ (x : Option ℤ). IfSome x (IsLeastReduced s prices v)) (stands_for_one (least -ℤ price) scan.option found scan.stands
    (subst (λ (x : ℤ). StandsFor (least -ℤ x) found) same is))
    (least_some s prices v scan.option scan.so)

pub scanned_none : (s : Pseudoflow) (prices : List ℤ) (v : ℕ) (price least : ℤ) (found : Option ℤ) (paid : ℤ) → paid ≡ price
    → IsScanned s prices v price least [] → StandsFor (least -ℤ paid) found → IfNone found ((r : Rid) → tail s.net r ≡ v → ¬ HasRoom s r)
scanned_none s prices v price least found paid same scan is =
    subst (λ (x : Option ℤ). IfNone x ((r : Rid) → tail s.net r ≡ v → ¬ HasRoom s r))
    (stands_for_one (least -ℤ price) scan.option found scan.stands
    (subst (λ (x : ℤ). StandsFor (least -ℤ x) found) same is)) (least_none s prices v scan.option scan.so)

-- ---- the first admissible residual arc

pub passed_next : (s : Pseudoflow) (prices : List ℤ) (v : ℕ) (r : Rid) (rest : List Rid)
    → ((q : Rid) → Leaves s.net v q → (¬ IsAdmissible s prices q) ⊎ Contains (r ∷ rest) q) → ¬ IsAdmissible s prices r → (q : Rid) → Leaves s.net v q
    → (¬ IsAdmissible s prices q) ⊎ Contains rest q
passed_next s prices v r rest none here q leaves =
    elim (none q leaves) [
      | inl refused ↦ inl refused
      | inr waits ↦ elim (Contains-cons r rest q waits) [
        | inl same ↦ inl (subst (λ (x : Rid). ¬ IsAdmissible s prices x) same here)
        | inr later ↦ inr later
      ]
    ]
