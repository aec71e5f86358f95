-- Walks along links, and what they cost.
use Rattle.std.proofs.Common.{◌≡◌, ◌≢◌, ℕ, zero, suc, ◌<◌, ◌+◌, List, [], ◌∷◌, ◌++◌, length, get_or, drop, false, ℤ, pos, ◌+ℤ◌, ◌≤ℤ◌, ◌<ℤ◌, refl, sym, ap}
use Rattle.std.proofs.Common.{subst, ◌∙◌, arith, ◌⊎◌, inl, inr, length-drop}
use Rattle.std.specs.List.{All, AllPairs, HoldsAt}
use Rattle.std.proofs.lemmas.Int.{ints}
use Rattle.std.proofs.lemmas.List.{get_or-drop}
use Rattle.std.proofs.lemmas.List.Elements.{All-drop}
use Rattle.mcf_flows.specs.Network.{Network, at_node}
use Rattle.mcf_network.specs.declared.rid.Rid.{Rid}
use Rattle.mcf_network.specs.Residual.{tail, head, unit_cost}
use Rattle.mcf_network.specs.Walks.{IsWalk, walk_cost}
use Rattle.mcf_cancel.specs.Private.Labels.{Labels, IsLabelling, offer}
use Rattle.mcf_engine.specs.NegativeCycles.{IsNegativeCycle}
use Rattle.mcf_cancel.specs.Private.Trails.{IsStep}

pub IsWalk-push : (g : Network) (path : List Rid) (r : Rid) (u w : ℕ) → IsWalk g u path w → tail g r ≡ w → IsWalk g u (path ++ r ∷ []) (head g r)
IsWalk-push g [] r u w walk e = (e ∙ sym walk, refl)
IsWalk-push g (q ∷ rest) r u w walk e = (walk.0, IsWalk-push g rest r (head g q) w walk.1 e)

pub IsWalk-pop : (g : Network) (path : List Rid) (r : Rid) (u w : ℕ) → IsWalk g u (path ++ r ∷ []) w → IsWalk g u path (tail g r) × (head g r ≡ w)
IsWalk-pop g [] r u w walk = (sym walk.0, walk.1)
IsWalk-pop g (q ∷ rest) r u w walk =
    let more = IsWalk-pop g rest r (head g q) w walk.1 in
    ((walk.0, more.0), more.1)

pub IsWalk-drop : (g : Network) (path : List Rid) (u w k : ℕ) (d : Rid) → IsWalk g u path w → k < length path
    → IsWalk g (tail g (get_or path k d)) (drop k path) w
IsWalk-drop g [] u w k d walk h = absurd (omega arith)
IsWalk-drop g (q ∷ rest) u w zero d walk h = (refl, walk.1)
IsWalk-drop g (q ∷ rest) u w (suc k) d walk h = IsWalk-drop g rest (head g q) w k d walk.1 (omega arith)

-- the price falls along a step
pub step_falls : (l : Labels) (r : Rid) → IsLabelling l → IsStep l r → offer l r ≤ℤ at_node l.prices (tail l.flow.net r)
step_falls l r ok step =
    elim (ok.linked.links (tail l.flow.net r) r step.is_node step.link).falls [
      | inl f ↦ omega (arith, ints, f)
      | inr (e, _) ↦ omega (arith, ints, e)
    ]

-- prices fall along a walk of steps by its cost at least, and stamps where they fall by its cost
abbrev Falls : Labels → (ℕ → ℕ) → ℕ → ℕ → ℤ → Type 0
Falls l stamp u w c =
    ((c +ℤ at_node l.prices w) <ℤ at_node l.prices u) ⊎ ((c +ℤ at_node l.prices w ≡ at_node l.prices u) × (stamp w < stamp u))

falls_join : (c d x y z : ℤ) (i j k : ℕ) → (((c +ℤ y) <ℤ x) ⊎ ((c +ℤ y ≡ x) × (j < i))) → (((d +ℤ z) <ℤ y) ⊎ ((d +ℤ z ≡ y) × (k < j)))
    → (((c +ℤ d) +ℤ z) <ℤ x) ⊎ (((c +ℤ d) +ℤ z ≡ x) × (k < i))
falls_join c d x y z i j k (inl f) (inl g) = inl (omega (arith, ints, f, g))
falls_join c d x y z i j k (inl f) (inr (g, _)) = inl (omega (arith, ints, f, g))
falls_join c d x y z i j k (inr (e, _)) (inl g) = inl (omega (arith, ints, e, g))
falls_join c d x y z i j k (inr (e, s)) (inr (g, t)) = inr (omega (arith, ints, e, g), omega (arith, s, t))

falls_last : (c x y : ℤ) (i j : ℕ) → (((c +ℤ y) <ℤ x) ⊎ ((c +ℤ y ≡ x) × (j < i))) → (((c +ℤ pos 0) +ℤ y) <ℤ x) ⊎ (((c +ℤ pos 0) +ℤ y ≡ x) × (j < i))
falls_last c x y i j (inl f) = inl (omega (arith, ints, f))
falls_last c x y i j (inr (e, s)) = inr (omega (arith, ints, e), s)

walk_falls : (l : Labels) (ok : IsLabelling l) (r : Rid) (rest : List Rid) (w : ℕ) → IsWalk l.flow.net (head l.flow.net r) rest w → All (IsStep l) (r ∷ rest)
    → Falls l ok.linked.stamp (tail l.flow.net r) w (walk_cost l.flow.net (r ∷ rest))
walk_falls l ok r [] w walk steps =
    let step = steps 0 r (omega arith) in
    let falls = (ok.linked.links (tail l.flow.net r) r step.is_node step.link).falls in
    subst (λ v. Falls l ok.linked.stamp (tail l.flow.net r) v (unit_cost l.flow.net r +ℤ pos 0)) walk
    (falls_last (unit_cost l.flow.net r) (at_node l.prices (tail l.flow.net r)) (at_node l.prices (head l.flow.net r))
    (ok.linked.stamp (tail l.flow.net r)) (ok.linked.stamp (head l.flow.net r)) falls)
walk_falls l ok r (q ∷ more) w walk steps =
    let step = steps 0 r (omega arith) in
    let first = (ok.linked.links (tail l.flow.net r) r step.is_node step.link).falls in
    let rest = walk_falls l ok q more w walk.1 (λ k d h. steps (suc k) d (omega arith)) in
    falls_join (unit_cost l.flow.net r) (walk_cost l.flow.net (q ∷ more)) (at_node l.prices (tail l.flow.net r)) (at_node l.prices (head l.flow.net r))
    (at_node l.prices w) (ok.linked.stamp (tail l.flow.net r)) (ok.linked.stamp (head l.flow.net r)) (ok.linked.stamp w) first
    (subst (λ v. Falls l ok.linked.stamp v w (walk_cost l.flow.net (q ∷ more))) walk.0 rest)

-- a closed walk of steps costs less than 0
closed_negative : (l : Labels) (ok : IsLabelling l) (walk : List Rid) (u : ℕ) → 0 < length walk → IsWalk l.flow.net u walk u → All (IsStep l) walk
    → walk_cost l.flow.net walk <ℤ pos 0
closed_negative l ok [] u some walk steps = absurd (omega arith)
closed_negative l ok (r ∷ rest) u some walk steps =
    let here = ap (at_node l.prices) walk.0 in
    let stamps = ap ok.linked.stamp walk.0 in
    elim (walk_falls l ok r rest u walk.1 steps) [
      | inl f ↦ omega (arith, ints, f, here)
      | inr (e, s) ↦ absurd (omega (arith, s, stamps))
    ]

-- the end of a path from the residual arc that leaves the node where the path ends
pub cycle_from_path : (l : Labels) (path : List Rid) (from u k : ℕ) → IsLabelling l → All (IsStep l) path
    → AllPairs (λ r q. tail l.flow.net r ≢ tail l.flow.net q) path → IsWalk l.flow.net from path u → k < length path
    → HoldsAt (λ r. tail l.flow.net r ≡ u) path k → IsNegativeCycle l.flow (drop k path)
cycle_from_path l path from u k ok steps distinct walk h at =
    let no_rid : Rid = record { arc = 0; back = false } in
    let rest_steps = All-drop (IsStep l) k path steps in
    let rest = subst (λ v. IsWalk l.flow.net v (drop k path) u) (at no_rid) (IsWalk-drop l.flow.net path from u k no_rid walk h) in
    record {
      has_room = λ i d p. (rest_steps i d p).has_room;
      closed = (u, rest);
      distinct = λ i j d p q. rw (get_or-drop k path i d, get_or-drop k path j d)
          (distinct (k + i) (k + j) d (omega arith) (omega (arith, length-drop k path)));
      negative = closed_negative l ok (drop k path) u (omega (arith, length-drop k path)) rest rest_steps;
    }
