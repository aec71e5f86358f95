-- From sets of nodes that block to places that can't send, or take, what they must.
use Rattle.std.proofs.Common.{◌≡◌, ℕ, Bool, true, false, ◌&&◌, ◌||◌, IsTrue, List, [], ◌∷◌, ◌++◌, length, take, drop, refl, ap, sym, ◌∙◌, arith, ℤ, pos, ◌+ℤ◌, ◌-ℤ◌, ◌≤ℤ◌, inl, inr}
use Rattle.std.specs.Prelude.{◌⊎◌, Option, Some, None}
use Rattle.std.specs.Int.{int_min}
use Rattle.std.specs.List.{All}
use Rattle.std.proofs.lemmas.Int.{ints, clamps}
use Rattle.std.proofs.lemmas.List.Elements.{All-cons, All-drop, All-head, All-same, All-tail, All-take}
use Rattle.std.proofs.Math.Seq.{take-append_seam, drop-append_seam}
use Rattle.mcf_flows.specs.declared.arc.Arc.{Arc}
use Rattle.mcf_flows.specs.declared.problem.Side.TheVariants.{Send, Take}
use Rattle.mcf_flows.specs.Network.{arc_sum, when}
use Rattle.mcf_flows.proofs.ArcSums.{arc_sum-append}
use Rattle.mcf_model.specs.declared.rows.Step.{Step}
use Rattle.mcf_model.specs.Model.{IsLimited, Route, room, size}
use Rattle.mcf_flows.specs.Blocking.{Blocks}
use Rattle.mcf_model.specs.Arcs.{arcs_of, back, last_cap, network_of, reach_of, there, way, way_back}
use Rattle.mcf_model.specs.Bottlenecks.{IsLimitedAcross, into, least_across, limit_or_zero, most_across, out_of, route_sum}
use Rattle.mcf_model.specs.Laws.{BlockingSetsAreBottlenecks, BottlenecksHaveNoPlan}
use Rattle.mcf_model.proofs.Cuts.{supply_in_small}
use Rattle.mcf_model.proofs.Unlimited.{apart, blocked_models_have_no_plan_lem, exclusive, reach_above_zero, reach_is}

All-prefix : {X : Type 0} (P : X → Type 0) (xs ys : List X) → All P (xs ++ ys) → All P xs
All-prefix P xs ys h = All-same P xs (take (length xs) (xs ++ ys)) (sym (take-append_seam xs ys)) (All-take P (length xs) (xs ++ ys) h)

All-suffix : {X : Type 0} (P : X → Type 0) (xs ys : List X) → All P (xs ++ ys) → All P ys
All-suffix P xs ys h = All-same P ys (drop (length xs) (xs ++ ys)) (sym (drop-append_seam xs ys)) (All-drop P (length xs) (xs ++ ys) h)

-- an arc's bounds are in order
abbrev Ordered : Arc → Type 0
Ordered a = a.low ≤ℤ a.cap

when-add : (b : Bool) (x y : ℤ) → when b x +ℤ when b y ≡ when b (x +ℤ y)
when-add true x y = refl
when-add false x y = refl

when-zero : (b : Bool) → when b (pos 0) ≡ pos 0
when-zero true = refl
when-zero false = refl

module _ (t : ℕ → ℕ → Bool) where
  abbrev caps : List Arc → ℤ
  caps arcs = arc_sum (λ a. when (t a.src a.dst) a.cap) arcs

  abbrev lows : List Arc → ℤ
  lows arcs = arc_sum (λ a. when (t a.src a.dst) a.low) arcs

  abbrev sizes : List Arc → ℤ
  sizes arcs = arc_sum (λ a. when (t a.src a.dst) (size a.low)) arcs

  -- ---- the sums over the arcs are sums over the routes

  way_caps : (tail head : ℕ) (least : ℤ) (steps : List Step) (cap c : ℤ) → caps (way tail head least steps cap c) ≡ when (t tail head) (room steps cap)
  way_caps tail head least [] cap c = omega (arith, ints)
  way_caps tail head least (s ∷ steps) cap c =
      ap (λ z. when (t tail head) s.most +ℤ z) (way_caps tail head (least -ℤ int_min least s.most) steps cap c)
      ∙ when-add (t tail head) s.most (room steps cap)

  way_lows : (tail head : ℕ) (least : ℤ) (steps : List Step) (cap c : ℤ) → lows (way tail head least steps cap c) ≡ when (t tail head) least
  way_lows tail head least [] cap c = omega (arith, ints)
  way_lows tail head least (s ∷ steps) cap c =
      let e : int_min least s.most +ℤ (least -ℤ int_min least s.most) ≡ least = omega (arith, ints) in
      ap (λ z. when (t tail head) (int_min least s.most) +ℤ z) (way_lows tail head (least -ℤ int_min least s.most) steps cap c)
      ∙ when-add (t tail head) (int_min least s.most) (least -ℤ int_min least s.most) ∙ ap (when (t tail head)) e

  back_caps : (both : Bool) (tail head : ℕ) (steps : List Step) (cap c : ℤ) → caps (way_back both tail head steps cap c) ≡ when (both && t head tail) (room steps cap)
  back_caps true tail head steps cap c = way_caps head tail (pos 0) steps cap c
  back_caps false tail head steps cap c = refl

  back_lows : (both : Bool) (tail head : ℕ) (steps : List Step) (cap c : ℤ) → lows (way_back both tail head steps cap c) ≡ pos 0
  back_lows true tail head steps cap c = way_lows head tail (pos 0) steps cap c ∙ when-zero (t head tail)
  back_lows false tail head steps cap c = refl

  pub route_lows : (reach : ℤ) (routes : List Route) → lows (arcs_of reach routes) ≡ route_sum (least_across t) routes
  route_lows reach [] = refl
  route_lows reach (r ∷ routes) =
      omega (
        arith,
        ints,
        arc_sum-append (λ a. when (t a.src a.dst) a.low) (there reach r) (back reach r ++ arcs_of reach routes),
        arc_sum-append (λ a. when (t a.src a.dst) a.low) (back reach r) (arcs_of reach routes),
        way_lows r.tail r.head r.least r.steps (last_cap reach r.last_most) r.last_cost,
        back_lows r.both r.tail r.head r.steps (last_cap reach r.last_most) r.last_cost,
        route_lows reach routes,
      )

  -- ---- caps can't be far below 0

  one_arc : (b : Bool) (l u : ℤ) → l ≤ℤ u → pos 0 ≤ℤ (when b u +ℤ when b (size l))
  one_arc true l u h = omega (arith, ints, clamps)
  one_arc false l u h = omega (arith, ints)

  not_below : (arcs : List Arc) → All Ordered arcs → pos 0 ≤ℤ (caps arcs +ℤ sizes arcs)
  not_below [] h = omega (arith, ints)
  not_below (a ∷ arcs) h = omega (arith, ints, one_arc (t a.src a.dst) a.low a.cap (All-head Ordered a arcs h), not_below arcs (All-tail Ordered a arcs h))

  size_here : (b : Bool) (l : ℤ) → pos 0 ≤ℤ when b (size l)
  size_here true l = omega (arith, ints, clamps)
  size_here false l = omega (arith, ints)

  -- a way without a limit that crosses
  far_way : (reach : ℤ) (tail head : ℕ) (least : ℤ) (steps : List Step) (c : ℤ) → t tail head ≡ true → All Ordered (way tail head least steps reach c)
      → reach ≤ℤ (caps (way tail head least steps reach c) +ℤ sizes (way tail head least steps reach c))
  far_way reach tail head least [] c e h = omega (arith, ints, ap (λ b. when b reach) e, size_here (t tail head) least)
  far_way reach tail head least (s ∷ steps) c e h =
      omega (
        arith,
        ints,
        one_arc (t tail head) (int_min least s.most) s.most (omega (arith, ints, clamps)),
        far_way reach tail head (least -ℤ int_min least s.most) steps c e (All-tail Ordered _ (way tail head (least -ℤ int_min least s.most) steps reach c) h),
      )

  -- ---- either each route that crosses has a limit, or what crosses is beyond the reach

  abbrev Far : ℤ → ℕ → ℕ → ℤ → List Step → Option ℤ → ℤ → Bool → Type 0
  Far reach tail head least steps most c both =
      reach ≤ℤ ((caps (way tail head least steps (last_cap reach most) c) +ℤ sizes (way tail head least steps (last_cap reach most) c))
      +ℤ (caps (way_back both tail head steps (last_cap reach most) c) +ℤ sizes (way_back both tail head steps (last_cap reach most) c)))

  abbrev Near : ℤ → ℕ → ℕ → List Step → Option ℤ → Bool → Type 0
  Near reach tail head steps most both =
      (IsTrue (t tail head || (both && t head tail)) → IsLimited most)
      × (when (t tail head) (room steps (last_cap reach most)) +ℤ when (both && t head tail) (room steps (last_cap reach most))
      ≡ when (t tail head) (room steps (limit_or_zero most)) +ℤ when (both && t head tail) (room steps (limit_or_zero most)))

  near_or_far : (reach : ℤ) (tail head : ℕ) (least : ℤ) (steps : List Step) (most : Option ℤ) (c : ℤ) (both : Bool)
      → All Ordered (way tail head least steps (last_cap reach most) c) → All Ordered (way_back both tail head steps (last_cap reach most) c)
      → Near reach tail head steps most both ⊎ Far reach tail head least steps most c both
  near_or_far reach tail head least steps (Some m) c both h k = inl ((λ x. tt), refl)
  near_or_far reach tail head least steps None c false h k = cases (t tail head) refl
    where
      cases : (p : Bool) → t tail head ≡ p → Near reach tail head steps None false ⊎ Far reach tail head least steps None c false
      cases true e = inr (omega (arith, ints, far_way reach tail head least steps c e h))
      cases false e = rw e (inl ((λ x. absurd (nothing x)), refl))
        where
          nothing : false ≡ true → ⊥
          nothing x = cc
  near_or_far reach tail head least steps None c true h k = cases (t tail head) (t head tail) refl refl
    where
      cases : (p q : Bool) → t tail head ≡ p → t head tail ≡ q → Near reach tail head steps None true ⊎ Far reach tail head least steps None c true
      cases true q e f = inr (omega (arith, ints, far_way reach tail head least steps c e h, not_below (way head tail (pos 0) steps reach c) k))
      cases false true e f = inr (omega (arith, ints, far_way reach head tail (pos 0) steps c f k, not_below (way tail head least steps reach c) h))
      cases false false e f = rw (e, f) (inl ((λ x. absurd (nothing x)), refl))
        where
          nothing : false ≡ true → ⊥
          nothing x = cc

  pub all_near_or_far : (reach : ℤ) (routes : List Route) → pos 0 ≤ℤ reach → All Ordered (arcs_of reach routes)
      → (All (IsLimitedAcross t) routes × (caps (arcs_of reach routes) ≡ route_sum (most_across t) routes))
      ⊎ (reach ≤ℤ (caps (arcs_of reach routes) +ℤ sizes (arcs_of reach routes)))
  all_near_or_far reach [] z h = inl ((λ k d x. absurd (omega arith)), refl)
  all_near_or_far reach (r ∷ routes) z h =
      let cap = last_cap reach r.last_most in
      let on_there = All-prefix Ordered (there reach r) (back reach r ++ arcs_of reach routes) h in
      let others = All-suffix Ordered (there reach r) (back reach r ++ arcs_of reach routes) h in
      let on_back = All-prefix Ordered (back reach r) (arcs_of reach routes) others in
      let on_rest = All-suffix Ordered (back reach r) (arcs_of reach routes) others in
      let sum = λ (w : Arc → ℤ). arc_sum-append w (there reach r) (back reach r ++ arcs_of reach routes) in
      let more = λ (w : Arc → ℤ). arc_sum-append w (back reach r) (arcs_of reach routes) in
      let caps1 = sum (λ a. when (t a.src a.dst) a.cap) in
      let caps2 = more (λ a. when (t a.src a.dst) a.cap) in
      let sizes1 = sum (λ a. when (t a.src a.dst) (size a.low)) in
      let sizes2 = more (λ a. when (t a.src a.dst) (size a.low)) in
      let way1 = way_caps r.tail r.head r.least r.steps cap r.last_cost in
      let way2 = back_caps r.both r.tail r.head r.steps cap r.last_cost in
      let mine = λ (far : Far reach r.tail r.head r.least r.steps r.last_most r.last_cost r.both).
      let f : reach ≤ℤ (caps (arcs_of reach (r ∷ routes)) +ℤ sizes (arcs_of reach (r ∷ routes))) =
      omega (arith, ints, far, not_below (arcs_of reach routes) on_rest, caps1, caps2, sizes1, sizes2) in f in
      let theirs = λ (far : reach ≤ℤ (caps (arcs_of reach routes) +ℤ sizes (arcs_of reach routes))).
      let f : reach ≤ℤ (caps (arcs_of reach (r ∷ routes)) +ℤ sizes (arcs_of reach (r ∷ routes))) =
      omega (arith, ints, far, not_below (there reach r) on_there, not_below (back reach r) on_back, caps1, caps2, sizes1, sizes2) in f in
      elim (near_or_far reach r.tail r.head r.least r.steps r.last_most r.last_cost r.both on_there on_back) [
        | inr far ↦ inr (mine far)
        | inl near ↦ elim (all_near_or_far reach routes z on_rest) [
          | inr far ↦ inr (theirs far)
          | inl all ↦ inl (All-cons (IsLimitedAcross t) r routes near.0 all.0, omega (arith, ints, caps1, caps2, way1, way2, near.1, all.1))
        ]
      ]

  -- ---- where each route that crosses has a limit, the reach is nowhere

  same_across : (reach : ℤ) (steps : List Step) (most : Option ℤ) (p q : Bool) → (IsTrue (p || q) → IsLimited most)
      → when p (room steps (last_cap reach most)) +ℤ when q (room steps (last_cap reach most))
      ≡ when p (room steps (limit_or_zero most)) +ℤ when q (room steps (limit_or_zero most))
  same_across reach steps (Some m) p q h = refl
  same_across reach steps None true q h = absurd (h refl)
  same_across reach steps None false true h = absurd (h refl)
  same_across reach steps None false false h = refl

  pub limited_caps : (reach : ℤ) (routes : List Route) → All (IsLimitedAcross t) routes → caps (arcs_of reach routes) ≡ route_sum (most_across t) routes
  limited_caps reach [] h = refl
  limited_caps reach (r ∷ routes) h =
      let cap = last_cap reach r.last_most in
      omega (
        arith,
        ints,
        arc_sum-append (λ a. when (t a.src a.dst) a.cap) (there reach r) (back reach r ++ arcs_of reach routes),
        arc_sum-append (λ a. when (t a.src a.dst) a.cap) (back reach r) (arcs_of reach routes),
        way_caps r.tail r.head r.least r.steps cap r.last_cost,
        back_caps r.both r.tail r.head r.steps cap r.last_cost,
        same_across reach r.steps r.last_most (t r.tail r.head) (r.both && t r.head r.tail) (All-head (IsLimitedAcross t) r routes h),
        limited_caps reach routes (All-tail (IsLimitedAcross t) r routes h),
      )

pub bottlenecks_have_no_plan_lem : BottlenecksHaveNoPlan
bottlenecks_have_no_plan_lem m set Send plan sound narrow =
    let blocks : Blocks (network_of (reach_of m) m) set Send =
    omega (arith, ints, narrow.short, limited_caps (out_of set) (reach_of m) m.routes narrow.limited, route_lows (into set) (reach_of m) m.routes) in
    blocked_models_have_no_plan_lem m set Send plan sound blocks
bottlenecks_have_no_plan_lem m set Take plan sound narrow =
    let blocks : Blocks (network_of (reach_of m) m) set Take =
    omega (arith, ints, narrow.short, limited_caps (into set) (reach_of m) m.routes narrow.limited, route_lows (out_of set) (reach_of m) m.routes) in
    blocked_models_have_no_plan_lem m set Take plan sound blocks

pub blocking_sets_are_bottlenecks_lem : BlockingSetsAreBottlenecks
blocking_sets_are_bottlenecks_lem m set Send ordered blocks =
    let arcs = arcs_of (reach_of m) m.routes in
    elim (all_near_or_far (out_of set) (reach_of m) m.routes (reach_above_zero m) ordered) [
      | inl all ↦ record { limited = all.0; short = omega (arith, ints, blocks, all.1, route_lows (into set) (reach_of m) m.routes) }
      | inr far ↦ absurd (omega (
        arith,
        ints,
        blocks,
        far,
        reach_is m,
        (supply_in_small m.supplies set).0,
        apart (out_of set) (into set) (λ s d x. exclusive (set s) (set d) x) arcs,
      ))
    ]
blocking_sets_are_bottlenecks_lem m set Take ordered blocks =
    let arcs = arcs_of (reach_of m) m.routes in
    elim (all_near_or_far (into set) (reach_of m) m.routes (reach_above_zero m) ordered) [
      | inl all ↦ record { limited = all.0; short = omega (arith, ints, blocks, all.1, route_lows (out_of set) (reach_of m) m.routes) }
      | inr far ↦ absurd (omega (
        arith,
        ints,
        blocks,
        far,
        reach_is m,
        (supply_in_small m.supplies set).1,
        apart (into set) (out_of set) (λ s d x. exclusive (set d) (set s) x) arcs,
      ))
    ]
