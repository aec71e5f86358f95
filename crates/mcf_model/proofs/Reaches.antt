-- The reach of a model as sums of lists: of its supplies, and of the leasts of its routes.
use Rattle.std.proofs.Common.{◌≡◌, ℕ, zero, suc, ◌+◌, ◌-◌, ◌<◌, ◌≤◌, Bool, true, false, List, [], ◌∷◌, ◌++◌, length, map, take, get_or, refl, ap, sym, ◌∙◌, arith, add-one, ℤ, pos, ◌+ℤ◌, ◌-ℤ◌, ◌≤ℤ◌}
use Rattle.std.specs.Prelude.{slice_index_or}
use Rattle.std.specs.Int.{int_min}
use Rattle.std.specs.List.{All}
use Rattle.std.proofs.lemmas.Int.{ints, clamps}
use Rattle.std.proofs.lemmas.List.{take_all}
use Rattle.std.proofs.lemmas.List.Elements.{All-head, All-tail}
use Rattle.mcf_flows.specs.declared.arc.Arc.{Arc}
use Rattle.mcf_flows.specs.Network.{arc_sum, at_node, node_sum}
use Rattle.mcf_flows.proofs.ArcSums.{arc_sum-append}
use Rattle.mcf_model.specs.declared.rows.RouteRow.{RouteRow}
use Rattle.mcf_model.specs.declared.rows.Step.{Step}
use Rattle.mcf_model.specs.Arcs.{arcs_of, back, last_cap, reach_of, there, way, way_back}
use Rattle.mcf_model.specs.Laws.{StepsTake}
use Rattle.mcf_model.specs.Model.{Model, size}
use Rattle.mcf_model.specs.Reach.{leasts, sizes}
use Rattle.mcf_model.specs.Tables.{route_of}

-- ---- one more, as a loop takes it

pub sizes_more : (xs : List ℤ) (i : ℕ) (d : ℤ) → i < length xs → sizes (take (i + 1) xs) ≡ sizes (take i xs) +ℤ size (get_or xs i d)
sizes_more xs i d h = rw add-one (go xs i d h)
  where
    go : (xs : List ℤ) (i : ℕ) (d : ℤ) → i < length xs → sizes (take (suc i) xs) ≡ sizes (take i xs) +ℤ size (get_or xs i d)
    go [] i d h = absurd (omega arith)
    go (x ∷ xs) zero d h = omega (arith, ints)
    go (x ∷ xs) (suc i) d h = omega (arith, ints, go xs i d (omega arith))

pub leasts_more : (rows : List RouteRow) (i : ℕ) (d : RouteRow) (x : ℤ) → i < length rows → x ≡ size (get_or rows i d).least
    → leasts (take (i + 1) rows) ≡ leasts (take i rows) +ℤ x
leasts_more rows i d x h is = rw add-one (rw is (go rows i d h))
  where
    go : (rows : List RouteRow) (i : ℕ) (d : RouteRow) → i < length rows → leasts (take (suc i) rows) ≡ leasts (take i rows) +ℤ size (get_or rows i d).least
    go [] i d h = absurd (omega arith)
    go (r ∷ rows) zero d h = omega (arith, ints)
    go (r ∷ rows) (suc i) d h = omega (arith, ints, go rows i d (omega arith))

-- ---- the supplies

at_suc : (xs : List ℤ) (i : ℕ) → at_node xs (i + 1) ≡ get_or xs i (pos 0)
at_suc xs i = let back : i + 1 - 1 ≡ i = omega arith in ap (λ k. slice_index_or xs k (pos 0)) back

supplies_up_to : (xs : List ℤ) (i : ℕ) → i ≤ length xs → node_sum (λ v. size (at_node xs v)) i ≡ sizes (take i xs)
supplies_up_to xs zero h = none xs
  where
    none : (xs : List ℤ) → pos 0 ≡ sizes (take 0 xs)
    none [] = refl
    none (x ∷ xs) = refl
supplies_up_to xs (suc i) h =
    let more : sizes (take (suc i) xs) ≡ sizes (take i xs) +ℤ size (get_or xs i (pos 0)) = rw add-one at (sizes_more xs i (pos 0) (omega arith)) in
    let here : size (at_node xs (suc i)) ≡ size (get_or xs i (pos 0)) = ap size (rw add-one at (at_suc xs i)) in
    omega (arith, ints, supplies_up_to xs i (omega arith), more, here)

pub supplies_are : (xs : List ℤ) → node_sum (λ v. size (at_node xs v)) (length xs) ≡ sizes xs
supplies_are xs = supplies_up_to xs (length xs) (omega arith) ∙ ap sizes (take_all (length xs) xs (omega arith))

-- ---- the leasts

abbrev low_sum : List Arc → ℤ
low_sum arcs = arc_sum (λ a. size a.low) arcs

-- what a way has to carry is divided among its arcs
way_lows : (tail head : ℕ) (least : ℤ) (steps : List Step) (cap c : ℤ) → All (λ s. pos 0 ≤ℤ s.most) steps → low_sum (way tail head least steps cap c) ≡ size least
way_lows tail head least [] cap c h = omega (arith, ints)
way_lows tail head least (s ∷ steps) cap c h =
    let first : pos 0 ≤ℤ s.most = All-head (λ s. pos 0 ≤ℤ s.most) s steps h in
    omega (
      arith,
      ints,
      clamps,
      first,
      way_lows tail head (least -ℤ int_min least s.most) steps cap c (All-tail (λ s. pos 0 ≤ℤ s.most) s steps h),
    )

back_lows : (both : Bool) (tail head : ℕ) (steps : List Step) (cap c : ℤ) → All (λ s. pos 0 ≤ℤ s.most) steps → low_sum (way_back both tail head steps cap c) ≡ pos 0
back_lows true tail head steps cap c h = way_lows head tail (pos 0) steps cap c h
back_lows false tail head steps cap c h = refl

rows_lows : (steps : List Step) (rows : List RouteRow) → All StepsTake (map (route_of steps) rows) → low_sum (arcs_of (pos 0) (map (route_of steps) rows)) ≡ leasts rows
rows_lows steps [] h = refl
rows_lows steps (row ∷ rows) h =
    let r = route_of steps row in
    let here = All-head StepsTake r (map (route_of steps) rows) h in
    let rest = arcs_of (pos 0) (map (route_of steps) rows) in
    omega (
      arith,
      ints,
      arc_sum-append (λ a. size a.low) (there (pos 0) r) (back (pos 0) r ++ rest),
      arc_sum-append (λ a. size a.low) (back (pos 0) r) rest,
      way_lows r.tail r.head r.least r.steps (last_cap (pos 0) r.last_most) r.last_cost here,
      back_lows r.both r.tail r.head r.steps (last_cap (pos 0) r.last_most) r.last_cost here,
      rows_lows steps rows (All-tail StepsTake r (map (route_of steps) rows) h),
    )

pub reach_is_sums : (m : Model) (steps : List Step) (rows : List RouteRow) → map (route_of steps) rows ≡ m.routes → All StepsTake m.routes
    → reach_of m ≡ pos 1 +ℤ sizes m.supplies +ℤ leasts rows
reach_is_sums m steps rows e h =
    let lows : low_sum (arcs_of (pos 0) m.routes) ≡ leasts rows =
    ap (λ routes. low_sum (arcs_of (pos 0) routes)) (sym e) ∙ rows_lows steps rows (rw (sym e) at h) in
    omega (arith, ints, supplies_are m.supplies, lows)
