-- The arcs that don't carry their low, as a loop over the arcs lists them, and the flow that they
-- give.
use Rattle.std.proofs.Common.{◌≡◌, ℕ, zero, suc, ◌+◌, ◌-◌, ◌≤◌, ◌<◌, Bool, true, false, cond, eqb, refl, ap, sym, subst, ◌∙◌, arith, List, [], ◌∷◌, ◌++◌}
use Rattle.std.proofs.Common.{get_or, length, map, drop, take, Option, Some, None, ℤ, pos}
use Rattle.std.specs.Prelude.{slice_get}
use Rattle.std.specs.List.{All, enumerate_from, filter_map, find, zip, cons_option}
use Rattle.std.specs.List.Sorted.{IsStrictlyIncreasing}
use Rattle.std.specs.Ordering.{int_eq}
use Rattle.std.proofs.lemmas.Bool.{eq-eqb, ne_eqb}
use Rattle.std.proofs.lemmas.Bool.Decides.{Decides-int_eq}
use Rattle.std.proofs.lemmas.List.{append-nil, append_assoc, drop_all, drop_more}
use Rattle.std.proofs.lemmas.List.Elements.{All-cons}
use Rattle.std.proofs.lemmas.Int.{ints}
use Rattle.std.proofs.lemmas.Option.{get_or_from_slice_get}
use Rattle.mcf_answer.specs.Ranges.{IsAmount}
use Rattle.mcf_answer.specs.SparseSolution.{arc_numbers}
use Rattle.mcf_checker.specs.Correct.{spread, stated_or_low}
use Rattle.mcf_flows.specs.declared.arc.Arc.{Arc}
use Rattle.mcf_flows.specs.Flow.{CanCarry, IsWithinBounds, cost}
use Rattle.mcf_flows.specs.Limits.{limits}
use Rattle.mcf_flows.specs.Network.{Network}
use Rattle.mcf_flows.specs.WellFormed.{IsWellFormed}
use Rattle.mcf_flows.proofs.AllZips.{AllZip-at, length-AllZip}
use Rattle.mcf_flows.proofs.Bounds.{IsPlaced, each_placed, flow_up_to}
use Rattle.mcf_solver.specs.Forms.{moved_arc, moved_of}
use Rattle.mcf_solver.specs.Private.MovedArcs.{AreMovedOf}

-- an arc with its flow, by a number, unless a test says that it carries its low
abbrev pub line_unless : Bool → ℕ → ℤ → List (ℕ × ℤ) → List (ℕ × ℤ)
line_unless is_low n f rest = cons_option (cond is_low None (Some (n, f))) rest

-- the lines of arcs numbered from a number on
abbrev pub moved_from : ℕ → List Arc → List ℤ → List (ℕ × ℤ)
moved_from from arcs flow = filter_map moved_arc (enumerate_from from (zip arcs flow))

-- ---- the flow that they give

-- no line of a later arc is that of an earlier one
none_before : (n from : ℕ) (arcs : List Arc) (flow : List ℤ) → n < from → find (λ (l : ℕ × ℤ). eqb l.0 n) (moved_from from arcs flow) ≡ None
none_before n from [] flow h = refl
none_before n from (a ∷ arcs) [] h = refl
none_before n from (a ∷ arcs) (f ∷ flow) h =
    let rest = none_before n (from + 1) arcs flow (omega (arith, h)) in
    elim (int_eq f a.low) as (λ (b : Bool). find (λ (l : ℕ × ℤ). eqb l.0 n) (line_unless b from f (moved_from (from + 1) arcs flow)) ≡ None) [
      | true ↦ rest
      | false ↦ rw (ne_eqb from n (λ e. omega (arith, e, h))) rest
    ]

-- a line of an earlier arc states nothing of later ones
line_skipped : (m : ℕ × ℤ) (moved : List (ℕ × ℤ)) (from : ℕ) (arcs : List Arc) → m.0 < from
    → map (stated_or_low (m ∷ moved)) (enumerate_from from arcs) ≡ map (stated_or_low moved) (enumerate_from from arcs)
line_skipped m moved from [] h = refl
line_skipped m moved from (a ∷ arcs) h =
    rw (ne_eqb m.0 from (λ e. omega (arith, e, h)), line_skipped m moved (from + 1) arcs (omega (arith, h))) refl

moved_gives : (from : ℕ) (arcs : List Arc) (flow : List ℤ) → length arcs ≡ length flow
    → map (stated_or_low (moved_from from arcs flow)) (enumerate_from from arcs) ≡ flow
moved_gives from [] [] h = refl
moved_gives from [] (f ∷ flow) h = absurd (omega (arith, h))
moved_gives from (a ∷ arcs) [] h = absurd (omega (arith, h))
moved_gives from (a ∷ arcs) (f ∷ flow) h =
    let later = moved_gives (from + 1) arcs flow (omega (arith, h)) in
    let rest = moved_from (from + 1) arcs flow in
    elim (int_eq f a.low) as (λ (b : Bool). int_eq f a.low ≡ b → map (stated_or_low (line_unless b from f rest)) (enumerate_from from (a ∷ arcs))
    ≡ f ∷ flow) [
      | true ↦ λ is.
          let low : f ≡ a.low = (Decides-int_eq f a.low).0 is in
          rw (none_before from (from + 1) arcs flow (omega arith), later) (ap (λ (z : ℤ). z ∷ flow) (sym low))
      | false ↦ λ is.
          rw (eq-eqb from from refl, line_skipped (from, f) rest (from + 1) arcs (omega arith), later) refl
    ] refl

pub spread_of_moved : (arcs : List Arc) (flow : List ℤ) → length arcs ≡ length flow → spread arcs (moved_of arcs flow) ≡ flow
spread_of_moved arcs flow h = moved_gives 1 arcs flow h

-- ---- their numbers

-- a line of this many arcs from a number on, with such a flow
pub record IsMovedFrom (P : ℤ → Type 0) (from count : ℕ) (m : ℕ × ℤ) : Type 0 where
  pub low : from ≤ m.0
  pub high : m.0 < from + count
  pub flow : P m.1

moved_in_range : (P : ℤ → Type 0) (from : ℕ) (arcs : List Arc) (flow : List ℤ) → All P flow
    → All (IsMovedFrom P from (length arcs)) (moved_from from arcs flow)
moved_in_range P from [] flow all = λ k d h. absurd (omega (arith, h))
moved_in_range P from (a ∷ arcs) [] all = λ k d h. absurd (omega (arith, h))
moved_in_range P from (a ∷ arcs) (f ∷ flow) all =
    let rest = moved_in_range P (from + 1) arcs flow (λ k d h. all (suc k) d (omega (arith, h))) in
    let weaker : All (IsMovedFrom P from (suc (length arcs))) (moved_from (from + 1) arcs flow) = λ k d h.
    let here = rest k d h in record { low = omega (arith, here.low); high = omega (arith, here.high); flow = here.flow } in
    let first : IsMovedFrom P from (suc (length arcs)) (from, f) = record { low = omega arith; high = omega arith; flow = all 0 f (omega arith) } in
    elim (int_eq f a.low) as (λ (b : Bool). All (IsMovedFrom P from (suc (length arcs))) (line_unless b from f (moved_from (from + 1) arcs flow))) [
      | true ↦ weaker
      | false ↦ All-cons (IsMovedFrom P from (suc (length arcs))) (from, f) (moved_from (from + 1) arcs flow) first weaker
    ]

increasing_cons : (x : ℕ) (xs : List ℕ) → All (λ y. x < y) xs → IsStrictlyIncreasing xs → IsStrictlyIncreasing (x ∷ xs)
increasing_cons x xs above rises zero h = above 0 0 (omega (arith, h))
increasing_cons x xs above rises (suc k) h =
    let next : suc (k + 1) ≡ suc k + 1 = omega arith in
    subst (λ (n : ℕ). get_or xs k 0 < get_or (x ∷ xs) n 0) next (rises k (omega (arith, h)))

numbers_above : (n from : ℕ) (arcs : List Arc) (flow : List ℤ) → n < from → All (λ m. n < m) (arc_numbers (moved_from from arcs flow))
numbers_above n from [] flow h = λ k d inside. absurd (omega (arith, inside))
numbers_above n from (a ∷ arcs) [] h = λ k d inside. absurd (omega (arith, inside))
numbers_above n from (a ∷ arcs) (f ∷ flow) h =
    let rest = numbers_above n (from + 1) arcs flow (omega (arith, h)) in
    let lines = moved_from (from + 1) arcs flow in
    elim (int_eq f a.low) as (λ (b : Bool). All (λ m. n < m) (arc_numbers (line_unless b from f lines))) [
      | true ↦ rest
      | false ↦ All-cons (λ m. n < m) from (arc_numbers lines) h rest
    ]

moved_ascends : (from : ℕ) (arcs : List Arc) (flow : List ℤ) → IsStrictlyIncreasing (arc_numbers (moved_from from arcs flow))
moved_ascends from [] flow = λ k h. absurd (omega (arith, h))
moved_ascends from (a ∷ arcs) [] = λ k h. absurd (omega (arith, h))
moved_ascends from (a ∷ arcs) (f ∷ flow) =
    let rest = moved_ascends (from + 1) arcs flow in
    let lines = moved_from (from + 1) arcs flow in
    elim (int_eq f a.low) as (λ (b : Bool). IsStrictlyIncreasing (arc_numbers (line_unless b from f lines))) [
      | true ↦ rest
      | false ↦ increasing_cons from (arc_numbers lines) (numbers_above from (from + 1) arcs flow (omega arith)) rest
    ]

-- ---- of a flow within the bounds of an instance

amounts_small : (g : Network) (flow : List ℤ) → IsWellFormed limits g → IsWithinBounds g.arcs flow → All IsAmount flow
amounts_small g flow ok bounds k d h =
    let none : Arc = record { src = 0; dst = 0; low = pos 0; cap = pos 0; cost = pos 0 } in
    let inside : k < length g.arcs = omega (arith, h, length-AllZip CanCarry g.arcs flow bounds) in
    let placed = AllZip-at IsPlaced g.arcs flow k none d (each_placed g.arcs flow ok.within.arcs bounds) inside in
    let small = flow_up_to (get_or g.arcs k none) (get_or flow k d) placed in
    (omega (arith, ints, small), omega (arith, ints, small))

pub are_moved : (g : Network) (flow : List ℤ) → IsWellFormed limits g → IsWithinBounds g.arcs flow → AreMovedOf g (moved_of g.arcs flow)
are_moved g flow ok bounds =
    let each = moved_in_range IsAmount 1 g.arcs flow (amounts_small g flow ok bounds) in
    let few = ok.arcs in
    record {
      of_instance = λ k d h. let m = each k d h in omega (arith, m.high);
      fit = λ k d h. let m = each k d h in ((m.low, omega (arith, m.high, few)), m.flow);
      ascending = moved_ascends 1 g.arcs flow;
    }

-- ---- a loop that lists them

-- the lines so far, with those of the later arcs
pub record IsMovedUpTo (arcs : List Arc) (flow : List ℤ) (i : ℕ) (moved : List (ℕ × ℤ)) : Type 0 where
  pub whole : moved ++ moved_from (i + 1) (drop i arcs) (drop i flow) ≡ moved_of arcs flow

option_joins : (o : Option (ℕ × ℤ)) (before rest : List (ℕ × ℤ)) → (before ++ cons_option o []) ++ rest ≡ before ++ cons_option o rest
option_joins None before rest = ap (λ (xs : List (ℕ × ℤ)). xs ++ rest) (append-nil before)
option_joins (Some m) before rest = append_assoc before (m ∷ []) rest

pub moved_more : (arcs : List Arc) (flow : List ℤ) (i : ℕ) (a : Arc) (f : ℤ) (before after : List (ℕ × ℤ)) → i < length arcs → i < length flow
    → get_or arcs i a ≡ a → get_or flow i (pos 0) ≡ f → IsMovedUpTo arcs flow i before → after ≡ before ++ cons_option (moved_arc (i + 1, (a, f))) []
    → IsMovedUpTo arcs flow (i + 1) after
moved_more arcs flow i a f before after h k arc-is flow-is so_far e =
    let rest = moved_from (i + 1 + 1) (drop (i + 1) arcs) (drop (i + 1) flow) in
    let arcs-here : drop i arcs ≡ a ∷ drop (i + 1) arcs = drop_more arcs i a h ∙ ap (λ (b : Arc). b ∷ drop (i + 1) arcs) arc-is in
    let flow-here : drop i flow ≡ f ∷ drop (i + 1) flow = drop_more flow i (pos 0) k ∙ ap (λ (z : ℤ). z ∷ drop (i + 1) flow) flow-is in
    let here : moved_from (i + 1) (drop i arcs) (drop i flow) ≡ cons_option (moved_arc (i + 1, (a, f))) rest =
    ap (λ (xs : List Arc). moved_from (i + 1) xs (drop i flow)) arcs-here
    ∙ ap (λ (ys : List ℤ). moved_from (i + 1) (a ∷ drop (i + 1) arcs) ys) flow-here in
    record {
      whole = ap (λ (xs : List (ℕ × ℤ)). xs ++ rest) e
          ∙ option_joins (moved_arc (i + 1, (a, f))) before rest
          ∙ ap (λ (xs : List (ℕ × ℤ)). before ++ xs) (sym here)
          ∙ so_far.whole;
    }

pub moved_done : (arcs : List Arc) (flow : List ℤ) (i : ℕ) (moved : List (ℕ × ℤ)) → length arcs ≤ i → IsMovedUpTo arcs flow i moved → moved ≡ moved_of arcs flow
moved_done arcs flow i moved h so_far =
    sym (append-nil moved) ∙ ap (λ (xs : List Arc). moved ++ moved_from (i + 1) xs (drop i flow)) (sym (drop_all i arcs h)) ∙ so_far.whole

-- the cost of the first arcs, and those of them that don't carry their low
pub record IsStatedUpTo (g : Network) (flow : List ℤ) (i : ℕ) (total : ℤ) (moved : List (ℕ × ℤ)) : Type 0 where
  pub cost_is : total ≡ cost (take i g.arcs) flow
  pub lines : IsMovedUpTo g.arcs flow i moved

-- what is read of a flow at the place of an arc
pub read_at : (flow : List ℤ) (i k : ℕ) (x : ℤ) → k ≡ i + 1 → slice_get flow (k - 1) ≡ Some x → x ≡ get_or flow i (pos 0)
read_at flow i k x is read =
    let back : k - 1 ≡ i = omega (arith, is) in
    sym (get_or_from_slice_get flow i x (pos 0) (subst (λ j. slice_get flow j ≡ Some x) back read))

-- one arc more, of this number
pub line_more : (arcs : List Arc) (flow : List ℤ) (i number : ℕ) (a : Arc) (f : ℤ) (before after : List (ℕ × ℤ)) → i < length arcs → i < length flow
    → number ≡ i + 1 → get_or arcs i a ≡ a → get_or flow i (pos 0) ≡ f → IsMovedUpTo arcs flow i before
    → after ≡ before ++ cons_option (moved_arc (number, (a, f))) [] → IsMovedUpTo arcs flow (i + 1) after
line_more arcs flow i number a f before after h k is arc-is flow-is so_far e =
    moved_more arcs flow i a f before after h k arc-is flow-is so_far
    (e ∙ ap (λ (n : ℕ). before ++ cons_option (moved_arc (n, (a, f))) []) is)
