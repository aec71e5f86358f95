-- The verdict on a flow answer of the sparse form: at each of its cases, and when it accepts.
use Rattle.std.proofs.Common.{◌≡◌, ℕ, zero, suc, ◌+◌, ◌-◌, ◌≤◌, ◌<◌, Bool, true, false, not, cond, eqb, refl, ap, sym, subst, ◌∙◌}
use Rattle.std.proofs.Common.{arith, inl, inr, List, [], ◌∷◌, length}
use Rattle.std.proofs.Common.{◌⊎◌, get_or, map, Option, Some, None, ℤ}
use Rattle.std.specs.List.{All, enumerate_from, find, slice_get}
use Rattle.std.specs.Option.{option_map, option_map_or}
use Rattle.std.specs.Prelude.{int_le}
use Rattle.std.proofs.lemmas.Bool.{and_from, and_parts, cases_eq, eq-eqb, eqb-true, false≢true, ne_eqb, not-false, not_from_true}
use Rattle.std.proofs.lemmas.Int.{ints}
use Rattle.std.proofs.lemmas.Option.{get_or_from_slice_get, none-some, same_Some, slice_get-get_or, slice_get_within}
use Rattle.mcf_answer.specs.SparseSolution.{SparseSolution}
use Rattle.mcf_checker.specs.Correct.{IsRightSparse, spread, stated_or_low}
use Rattle.mcf_checker.specs.Judging.{accepts, bad_moved, can_carry, flow_verdict, moved_agrees, sparse_verdict}
use Rattle.mcf_checker.specs.Private.StatedFlows.{AreArcsInOrder}
use Rattle.mcf_checker.specs.declared.verdict.Verdict.TheVariants.{BadArc}
use Rattle.mcf_checker.proofs.OrderedArcs.{HasOrder}
use Rattle.mcf_checker.proofs.Solutions.{IsRightFlow-from_accepts, at_right_flow, no_bad_arc}
use Rattle.mcf_checker.proofs.StatedLines.{find_here, find_nowhere, next_at_start}
use Rattle.mcf_flows.proofs.IntLaws.{at_most, at_most_passes}
use Rattle.mcf_flows.specs.declared.arc.Arc.{Arc}
use Rattle.mcf_flows.specs.Flow.{CanCarry, IsWithinBounds}
use Rattle.mcf_flows.specs.Network.{Network}

-- each line is of an arc that is there, and can carry its flow
abbrev pub AllAgreeBefore : List Arc → List (ℕ × ℤ) → ℕ → Type 0
AllAgreeBefore arcs moved j = (m : ℕ × ℤ) → slice_get moved j ≡ Some m → moved_agrees arcs m ≡ true

pub agree_more : (arcs : List Arc) (moved : List (ℕ × ℤ)) (n : ℕ) → ((j : ℕ) → j < n → AllAgreeBefore arcs moved j) → AllAgreeBefore arcs moved n
    → (j : ℕ) → j < n + 1 → AllAgreeBefore arcs moved j
agree_more arcs moved n before here j h =
    elim (cases_eq j n) [
      | inl same ↦ subst (AllAgreeBefore arcs moved) (sym same) here
      | inr other ↦ before j (omega (arith, h, other))
    ]

-- ---- the first line that doesn't agree

module _ (g : Network) (moved : List (ℕ × ℤ)) where
  pub bad_moved-some : (i : ℕ) (m : ℕ × ℤ) → slice_get moved i ≡ Some m → ((j : ℕ) → j < i → AllAgreeBefore g.arcs moved j) → moved_agrees g.arcs m ≡ false
      → bad_moved g moved ≡ Some m.0
  bad_moved-some i m at before here =
      ap (option_map (λ (l : ℕ × ℤ). l.0)) (find_here (λ (l : ℕ × ℤ). not (moved_agrees g.arcs l)) moved i m at (ap not here)
      (λ j y h at-j. not_from_true (moved_agrees g.arcs y) (before j h y at-j)))

  pub bad_moved-none : ((j : ℕ) → j < length moved → AllAgreeBefore g.arcs moved j) → bad_moved g moved ≡ None
  bad_moved-none each =
      ap (option_map (λ (l : ℕ × ℤ). l.0)) (find_nowhere (λ (l : ℕ × ℤ). not (moved_agrees g.arcs l)) moved
      (λ j y at. not_from_true (moved_agrees g.arcs y) (each j (slice_get_within moved j y at) y at)))

-- ---- what it means that there is none

none_of : (b : Bool) (x : ℕ × ℤ) (rest : Option (ℕ × ℤ)) → cond b (Some x) rest ≡ None → (b ≡ false) × (rest ≡ None)
none_of true x rest e = absurd (none-some x (sym e))
none_of false x rest e = (refl, e)

each_fails : (p : ℕ × ℤ → Bool) (xs : List (ℕ × ℤ)) → find p xs ≡ None → (j : ℕ) (y : ℕ × ℤ) → slice_get xs j ≡ Some y → p y ≡ false
each_fails p [] e j y at = absurd (none-some y at)
each_fails p (x ∷ xs) e zero y at = sym (ap p (same_Some x y at)) ∙ (none_of (p x) x (find p xs) e).0
each_fails p (x ∷ xs) e (suc j) y at = each_fails p xs (none_of (p x) x (find p xs) e).1 j y at

one_of : (b : Bool) (y : ℕ × ℤ) (rest : Option (ℕ × ℤ)) (x : ℕ × ℤ) → cond b (Some y) rest ≡ Some x
    → ((b ≡ true) × (y ≡ x)) ⊎ ((b ≡ false) × (rest ≡ Some x))
one_of true y rest x e = inl (refl, same_Some y x e)
one_of false y rest x e = inr (refl, e)

-- a line that is found stands somewhere, and passes
record IsFoundLine (p : ℕ × ℤ → Bool) (xs : List (ℕ × ℤ)) (x : ℕ × ℤ) : Type 0 where
  place : ℕ
  at : slice_get xs place ≡ Some x
  passes : p x ≡ true

found_line : (p : ℕ × ℤ → Bool) (xs : List (ℕ × ℤ)) (x : ℕ × ℤ) → find p xs ≡ Some x → IsFoundLine p xs x
found_line p [] x e = absurd (none-some x e)
found_line p (y ∷ xs) x e =
    elim (one_of (p y) y (find p xs) x e) [
      | inl here ↦ record { place = 0; at = ap Some here.1; passes = sym (ap p here.1) ∙ here.0 }
      | inr later ↦ let rest = found_line p xs x later.1 in record { place = suc rest.place; at = rest.at; passes = rest.passes }
    ]

no_line : (o : Option (ℕ × ℤ)) → option_map (λ (l : ℕ × ℤ). l.0) o ≡ None → o ≡ None
no_line None e = refl
no_line (Some m) e = absurd (none-some m.0 (sym e))

each_line_agrees : (g : Network) (moved : List (ℕ × ℤ)) → bad_moved g moved ≡ None → (j : ℕ) (m : ℕ × ℤ) → slice_get moved j ≡ Some m
    → moved_agrees g.arcs m ≡ true
each_line_agrees g moved e j m at =
    not-false (moved_agrees g.arcs m)
    (each_fails (λ (l : ℕ × ℤ). not (moved_agrees g.arcs l)) moved (no_line (find (λ (l : ℕ × ℤ). not (moved_agrees g.arcs l)) moved) e) j m at)

-- an arc that can carry this much is there
record IsThere (o : Option Arc) (f : ℤ) : Type 0 where
  arc : Arc
  is : o ≡ Some arc
  carries : CanCarry arc f

there_from_test : (o : Option Arc) (f : ℤ) → can_carry o f ≡ true → IsThere o f
there_from_test None f e = absurd (false≢true e)
there_from_test (Some a) f e =
    let parts = and_parts (int_le a.low f) (int_le f a.cap) e in
    record { arc = a; is = refl; carries = (at_most a.low f parts.0, at_most f a.cap parts.1) }

test_from_carried : (o : Option Arc) (f : ℤ) (a : Arc) → o ≡ Some a → CanCarry a f → can_carry o f ≡ true
test_from_carried o f a is h =
    ap (λ (x : Option Arc). can_carry x f) is ∙ and_from (int_le a.low f) (int_le f a.cap) (at_most_passes a.low f h.0) (at_most_passes f a.cap h.1)

-- ---- bounds, place by place

bounds_by_place : (f : ℕ × Arc → ℤ) (from : ℕ) (arcs : List Arc) → ((i : ℕ) (a : Arc) → slice_get arcs i ≡ Some a → CanCarry a (f (from + i, a)))
    → IsWithinBounds arcs (map f (enumerate_from from arcs))
bounds_by_place f from [] each = tt
bounds_by_place f from (a ∷ arcs) each =
    let here : from + 0 ≡ from = omega arith in (
      subst (λ (n : ℕ). CanCarry a (f (n, a))) here (each 0 a refl),
      bounds_by_place f (from + 1) arcs (λ i b at.
          let next : from + suc i ≡ from + 1 + i = omega arith in subst (λ (n : ℕ). CanCarry b (f (n, b))) next (each (suc i) b at)),
    )

place_by_bounds : (f : ℕ × Arc → ℤ) (from : ℕ) (arcs : List Arc) → IsWithinBounds arcs (map f (enumerate_from from arcs))
    → (i : ℕ) (a : Arc) → slice_get arcs i ≡ Some a → CanCarry a (f (from + i, a))
place_by_bounds f from [] h i a at = absurd (none-some a at)
place_by_bounds f from (b ∷ arcs) h zero a at =
    let here : from ≡ from + 0 = omega arith in
    let same : b ≡ a = same_Some b a at in
    subst (λ (c : Arc). CanCarry c (f (from + 0, c))) same (subst (λ (n : ℕ). CanCarry b (f (n, b))) here h.0)
place_by_bounds f from (b ∷ arcs) h (suc i) a at =
    let next : from + 1 + i ≡ from + suc i = omega arith in
    subst (λ (n : ℕ). CanCarry a (f (n, a))) next (place_by_bounds f (from + 1) arcs h.1 i a at)

-- what is stated of an arc, where lines agree and bounds are in order
carried_at : (arcs : List Arc) (moved : List (ℕ × ℤ)) (i : ℕ) (a : Arc) (o : Option (ℕ × ℤ)) → slice_get arcs i ≡ Some a → HasOrder a
    → ((m : ℕ × ℤ) → o ≡ Some m → (m.0 ≡ 1 + i) × (moved_agrees arcs m ≡ true)) → CanCarry a (option_map_or (λ (l : ℕ × ℤ). l.1) o a.low)
carried_at arcs moved i a None at order agrees = (omega (arith, ints), order)
carried_at arcs moved i a (Some m) at order agrees =
    let here = agrees m refl in
    let there = there_from_test (slice_get arcs (m.0 - 1)) m.1 here.1 in
    let back : m.0 - 1 ≡ i = omega (arith, here.0) in
    let both : Some there.arc ≡ Some a = sym there.is ∙ ap (slice_get arcs) back ∙ at in
    subst (λ (b : Arc). CanCarry b m.1) (same_Some there.arc a both) there.carries

pub within_bounds_of : (g : Network) (moved : List (ℕ × ℤ)) → All HasOrder g.arcs → bad_moved g moved ≡ None → IsWithinBounds g.arcs (spread g.arcs moved)
within_bounds_of g moved ordered e =
    bounds_by_place (stated_or_low moved) 1 g.arcs (λ i a at.
    let order : HasOrder a = subst HasOrder (get_or_from_slice_get g.arcs i a a at) (ordered i a (slice_get_within g.arcs i a at)) in
    carried_at g.arcs moved i a (find (λ (l : ℕ × ℤ). eqb l.0 (1 + i)) moved) at order (λ m found.
    let line = found_line (λ (l : ℕ × ℤ). eqb l.0 (1 + i)) moved m found in
    (eqb-true m.0 (1 + i) line.passes, each_line_agrees g moved e line.place m line.at)))

pub of_instance_of : (g : Network) (moved : List (ℕ × ℤ)) → bad_moved g moved ≡ None → All (λ m. m.0 ≤ length g.arcs) moved
of_instance_of g moved e k d h =
    let at = slice_get-get_or moved k d h in
    let there = there_from_test (slice_get g.arcs ((get_or moved k d).0 - 1)) (get_or moved k d).1 (each_line_agrees g moved e k (get_or moved k d) at) in
    let within = slice_get_within g.arcs ((get_or moved k d).0 - 1) there.arc there.is in
    omega (arith, within)

-- the other way
arc_there : (arcs : List Arc) (i : ℕ) → i < length arcs → (a : Arc) × (slice_get arcs i ≡ Some a)
arc_there [] i h = absurd (omega arith)
arc_there (a ∷ arcs) zero h = (a, refl)
arc_there (a ∷ arcs) (suc i) h = arc_there arcs i (omega arith)

line_agrees : (g : Network) (moved : List (ℕ × ℤ)) → AreArcsInOrder moved → IsWithinBounds g.arcs (spread g.arcs moved) → (j : ℕ) (m : ℕ × ℤ)
    → slice_get moved j ≡ Some m → 1 ≤ m.0 → (a : Arc) → slice_get g.arcs (m.0 - 1) ≡ Some a → moved_agrees g.arcs m ≡ true
line_agrees g moved order bounds j m at low a there =
    let number : 1 + (m.0 - 1) ≡ m.0 = omega (arith, low) in
    let found : find (λ (l : ℕ × ℤ). eqb l.0 (1 + (m.0 - 1))) moved ≡ Some m =
    find_here (λ (l : ℕ × ℤ). eqb l.0 (1 + (m.0 - 1))) moved j m at (eq-eqb m.0 (1 + (m.0 - 1)) (sym number))
    (λ i y h at-i. ne_eqb y.0 (1 + (m.0 - 1)) (λ e. omega (arith, e, number, (next_at_start moved order).ascending i j y m h at-i at))) in
    let stated : stated_or_low moved (1 + (m.0 - 1), a) ≡ m.1 = ap (λ (o : Option (ℕ × ℤ)). option_map_or (λ (l : ℕ × ℤ). l.1) o a.low) found in
    let carried : CanCarry a (stated_or_low moved (1 + (m.0 - 1), a)) = place_by_bounds (stated_or_low moved) 1 g.arcs bounds (m.0 - 1) a there in
    test_from_carried (slice_get g.arcs (m.0 - 1)) m.1 a there (subst (CanCarry a) stated carried)

no_bad_line : (g : Network) (moved : List (ℕ × ℤ)) → AreArcsInOrder moved → All (λ m. m.0 ≤ length g.arcs) moved
    → IsWithinBounds g.arcs (spread g.arcs moved) → bad_moved g moved ≡ None
no_bad_line g moved order few bounds =
    bad_moved-none g moved (λ j h m at.
    let is : get_or moved j m ≡ m = get_or_from_slice_get moved j m m at in
    let low : 1 ≤ m.0 = subst (λ (l : ℕ × ℤ). 1 ≤ l.0) is (order.numbered j m h) in
    let high : m.0 ≤ length g.arcs = subst (λ (l : ℕ × ℤ). l.0 ≤ length g.arcs) is (few j m h) in
    let there = arc_there g.arcs (m.0 - 1) (omega (arith, low, high)) in
    line_agrees g moved order bounds j m at low there.0 there.1)

-- ---- the verdict

module _ (g : Network) (a : SparseSolution) where
  pub at_bad_moved : (k : ℕ) → Some k ≡ bad_moved g a.moved → BadArc k ≡ sparse_verdict g a
  unfolding sparse_verdict
  at_bad_moved k e = rw (← e) refl

  pub past_moved : bad_moved g a.moved ≡ None → flow_verdict g a.cost a.prices (spread g.arcs a.moved) ≡ sparse_verdict g a
  unfolding sparse_verdict
  past_moved e = rw e refl

  pub IsRightSparse-from_accepts : All HasOrder g.arcs → accepts (sparse_verdict g a) ≡ true → IsRightSparse g a
  unfolding sparse_verdict
  IsRightSparse-from_accepts ordered e =
      let parts = no_bad_arc (bad_moved g a.moved) (flow_verdict g a.cost a.prices (spread g.arcs a.moved)) e in
      record {
        of_instance = of_instance_of g a.moved parts.0;
        right = IsRightFlow-from_accepts g a.cost a.prices (spread g.arcs a.moved) (within_bounds_of g a.moved ordered parts.0) parts.1;
      }

  pub accepts-from_IsRightSparse : AreArcsInOrder a.moved → IsRightSparse g a → accepts (sparse_verdict g a) ≡ true
  accepts-from_IsRightSparse order h =
      sym (ap accepts (at_right_flow g a.cost a.prices (spread g.arcs a.moved) h.right
      ∙ past_moved (no_bad_line g a.moved order h.of_instance h.right.feasible.within_bounds)))
