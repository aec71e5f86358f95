-- The lines of a flow answer, as a pass over the arcs reads them.
use denote.Ref.{Bor}
use Rattle.std.proofs.Common.{◌≡◌, ◌≢◌, ℕ, zero, suc, ◌+◌, ◌≤◌, ◌<◌, Bool, true, false, cond, eqb, refl, ap, sym, subst, ◌∙◌}
use Rattle.std.proofs.Common.{arith, inl, inr, List, [], ◌∷◌, length}
use Rattle.std.proofs.Common.{get_or, map, Option, Some, None, ℤ}
use Rattle.std.specs.List.{enumerate_from, find, slice_get}
use Rattle.std.specs.Option.{option_map, option_map_or}
use Rattle.std.proofs.lemmas.Bool.{cases_eq, cases_lt, eq-eqb, eqb-true, ne_eqb}
use Rattle.std.proofs.lemmas.List.{length-map}
use Rattle.std.proofs.lemmas.List.Kept.{AllPairs-from_increasing}
use Rattle.std.proofs.lemmas.Option.{get_or_from_slice_get, none-some, same_Some, slice_get-get_or, slice_get-map, slice_get_within}
use Rattle.mcf_checker.specs.Correct.{amounts, spread, stated_or_low}
use Rattle.mcf_checker.specs.Private.StatedFlows.{AreArcsInOrder, HasLine, IsFlowAt, IsInOrder, IsNext, IsNextLine, flow_if_of, flow_stated}
use Rattle.mcf_checker.specs.declared.stated.Stated.{Stated}
use Rattle.mcf_checker.specs.declared.stated.Stated.TheVariants.{Amounts, Each, Moved}
use Rattle.mcf_flows.proofs.AllZips.{length-AllZip}
use Rattle.mcf_flows.specs.declared.arc.Arc.{Arc}
use Rattle.mcf_flows.specs.Flow.{CanCarry, IsWithinBounds}

-- ---- the flow at a place

-- a map over the numbered items, at a place
numbered_at : {X Y : Type 0} (f : ℕ × X → Y) (from : ℕ) (xs : List X) (i : ℕ) (x : X) → slice_get xs i ≡ Some x
    → slice_get (map f (enumerate_from from xs)) i ≡ Some (f (from + i, x))
numbered_at f from [] i x at = absurd (none-some x at)
numbered_at {X} {Y} f from (y ∷ xs) zero x at =
    let same : y ≡ x = same_Some y x at in
    let back : from + 0 ≡ from = omega arith in
    ap (λ (z : X). Some (f (from, z))) same ∙ ap (λ (n : ℕ). Some (f (n, x))) (sym back)
numbered_at {X} {Y} f from (y ∷ xs) (suc i) x at =
    let next : from + 1 + i ≡ from + suc i = omega arith in
    numbered_at f (from + 1) xs i x at ∙ ap (λ (n : ℕ). Some (f (n, x))) next

pub spread_at : (arcs : List Arc) (moved : List (ℕ × ℤ)) (i : ℕ) (a : Arc) → slice_get arcs i ≡ Some a
    → slice_get (spread arcs moved) i ≡ Some (stated_or_low moved (i + 1, a))
spread_at arcs moved i a at =
    let number : 1 + i ≡ i + 1 = omega arith in
    numbered_at (stated_or_low moved) 1 arcs i a at ∙ ap (λ (n : ℕ). Some (stated_or_low moved (n, a))) number

-- what is stated of an arc that was read
pub flow_read : (arcs : List Arc) (stated : Stated) (i : ℕ) (a : Arc) (f : ℤ) → slice_get arcs i ≡ Some a → IsFlowAt stated a i f
    → slice_get (flow_stated arcs stated) i ≡ Some f
flow_read arcs (Each sent) i a f at is = is
flow_read arcs (Moved moved) i a f at is = spread_at arcs moved.now i a at ∙ ap Some (sym is)
flow_read arcs (Amounts flow) i a f at is = is

-- there is a line where there has to be one
pub has_line : (arcs : List Arc) (stated : Stated) (i : ℕ) → IsWithinBounds arcs (flow_stated arcs stated) → i < length arcs → HasLine stated i
has_line arcs (Each sent) i bounds h =
    omega (arith, length-AllZip CanCarry arcs (amounts sent.now) bounds, length-map sent.now (λ s. s.flow))
has_line arcs (Moved moved) i bounds h = tt
has_line arcs (Amounts flow) i bounds h = omega (arith, length-AllZip CanCarry arcs flow.now bounds)

-- ---- the next line

pub next_at_start : (moved : List (ℕ × ℤ)) → AreArcsInOrder moved → IsNextLine moved 0 0
next_at_start moved order = record {
  ascending = λ i j m n h at-i at-j.
      let pairs = AllPairs-from_increasing (map (λ (l : ℕ × ℤ). l.0) moved) order.ascending i j 0 h
      (omega (arith, slice_get_within moved j n at-j, length-map moved (λ (l : ℕ × ℤ). l.0))) in
      let first : get_or (map (λ (l : ℕ × ℤ). l.0) moved) i 0 ≡ m.0 =
      get_or_from_slice_get (map (λ (l : ℕ × ℤ). l.0) moved) i m.0 0 (slice_get-map (λ (l : ℕ × ℤ). l.0) moved i ∙ ap (option_map (λ (l : ℕ × ℤ). l.0)) at-i) in
      let second : get_or (map (λ (l : ℕ × ℤ). l.0) moved) j 0 ≡ n.0 =
      get_or_from_slice_get (map (λ (l : ℕ × ℤ). l.0) moved) j n.0 0 (slice_get-map (λ (l : ℕ × ℤ). l.0) moved j ∙ ap (option_map (λ (l : ℕ × ℤ). l.0)) at-j) in
      omega (arith, pairs, first, second);
  before = λ i m h at. absurd (omega (arith, h));
  behind = λ i m h at.
      let is : get_or moved i m ≡ m = get_or_from_slice_get moved i m m at in
      let one : 1 ≤ (get_or moved i m).0 = order.numbered i m (slice_get_within moved i m at) in
      omega (arith, one, ap (λ (l : ℕ × ℤ). l.0) is);
}

pub starts : (stated : Stated) → IsInOrder stated → IsNext stated 0 0
starts (Each sent) order = tt
starts (Moved moved) order = next_at_start moved.now order
starts (Amounts flow) order = tt

-- ---- one step

pub find_here : (p : ℕ × ℤ → Bool) (xs : List (ℕ × ℤ)) (i : ℕ) (x : ℕ × ℤ) → slice_get xs i ≡ Some x → p x ≡ true
    → ((j : ℕ) (y : ℕ × ℤ) → j < i → slice_get xs j ≡ Some y → p y ≡ false) → find p xs ≡ Some x
find_here p [] i x at passes before = absurd (none-some x at)
find_here p (y ∷ xs) zero x at passes before =
    let same : y ≡ x = same_Some y x at in rw (ap p same ∙ passes) (ap Some same)
find_here p (y ∷ xs) (suc i) x at passes before =
    rw (before 0 y (omega arith) refl) (find_here p xs i x at passes (λ j z h. before (suc j) z (omega (arith, h))))

pub find_nowhere : (p : ℕ × ℤ → Bool) (xs : List (ℕ × ℤ)) → ((j : ℕ) (y : ℕ × ℤ) → slice_get xs j ≡ Some y → p y ≡ false) → find p xs ≡ None
find_nowhere p [] none = refl
find_nowhere p (y ∷ xs) none = rw (none 0 y refl) (find_nowhere p xs (λ j z. none (suc j) z))

module _ (moved : List (ℕ × ℤ)) (place next : ℕ) (is : IsNextLine moved place next) where
  -- the next line is of the arc at the place
  pub stated_here : (a : Arc) (m : ℕ × ℤ) → slice_get moved next ≡ Some m → m.0 ≡ place + 1 → m.1 ≡ stated_or_low moved (place + 1, a)
  stated_here a m at same =
      let found : find (λ (l : ℕ × ℤ). eqb l.0 (place + 1)) moved ≡ Some m =
      find_here (λ (l : ℕ × ℤ). eqb l.0 (place + 1)) moved next m at (eq-eqb m.0 (place + 1) same)
      (λ j y h at-j. ne_eqb y.0 (place + 1) (λ e. omega (arith, e, is.before j y h at-j))) in
      sym (ap (λ (o : Option (ℕ × ℤ)). option_map_or (λ (l : ℕ × ℤ). l.1) o a.low) found)

  pub next_after_line : (m : ℕ × ℤ) → slice_get moved next ≡ Some m → m.0 ≡ place + 1 → IsNextLine moved (place + 1) (next + 1)
  next_after_line m at same = record {
    ascending = is.ascending;
    before = λ i l h at-i. elim (cases_eq i next) [
      | inl here ↦
          let both : Some l ≡ Some m = sym at-i ∙ ap (slice_get moved) here ∙ at in
          omega (arith, same, ap (λ (k : ℕ × ℤ). k.0) (same_Some l m both))
      | inr other ↦ omega (arith, is.before i l (omega (arith, h, other)) at-i)
    ];
    behind = λ i l h at-i. omega (arith, same, is.ascending next i m l (omega (arith, h)) at at-i);
  }

  -- the next line, if there is one, is of another arc
  module _ (none : (m : ℕ × ℤ) → slice_get moved next ≡ Some m → m.0 ≡ place + 1 → ⊥) where
    beyond : (i : ℕ) (l : ℕ × ℤ) → next ≤ i → slice_get moved i ≡ Some l → place + 1 < l.0
    beyond i l h at-i =
        elim (cases_eq i next) [
          | inl here ↦
              let at : slice_get moved next ≡ Some l = ap (slice_get moved) (sym here) ∙ at-i in
              let differs : l.0 ≢ (place + 1) = none l at in
              omega (arith, differs, is.behind i l h at-i)
          | inr other ↦
              let within : next < length moved = omega (arith, h, slice_get_within moved i l at-i) in
              let at : slice_get moved next ≡ Some (get_or moved next l) = slice_get-get_or moved next l within in
              omega (
                arith,
                is.behind next (get_or moved next l) (omega arith) at,
                is.ascending next i (get_or moved next l) l (omega (arith, h, other)) at at-i,
              )
        ]

    pub low_here : (a : Arc) → a.low ≡ stated_or_low moved (place + 1, a)
    low_here a =
        let nowhere : find (λ (l : ℕ × ℤ). eqb l.0 (place + 1)) moved ≡ None =
        find_nowhere (λ (l : ℕ × ℤ). eqb l.0 (place + 1)) moved
        (λ j y at-j. ne_eqb y.0 (place + 1) (λ e. elim (cases_lt j next) [
          | inl first ↦ omega (arith, e, is.before j y first at-j)
          | inr last ↦ omega (arith, e, beyond j y last at-j)
        ])) in
        sym (ap (λ (o : Option (ℕ × ℤ)). option_map_or (λ (l : ℕ × ℤ). l.1) o a.low) nowhere)

    pub next_after_none : IsNextLine moved (place + 1) next
    next_after_none = record {
      ascending = is.ascending;
      before = λ i l h at-i. omega (arith, is.before i l h at-i);
      behind = beyond;
    }

-- ---- as the pass reads it

flow_if_some : (number : ℕ) (o : Option (ℕ × ℤ)) (f : ℤ) → Some f ≡ flow_if_of number o → (m : ℕ × ℤ) × (o ≡ Some m) × (m.0 ≡ number) × (f ≡ m.1)
flow_if_some number None f e = absurd (none-some f (sym e))
flow_if_some number (Some m) f e =
    elim (eqb m.0 number) as (λ (b : Bool). eqb m.0 number ≡ b → Some f ≡ cond b (Some m.1) None
    → (k : ℕ × ℤ) × (Some m ≡ Some k) × (k.0 ≡ number) × (f ≡ k.1)) [
      | true ↦ λ t h. (m, refl, eqb-true m.0 number t, same_Some f m.1 h)
      | false ↦ λ t h. absurd (none-some f (sym h))
    ] refl e

flow_if_none : (number : ℕ) (o : Option (ℕ × ℤ)) → None ≡ flow_if_of number o → (m : ℕ × ℤ) → o ≡ Some m → m.0 ≡ number → ⊥
flow_if_none number None e m at same = none-some m at
flow_if_none number (Some l) e m at same =
    let is : l ≡ m = same_Some l m at in
    none-some l.1 (e ∙ ap (λ b. cond b (Some l.1) None) (eq-eqb l.0 number (ap (λ (k : ℕ × ℤ). k.0) is ∙ same)))

-- what a step over one arc gives
pub record IsStep (stated : Stated) (a : Arc) (place : ℕ) (f : ℤ) (next : ℕ) : Type 0 where
  pub flow : IsFlowAt stated a place f
  pub next_is : IsNext stated (place + 1) next

pub step_of_line : (stated : Stated) (moved : Bor (List (ℕ × ℤ))) (place next : ℕ) (a : Arc) (f : ℤ) → stated ≡ Moved moved → IsNext stated place next
    → Some f ≡ flow_if_of (place + 1) (slice_get moved.now next) → IsStep stated a place f (next + 1)
step_of_line stated moved place next a f is before e =
    let here = flow_if_some (place + 1) (slice_get moved.now next) f e in
    let was : IsNext (Moved moved) place next = subst (λ (s : Stated). IsNext s place next) is before in
    let m = here.0 in
    let step : IsStep (Moved moved) a place f (next + 1) = record {
      flow = here.3 ∙ stated_here moved.now place next was a m here.1 here.2;
      next_is = next_after_line moved.now place next was m here.1 here.2;
    } in
    subst (λ (s : Stated). IsStep s a place f (next + 1)) (sym is) step

pub line_within : (moved : List (ℕ × ℤ)) (place next : ℕ) (f : ℤ) → Some f ≡ flow_if_of (place + 1) (slice_get moved next) → next < length moved
line_within moved place next f e =
    let here = flow_if_some (place + 1) (slice_get moved next) f e in slice_get_within moved next here.0 here.1

pub step_of_none : (stated : Stated) (moved : Bor (List (ℕ × ℤ))) (place next : ℕ) (a : Arc) → stated ≡ Moved moved → IsNext stated place next
    → None ≡ flow_if_of (place + 1) (slice_get moved.now next) → IsStep stated a place a.low next
step_of_none stated moved place next a is before e =
    let none = flow_if_none (place + 1) (slice_get moved.now next) e in
    let was : IsNext (Moved moved) place next = subst (λ (s : Stated). IsNext s place next) is before in
    let step : IsStep (Moved moved) a place a.low next = record {
      flow = low_here moved.now place next was none a;
      next_is = next_after_none moved.now place next was none;
    } in
    subst (λ (s : Stated). IsStep s a place a.low next) (sym is) step
