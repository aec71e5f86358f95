-- The rooms of steps that cost less, or no more, than the price drop tell where the cost of one
-- unit more is as great as the drop, and where it is no greater.
use Rattle.std.proofs.Common.{◌≡◌, List, [], ◌∷◌, refl, ap, arith, ℤ, pos, ◌+ℤ◌, ◌-ℤ◌, ◌≤ℤ◌, ◌<ℤ◌}
use Rattle.std.specs.Prelude.{Option, Some, None, IfSome, option_map}
use Rattle.std.proofs.lemmas.Int.{ints, by_lt_z}
use Rattle.mcf_model.specs.declared.rows.Step.{Step}
use Rattle.mcf_model.specs.Bottlenecks.{limit_or_zero}
use Rattle.mcf_model.specs.Faults.{first_cost}
use Rattle.mcf_model.specs.Model.{Adds, AreRooms, Fits, IsLimited, Rises, room}
use Rattle.mcf_unit_ranges.specs.Spans.{room_below, room_up_to}
use Rattle.mcf_unit_ranges.proofs.UnitCosts.{at_least, from_first, is_below, is_not_below, is_not_up_to, is_up_to, unit_cost}

pub rooms_total : (steps : List Step) (most : ℤ) → AreRooms steps (Some most) → pos 0 ≤ℤ room steps most
rooms_total [] most h = h
rooms_total (s ∷ steps) most h = omega (arith, ints, h.0, rooms_total steps most h.1)

pub adds_later : (steps : List Step) (most : Option ℤ) → AreRooms steps most → Adds steps most
adds_later [] most h = tt
adds_later (s ∷ steps) most h = h.1

-- an amount is within a limit, if there is one
abbrev pub IsAtMost : ℤ → Option ℤ → Type 0
IsAtMost x o = IfSome o (λ most. x ≤ℤ most)

-- ---- rooms of cheaper steps

module _ (z c : ℤ) (most : Option ℤ) where
  none_below : (steps : List Step) → z ≤ℤ first_cost steps c → room_below z steps c most ≡ pos 0
  none_below [] h = rw (is_not_below c z h) refl
  none_below (s ∷ steps) h = rw (is_not_below s.cost z h) refl

  pub some_below : (steps : List Step) → AreRooms steps most → pos 0 ≤ℤ room_below z steps c most
  some_below [] h =
      by_lt_z c z (λ less. rw (is_below c z less) (of_limit most h)) (λ more. rw (is_not_below c z more) (omega (arith, ints)))
    where
      of_limit : (o : Option ℤ) → AreRooms [] o → pos 0 ≤ℤ limit_or_zero o
      of_limit (Some m) h = h
      of_limit None h = omega (arith, ints)
  some_below (s ∷ steps) h =
      by_lt_z s.cost z
      (λ less. rw (is_below s.cost z less) (omega (arith, ints, h.0, some_below steps h.1)))
      (λ more. rw (is_not_below s.cost z more) (omega (arith, ints)))

  -- the next unit is worth its cost only below that room
  pub past_from : (steps : List Step) (x : ℤ) → Adds steps most → (c <ℤ z → IsLimited most) → first_cost steps c <ℤ z
      → (Fits steps most (x +ℤ pos 1) → z ≤ℤ unit_cost steps c x) → room_below z steps c most ≤ℤ x
  past_from [] x adds limited first h = rw (is_below c z first) (of_limit most (limited first) h)
    where
      of_limit : (o : Option ℤ) → IsLimited o → (Fits [] o (x +ℤ pos 1) → z ≤ℤ c) → limit_or_zero o ≤ℤ x
      of_limit (Some m) l h =
          by_lt_z x m (λ less. let up = h (omega (arith, ints, less)) in absurd (omega (arith, ints, up, first))) (λ more. more)
      of_limit None l h = absurd l
  past_from (s ∷ steps) x adds limited first h =
      by_lt_z x s.most
      (λ less.
      let cheap : unit_cost (s ∷ steps) c x ≡ s.cost = rw (is_below x s.most less) refl in
      let up = h (fits_within most adds less) in
      absurd (omega (arith, ints, up, cheap, first)))
      (λ more.
      let same : unit_cost (s ∷ steps) c x ≡ unit_cost steps c (x -ℤ s.most) = rw (is_not_below x s.most more) refl in
      let rest : room_below z steps c most ≤ℤ (x -ℤ s.most) = by_lt_z (first_cost steps c) z
      (λ less. past_from steps (x -ℤ s.most) (adds_later steps most adds) limited less
      (λ fits. let up = h (fits_past most fits) in omega (arith, ints, up, same)))
      (λ high. let e = none_below steps high in omega (arith, ints, e, more)) in
      rw (is_below s.cost z first) (omega (arith, ints, rest)))
    where
      fits_within : (o : Option ℤ) → AreRooms steps o → x <ℤ s.most → Fits (s ∷ steps) o (x +ℤ pos 1)
      fits_within (Some m) rooms less = omega (arith, ints, less, rooms_total steps m rooms)
      fits_within None rooms less = tt

      fits_past : (o : Option ℤ) → Fits steps o ((x -ℤ s.most) +ℤ pos 1) → Fits (s ∷ steps) o (x +ℤ pos 1)
      fits_past (Some m) f = omega (arith, ints, f)
      fits_past None f = tt

  pub past_to : (steps : List Step) (x : ℤ) → Rises steps c → Adds steps most → (c <ℤ z → IsLimited most) → first_cost steps c <ℤ z
      → room_below z steps c most ≤ℤ x → Fits steps most (x +ℤ pos 1) → z ≤ℤ unit_cost steps c x
  past_to [] x rises adds limited first h fits = absurd (of_limit most (limited first) (rw (is_below c z first) at h) fits)
    where
      of_limit : (o : Option ℤ) → IsLimited o → limit_or_zero o ≤ℤ x → Fits [] o (x +ℤ pos 1) → ⊥
      of_limit (Some m) l h f = omega (arith, ints, h, f)
      of_limit None l h f = l
  past_to (s ∷ steps) x rises adds limited first h fits =
      let low : (s.most +ℤ room_below z steps c most) ≤ℤ x = rw (is_below s.cost z first) at h in
      by_lt_z x s.most
      (λ less. absurd (omega (arith, ints, less, low, some_below steps adds)))
      (λ more. rw (is_not_below x s.most more)
      (by_lt_z (first_cost steps c) z
      (λ less. past_to steps (x -ℤ s.most) rises.1 (adds_later steps most adds) limited less (omega (arith, ints, low)) (fits_past most fits))
      (λ high. at_least z steps c (x -ℤ s.most) (from_first z steps c rises.1 high))))
    where
      fits_past : (o : Option ℤ) → Fits (s ∷ steps) o (x +ℤ pos 1) → Fits steps o ((x -ℤ s.most) +ℤ pos 1)
      fits_past (Some m) f = omega (arith, ints, f)
      fits_past None f = tt

  -- ---- rooms of steps that are no dearer

  none_up_to : (steps : List Step) → z <ℤ first_cost steps c → room_up_to z steps c most ≡ Some (pos 0)
  none_up_to [] h = rw (is_not_up_to c z h) refl
  none_up_to (s ∷ steps) h = rw (is_not_up_to s.cost z h) refl

  raised : (k x : ℤ) (o : Option ℤ) → IsAtMost (x -ℤ k) o → IsAtMost x (option_map (λ y. k +ℤ y) o)
  raised k x (Some y) h = omega (arith, ints, h)
  raised k x None h = tt

  lowered : (k x : ℤ) (o : Option ℤ) → IsAtMost x (option_map (λ y. k +ℤ y) o) → IsAtMost (x -ℤ k) o
  lowered k x (Some y) h = omega (arith, ints, h)
  lowered k x None h = tt

  some_up_to : (steps : List Step) (x : ℤ) → AreRooms steps most → x ≤ℤ pos 0 → IsAtMost x (room_up_to z steps c most)
  some_up_to [] x h none =
      by_lt_z z c (λ less. rw (is_not_up_to c z less) none) (λ more. rw (is_up_to c z more) (of_limit most h))
    where
      of_limit : (o : Option ℤ) → AreRooms [] o → IsAtMost x o
      of_limit (Some m) h = omega (arith, ints, h, none)
      of_limit None h = tt
  some_up_to (s ∷ steps) x h none =
      by_lt_z z s.cost
      (λ less. rw (is_not_up_to s.cost z less) none)
      (λ more. rw (is_up_to s.cost z more) (raised s.most x (room_up_to z steps c most) (some_up_to steps (x -ℤ s.most) h.1 (omega (arith, ints, none, h.0)))))

  -- the last unit is worth its cost only up to that room
  pub up_from : (steps : List Step) (x : ℤ) → Rises steps c → Adds steps most → first_cost steps c ≤ℤ z → Fits steps most x
      → unit_cost steps c (x -ℤ pos 1) ≤ℤ z → IsAtMost x (room_up_to z steps c most)
  up_from [] x rises adds first fits h = rw (is_up_to c z first) (of_limit most fits)
    where
      of_limit : (o : Option ℤ) → Fits [] o x → IsAtMost x o
      of_limit (Some m) f = f
      of_limit None f = tt
  up_from (s ∷ steps) x rises adds first fits h =
      rw (is_up_to s.cost z first) (raised s.most x (room_up_to z steps c most) (by_lt_z (x -ℤ pos 1) s.most
      (λ less. some_up_to steps (x -ℤ s.most) adds (omega (arith, ints, less)))
      (λ more.
      let back : (x -ℤ pos 1) -ℤ s.most ≡ (x -ℤ s.most) -ℤ pos 1 = omega (arith, ints) in
      let same : unit_cost (s ∷ steps) c (x -ℤ pos 1) ≡ unit_cost steps c ((x -ℤ s.most) -ℤ pos 1) =
      rw (is_not_below (x -ℤ pos 1) s.most more) (ap (unit_cost steps c) back) in
      by_lt_z z (first_cost steps c)
      (λ dear. let up = at_least (first_cost steps c) steps c ((x -ℤ s.most) -ℤ pos 1) (from_first (first_cost steps c) steps c rises.1 (omega (arith, ints))) in
      absurd (omega (arith, ints, up, same, h, dear)))
      (λ cheap. up_from steps (x -ℤ s.most) rises.1 (adds_later steps most adds) cheap (fits_past most fits) (omega (arith, ints, same, h))))))
    where
      fits_past : (o : Option ℤ) → Fits (s ∷ steps) o x → Fits steps o (x -ℤ s.most)
      fits_past (Some m) f = omega (arith, ints, f)
      fits_past None f = tt

  pub up_to : (steps : List Step) (x : ℤ) → first_cost steps c ≤ℤ z → IsAtMost x (room_up_to z steps c most) → unit_cost steps c (x -ℤ pos 1) ≤ℤ z
  up_to [] x first h = first
  up_to (s ∷ steps) x first h =
      let low : IsAtMost (x -ℤ s.most) (room_up_to z steps c most) = lowered s.most x (room_up_to z steps c most) (rw (is_up_to s.cost z first) at h) in
      by_lt_z (x -ℤ pos 1) s.most
      (λ less. rw (is_below (x -ℤ pos 1) s.most less) first)
      (λ more.
      let back : (x -ℤ pos 1) -ℤ s.most ≡ (x -ℤ s.most) -ℤ pos 1 = omega (arith, ints) in
      rw (is_not_below (x -ℤ pos 1) s.most more, back)
      (by_lt_z z (first_cost steps c)
      (λ dear. let none : IsAtMost (x -ℤ s.most) (Some (pos 0)) = rw (none_up_to steps dear) at low in
      absurd (omega (arith, ints, none, more)))
      (λ cheap. up_to steps (x -ℤ s.most) cheap low)))

  pub up_fits : (steps : List Step) (x : ℤ) → Adds steps most → first_cost steps c ≤ℤ z → IsAtMost x (room_up_to z steps c most) → Fits steps most x
  up_fits [] x adds first h = of_limit most (rw (is_up_to c z first) at h)
    where
      of_limit : (o : Option ℤ) → IsAtMost x o → Fits [] o x
      of_limit (Some m) h = h
      of_limit None h = tt
  up_fits (s ∷ steps) x adds first h =
      let low : IsAtMost (x -ℤ s.most) (room_up_to z steps c most) = lowered s.most x (room_up_to z steps c most) (rw (is_up_to s.cost z first) at h) in
      by_lt_z z (first_cost steps c)
      (λ dear. let none : IsAtMost (x -ℤ s.most) (Some (pos 0)) = rw (none_up_to steps dear) at low in
      fits_zero most adds none)
      (λ cheap. fits_past most (up_fits steps (x -ℤ s.most) (adds_later steps most adds) cheap low))
    where
      fits_zero : (o : Option ℤ) → AreRooms steps o → (x -ℤ s.most) ≤ℤ pos 0 → Fits (s ∷ steps) o x
      fits_zero (Some m) rooms none = omega (arith, ints, none, rooms_total steps m rooms)
      fits_zero None rooms none = tt

      fits_past : (o : Option ℤ) → Fits steps o (x -ℤ s.most) → Fits (s ∷ steps) o x
      fits_past (Some m) f = omega (arith, ints, f)
      fits_past None f = tt
