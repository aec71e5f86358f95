-- What one unit more costs on a route.
use Rattle.std.proofs.Common.{◌≡◌, List, [], ◌∷◌, arith, ℤ, pos, ◌+ℤ◌, ◌-ℤ◌, ◌≤ℤ◌}
use Rattle.std.specs.Prelude.{Some}
use Rattle.std.specs.Int.{int_min}
use Rattle.std.proofs.Math.IntN.{◌*ℤ◌}
use Rattle.std.proofs.lemmas.Int.{ints, clamps, by_lt_z}
use Rattle.mcf_flows.proofs.IntLaws.{mul-add, mul-one}
use Rattle.mcf_model.specs.declared.rows.Step.{Step}
use Rattle.mcf_model.specs.Model.{Adds, AreRooms, CostAtLeast, Rises, charge, room}

pub rooms_total : (steps : List Step) (most : ℤ) → AreRooms steps (Some most) → pos 0 ≤ℤ room steps most
rooms_total [] most h = h
rooms_total (s ∷ steps) most h = omega (arith, ints, h.0, rooms_total steps most h.1)

adds_from : (steps : List Step) (most : ℤ) → AreRooms steps (Some most) → Adds steps (Some most)
adds_from [] most h = tt
adds_from (s ∷ steps) most h = h.1

-- past all rooms, one unit more is one more of the last step
pub charge_past_room : (steps : List Step) (most c : ℤ) → Adds steps (Some most)
    → charge steps c (room steps most +ℤ pos 1) ≡ charge steps c (room steps most) +ℤ c
charge_past_room [] most c h = omega (arith, ints, mul-add c most (pos 1), mul-one c)
charge_past_room (s ∷ steps) most c h =
    let rest = room steps most in
    let z = rooms_total steps most h in
    let full : int_min (s.most +ℤ rest +ℤ pos 1) s.most ≡ s.most = omega (arith, ints, clamps, z) in
    let full' : int_min (s.most +ℤ rest) s.most ≡ s.most = omega (arith, ints, clamps, z) in
    let e1 : (s.most +ℤ rest +ℤ pos 1) -ℤ s.most ≡ rest +ℤ pos 1 = omega (arith, ints) in
    let e2 : (s.most +ℤ rest) -ℤ s.most ≡ rest = omega (arith, ints) in
    rw (full, full', e1, e2) (omega (arith, ints, charge_past_room steps most c (adds_from steps most h)))

one_more : (k x : ℤ) → k *ℤ (x +ℤ pos 1) ≡ k *ℤ x +ℤ k
one_more k x = omega (arith, ints, mul-add k x (pos 1), mul-one k)

pub at_most_last : (k : ℤ) (steps : List Step) (c : ℤ) → CostAtLeast k steps c → k ≤ℤ c
at_most_last k [] c h = h
at_most_last k (s ∷ steps) c h = at_most_last k steps c h.1

-- one unit more costs no more than one of the last step
pub charge_more : (steps : List Step) (c x : ℤ) → Rises steps c → charge steps c (x +ℤ pos 1) ≤ℤ (charge steps c x +ℤ c)
charge_more [] c x h = omega (arith, ints, one_more c x)
charge_more (s ∷ steps) c x h =
    by_lt_z x s.most
    (λ less.
    let here : int_min x s.most ≡ x = omega (arith, ints, clamps, less) in
    let there : int_min (x +ℤ pos 1) s.most ≡ x +ℤ pos 1 = omega (arith, ints, clamps, less) in
    let e1 : (x +ℤ pos 1) -ℤ (x +ℤ pos 1) ≡ pos 0 = omega (arith, ints) in
    let e2 : x -ℤ x ≡ pos 0 = omega (arith, ints) in
    rw (here, there, e1, e2) (omega (arith, ints, one_more s.cost x, at_most_last s.cost steps c h.0)))
    (λ more.
    let here : int_min x s.most ≡ s.most = omega (arith, ints, clamps, more) in
    let there : int_min (x +ℤ pos 1) s.most ≡ s.most = omega (arith, ints, clamps, more) in
    let e1 : (x +ℤ pos 1) -ℤ s.most ≡ (x -ℤ s.most) +ℤ pos 1 = omega (arith, ints) in
    rw (here, there, e1) (omega (arith, ints, charge_more steps c (x -ℤ s.most) h.1)))

-- one unit more costs no less than any lower bound of the costs
pub charge_no_less : (k : ℤ) (steps : List Step) (c x : ℤ) → CostAtLeast k steps c → (charge steps c x +ℤ k) ≤ℤ charge steps c (x +ℤ pos 1)
charge_no_less k [] c x h = omega (arith, ints, one_more c x, h)
charge_no_less k (s ∷ steps) c x h =
    by_lt_z x s.most
    (λ less.
    let here : int_min x s.most ≡ x = omega (arith, ints, clamps, less) in
    let there : int_min (x +ℤ pos 1) s.most ≡ x +ℤ pos 1 = omega (arith, ints, clamps, less) in
    let e1 : (x +ℤ pos 1) -ℤ (x +ℤ pos 1) ≡ pos 0 = omega (arith, ints) in
    let e2 : x -ℤ x ≡ pos 0 = omega (arith, ints) in
    rw (here, there, e1, e2) (omega (arith, ints, one_more s.cost x, h.0)))
    (λ more.
    let here : int_min x s.most ≡ s.most = omega (arith, ints, clamps, more) in
    let there : int_min (x +ℤ pos 1) s.most ≡ s.most = omega (arith, ints, clamps, more) in
    let e1 : (x +ℤ pos 1) -ℤ s.most ≡ (x -ℤ s.most) +ℤ pos 1 = omega (arith, ints) in
    rw (here, there, e1) (omega (arith, ints, charge_no_less k steps c (x -ℤ s.most) h.1)))
