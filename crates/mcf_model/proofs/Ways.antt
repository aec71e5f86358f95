-- Laws of one way: what is filled into its steps, and what flows on its arcs carry.
use Rattle.std.proofs.Common.{◌≡◌, ℕ, suc, eqb, Bool, true, false, List, [], ◌∷◌, length, refl, ap, sym, ◌∙◌, arith, ℤ, pos, ◌+ℤ◌, ◌-ℤ◌, ◌≤ℤ◌}
use Rattle.std.specs.Prelude.{Option, Some}
use Rattle.std.specs.Int.{int_min}
use Rattle.std.proofs.Math.IntN.{◌*ℤ◌}
use Rattle.std.proofs.lemmas.Int.{ints, clamps}
use Rattle.mcf_flows.specs.Network.{flow_sum, when}
use Rattle.mcf_flows.specs.Flow.{IsWithinBounds, cost}
use Rattle.mcf_flows.proofs.IntLaws.{mul-add, mul-sub, mul-mono_left}
use Rattle.mcf_model.specs.declared.rows.Step.{Step}
use Rattle.mcf_model.specs.Model.{AreRooms, Adds, CostAtLeast, Rises, charge, room}
use Rattle.mcf_model.specs.Arcs.{added, fill, way, way_length}

-- ---- the least of two numbers

pub min_is : (x m : ℤ) → (int_min x m ≤ℤ x) × (int_min x m ≤ℤ m)
min_is x m = (omega (arith, ints, clamps), omega (arith, ints, clamps))

-- what is left when m is taken away grows with what there was
pub min_mono : (x y m : ℤ) → x ≤ℤ y → (int_min x m ≤ℤ int_min y m) × ((x -ℤ int_min x m) ≤ℤ (y -ℤ int_min y m))
min_mono x y m h = (omega (arith, ints, clamps), omega (arith, ints, clamps))

pub rest_is_room : (x m r : ℤ) → pos 0 ≤ℤ r → x ≤ℤ (m +ℤ r) → (x -ℤ int_min x m) ≤ℤ r
rest_is_room x m r h k = omega (arith, ints, clamps)

-- ---- what is filled in

pub length-fill : (steps : List Step) (x : ℤ) → length (fill steps x) ≡ way_length steps
length-fill [] x = refl
length-fill (s ∷ steps) x = ap suc (length-fill steps (x -ℤ int_min x s.most))

pub added-fill : (steps : List Step) (x : ℤ) → added (fill steps x) ≡ x
added-fill [] x = omega (arith, ints)
added-fill (s ∷ steps) x = omega (arith, ints, added-fill steps (x -ℤ int_min x s.most))

pub room_at_least_zero : (steps : List Step) (cap : ℤ) → AreRooms steps (Some cap) → pos 0 ≤ℤ room steps cap
room_at_least_zero [] cap h = h
room_at_least_zero (s ∷ steps) cap h = omega (arith, ints, h.0, room_at_least_zero steps cap h.1)

pub adds_from_rooms : (steps : List Step) (most : Option ℤ) → AreRooms steps most → Adds steps most
adds_from_rooms [] most h = tt
adds_from_rooms (s ∷ steps) most h = h.1

pub fill_within : (tail head : ℕ) (steps : List Step) (least cap c x : ℤ) → Adds steps (Some cap) → least ≤ℤ x → x ≤ℤ room steps cap
    → IsWithinBounds (way tail head least steps cap c) (fill steps x)
fill_within tail head [] least cap c x a h k = ((h, k), tt)
fill_within tail head (s ∷ steps) least cap c x a h k =
    let m = min_mono least x s.most h in (
      (m.0, (min_is x s.most).1),
      fill_within tail head steps (least -ℤ int_min least s.most) cap c (x -ℤ int_min x s.most) (adds_from_rooms steps (Some cap) a) m.1
          (rest_is_room x s.most (room steps cap) (room_at_least_zero steps cap a) k),
    )

pub cost-fill : (tail head : ℕ) (steps : List Step) (least cap c x : ℤ) → cost (way tail head least steps cap c) (fill steps x) ≡ charge steps c x
cost-fill tail head [] least cap c x = omega (arith, ints)
cost-fill tail head (s ∷ steps) least cap c x =
    ap (λ z. s.cost *ℤ int_min x s.most +ℤ z) (cost-fill tail head steps (least -ℤ int_min least s.most) cap c (x -ℤ int_min x s.most))

-- ---- what flows carry

pub when-added : (t : Bool) (x y : ℤ) → when t (x +ℤ y) ≡ when t x +ℤ when t y
when-added true x y = refl
when-added false x y = refl

-- all arcs of a way have its ends
pub way_out : (tail head : ℕ) (steps : List Step) (least cap c : ℤ) (flow : List ℤ) (v : ℕ) → length flow ≡ way_length steps
    → flow_sum (λ a f. when (eqb a.src v) f) (way tail head least steps cap c) flow ≡ when (eqb tail v) (added flow)
way_out tail head [] least cap c [] v e = absurd (omega arith)
way_out tail head [] least cap c (f ∷ []) v e = ends (eqb tail v) f
  where
    ends : (t : Bool) (f : ℤ) → when t f +ℤ pos 0 ≡ when t (f +ℤ pos 0)
    ends true f = refl
    ends false f = refl
way_out tail head [] least cap c (f ∷ g ∷ flow) v e = absurd (omega arith)
way_out tail head (s ∷ steps) least cap c [] v e = absurd (omega arith)
way_out tail head (s ∷ steps) least cap c (f ∷ flow) v e =
    ap (λ z. when (eqb tail v) f +ℤ z) (way_out tail head steps (least -ℤ int_min least s.most) cap c flow v (omega arith))
    ∙ sym (when-added (eqb tail v) f (added flow))

pub way_in : (tail head : ℕ) (steps : List Step) (least cap c : ℤ) (flow : List ℤ) (v : ℕ) → length flow ≡ way_length steps
    → flow_sum (λ a f. when (eqb a.dst v) f) (way tail head least steps cap c) flow ≡ when (eqb head v) (added flow)
way_in tail head [] least cap c [] v e = absurd (omega arith)
way_in tail head [] least cap c (f ∷ []) v e = ends (eqb head v) f
  where
    ends : (t : Bool) (f : ℤ) → when t f +ℤ pos 0 ≡ when t (f +ℤ pos 0)
    ends true f = refl
    ends false f = refl
way_in tail head [] least cap c (f ∷ g ∷ flow) v e = absurd (omega arith)
way_in tail head (s ∷ steps) least cap c [] v e = absurd (omega arith)
way_in tail head (s ∷ steps) least cap c (f ∷ flow) v e =
    ap (λ z. when (eqb head v) f +ℤ z) (way_in tail head steps (least -ℤ int_min least s.most) cap c flow v (omega arith))
    ∙ sym (when-added (eqb head v) f (added flow))

pub carried_within : (tail head : ℕ) (steps : List Step) (least cap c : ℤ) (flow : List ℤ) → IsWithinBounds (way tail head least steps cap c) flow
    → (least ≤ℤ added flow) × (added flow ≤ℤ room steps cap)
carried_within tail head [] least cap c [] h = absurd h
carried_within tail head [] least cap c (f ∷ []) h = (omega (arith, ints, h.0.0), omega (arith, ints, h.0.1))
carried_within tail head [] least cap c (f ∷ g ∷ flow) h = absurd h.1
carried_within tail head (s ∷ steps) least cap c [] h = absurd h
carried_within tail head (s ∷ steps) least cap c (f ∷ flow) h =
    let rest = carried_within tail head steps (least -ℤ int_min least s.most) cap c flow h.1 in
    (omega (arith, ints, h.0.0, rest.0), omega (arith, ints, h.0.1, rest.1))

-- ---- what it costs

-- no unit more costs less than c
pub charge_rises : (low : ℤ) (steps : List Step) (c x y : ℤ) → CostAtLeast low steps c → x ≤ℤ y
    → (charge steps c x +ℤ low *ℤ (y -ℤ x)) ≤ℤ charge steps c y
charge_rises low [] c x y h k =
    omega (arith, ints, mul-mono_left low c (y -ℤ x) (omega (arith, ints)) h, mul-sub c y x)
charge_rises low (s ∷ steps) c x y h k =
    let m = min_mono x y s.most k in
    let a = int_min y s.most -ℤ int_min x s.most in
    let b = (y -ℤ int_min y s.most) -ℤ (x -ℤ int_min x s.most) in
    let rest = charge_rises low steps c (x -ℤ int_min x s.most) (y -ℤ int_min y s.most) h.1 m.1 in
    let split : y -ℤ x ≡ a +ℤ b = omega (arith, ints) in
    let here = mul-mono_left low s.cost a (omega (arith, ints, m.0)) h.0 in
    omega (arith, ints, rest, here, ap (λ z. low *ℤ z) split, mul-add low a b, mul-sub s.cost (int_min y s.most) (int_min x s.most))

-- a flow on the arcs of a way costs no less than what it carries is charged
pub charge_no_more : (tail head : ℕ) (steps : List Step) (least cap c : ℤ) (flow : List ℤ) → Rises steps c → IsWithinBounds (way tail head least steps cap c) flow
    → charge steps c (added flow) ≤ℤ cost (way tail head least steps cap c) flow
charge_no_more tail head [] least cap c [] r h = absurd h
charge_no_more tail head [] least cap c (f ∷ []) r h = omega (arith, ints, ap (λ z. c *ℤ z) (plus_zero f))
  where
    plus_zero : (f : ℤ) → f +ℤ pos 0 ≡ f
    plus_zero f = omega (arith, ints)
charge_no_more tail head [] least cap c (f ∷ g ∷ flow) r h = absurd h.1
charge_no_more tail head (s ∷ steps) least cap c [] r h = absurd h
charge_no_more tail head (s ∷ steps) least cap c (f ∷ flow) r h =
    let least' = least -ℤ int_min least s.most in
    let rest = charge_no_more tail head steps least' cap c flow r.1 h.1 in
    let not_back : pos 0 ≤ℤ added flow = omega (arith, ints, (carried_within tail head steps least' cap c flow h.1).0, (min_is least s.most).0) in
    let x = f +ℤ added flow in
    let p = int_min x s.most in
    let up : f ≤ℤ p = omega (arith, ints, clamps, h.0.1, not_back) in
    let slope = charge_rises s.cost steps c (x -ℤ p) (added flow) r.0 (omega (arith, ints, up)) in
    let split : added flow -ℤ (x -ℤ p) ≡ p -ℤ f = omega (arith, ints) in
    omega (arith, ints, rest, slope, ap (λ z. s.cost *ℤ z) split, mul-sub s.cost p f)
