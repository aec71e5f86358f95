-- Laws of one route: its ways there and back.
use Rattle.std.proofs.Common.{◌≡◌, ℕ, suc, eqb, Bool, true, false, List, [], ◌∷◌, length, refl, ap, sym, arith, ℤ, pos, ◌+ℤ◌, ◌-ℤ◌, ◌≤ℤ◌, neg_ℤ}
use Rattle.std.specs.Prelude.{Option, Some, None}
use Rattle.std.specs.Int.{int_min, int_max}
use Rattle.std.proofs.lemmas.Int.{ints, clamps, by_lt_z}
use Rattle.mcf_flows.specs.Network.{when}
use Rattle.mcf_flows.specs.Flow.{IsWithinBounds, cost, inflow, outflow}
use Rattle.mcf_flows.proofs.IntLaws.{mul-zero, zero-mul}
use Rattle.mcf_model.specs.declared.rows.Step.{Step}
use Rattle.mcf_model.specs.Model.{AreRooms, Adds, CostAtLeast, Fits, MayBeBoth, Rises, charge, charged, room, size}
use Rattle.mcf_model.specs.Arcs.{added, back_length, fill, flow_back, goes, last_cap, way, way_back, way_length}
use Rattle.mcf_model.proofs.Ways.{added-fill, carried_within, charge_no_more, charge_rises, cost-fill, fill_within, length-fill, way_in, way_out}

pub length-way : (tail head : ℕ) (least : ℤ) (steps : List Step) (cap c : ℤ) → length (way tail head least steps cap c) ≡ way_length steps
length-way tail head least [] cap c = refl
length-way tail head least (s ∷ steps) cap c = ap suc (length-way tail head (least -ℤ int_min least s.most) steps cap c)

pub length-way_back : (both : Bool) (tail head : ℕ) (steps : List Step) (cap c : ℤ) → length (way_back both tail head steps cap c) ≡ back_length both steps
length-way_back true tail head steps cap c = length-way head tail (pos 0) steps cap c
length-way_back false tail head steps cap c = refl

pub length-flow_back : (both : Bool) (steps : List Step) (x : ℤ) → length (flow_back both steps x) ≡ back_length both steps
length-flow_back true steps x = length-fill steps (int_max (neg_ℤ x) (pos 0))
length-flow_back false steps x = refl

-- ---- the last step, with a limit or without

pub rooms_reach : (reach : ℤ) (steps : List Step) (most : Option ℤ) → pos 0 ≤ℤ reach → AreRooms steps most → AreRooms steps (Some (last_cap reach most))
rooms_reach reach [] (Some m) h k = k
rooms_reach reach [] None h k = h
rooms_reach reach (s ∷ steps) most h k = (k.0, rooms_reach reach steps most h k.1)

pub adds_reach : (reach : ℤ) (steps : List Step) (most : Option ℤ) → pos 0 ≤ℤ reach → Adds steps most → Adds steps (Some (last_cap reach most))
adds_reach reach [] most h k = tt
adds_reach reach (s ∷ steps) most h k = rooms_reach reach steps most h k

pub fits_from : (reach : ℤ) (steps : List Step) (most : Option ℤ) (x : ℤ) → x ≤ℤ room steps (last_cap reach most) → Fits steps most x
fits_from reach steps (Some m) x h = h
fits_from reach steps None x h = tt

-- ---- charges from 0 on

pub charge_zero : (steps : List Step) (most : Option ℤ) (c : ℤ) → AreRooms steps most → charge steps c (pos 0) ≡ pos 0
charge_zero [] most c h = mul-zero c
charge_zero (s ∷ steps) most c h =
    let none : int_min (pos 0) s.most ≡ pos 0 = omega (arith, ints, clamps, h.0) in
    rw none (omega (arith, ints, mul-zero s.cost, charge_zero steps most c h.1))

-- with no cost below 0, more is charged no less
pub charge_mono : (steps : List Step) (c x y : ℤ) → CostAtLeast (pos 0) steps c → x ≤ℤ y → charge steps c x ≤ℤ charge steps c y
charge_mono steps c x y h k = omega (arith, ints, charge_rises (pos 0) steps c x y h k, zero-mul (y -ℤ x))

pub charge_at_least_zero : (steps : List Step) (most : Option ℤ) (c x : ℤ) → CostAtLeast (pos 0) steps c → AreRooms steps most → pos 0 ≤ℤ x → pos 0 ≤ℤ charge steps c x
charge_at_least_zero steps most c x h r k = omega (arith, ints, charge_mono steps c (pos 0) x h k, charge_zero steps most c r)

-- ---- from flows to what a route carries

-- what a route carries of y, by flows that cost so much
pub record Carries (both : Bool) (least : ℤ) (steps : List Step) (most : Option ℤ) (c y paid : ℤ) : Type 0 where
  pub enough : least ≤ℤ charged both y
  pub fits : Fits steps most (charged both y)
  pub no_more : charge steps c (charged both y) ≤ℤ paid

module _ (reach : ℤ) (tail head : ℕ) (least : ℤ) (steps : List Step) (most : Option ℤ) (c : ℤ) where
  both_ways : (f g p q : ℤ) → least ≡ pos 0 → CostAtLeast (pos 0) steps c → AreRooms steps most → pos 0 ≤ℤ f → pos 0 ≤ℤ g
      → f ≤ℤ room steps (last_cap reach most) → g ≤ℤ room steps (last_cap reach most) → charge steps c f ≤ℤ p → charge steps c g ≤ℤ q
      → Carries true least steps most c (f -ℤ g) (p +ℤ q)
  both_ways f g p q none h r f0 g0 fm gm cf cg =
      let zf = charge_at_least_zero steps most c f h r f0 in
      let zg = charge_at_least_zero steps most c g h r g0 in
      record {
        enough = omega (arith, ints, clamps, none);
        fits = fits_from reach steps most (size (f -ℤ g)) (omega (arith, ints, clamps, f0, g0, fm, gm));
        no_more = by_lt_z f g
            (λ less. let k : size (f -ℤ g) ≤ℤ g = omega (arith, ints, clamps, less, f0) in
            omega (arith, ints, charge_mono steps c (size (f -ℤ g)) g h k, zf, cf, cg))
            (λ more. let k : size (f -ℤ g) ≤ℤ f = omega (arith, ints, clamps, more, g0) in
            omega (arith, ints, charge_mono steps c (size (f -ℤ g)) f h k, zg, cf, cg));
      }

  pub carries : (both : Bool) (there back : List ℤ) → Rises steps c → MayBeBoth both least steps most c
      → IsWithinBounds (way tail head least steps (last_cap reach most) c) there
      → IsWithinBounds (way_back both tail head steps (last_cap reach most) c) back
      → Carries both least steps most c (added there -ℤ added back)
      (cost (way tail head least steps (last_cap reach most) c) there +ℤ cost (way_back both tail head steps (last_cap reach most) c) back)
  carries false there [] rises may h k =
      let w = carried_within tail head steps least (last_cap reach most) c there h in
      let e : added there -ℤ pos 0 ≡ added there = omega (arith, ints) in
      rw e (record {
        enough = w.0;
        fits = fits_from reach steps most (added there) w.1;
        no_more = omega (arith, ints, charge_no_more tail head steps least (last_cap reach most) c there rises h);
      })
  carries false there (g ∷ back) rises may h k = absurd k
  carries true there back rises may h k =
      let w = carried_within tail head steps least (last_cap reach most) c there h in
      let v = carried_within head tail steps (pos 0) (last_cap reach most) c back k in
      both_ways (added there) (added back) _ _ may.0 may.1 may.2 (omega (arith, ints, w.0, may.0)) v.0 w.1 v.1
      (charge_no_more tail head steps least (last_cap reach most) c there rises h)
      (charge_no_more head tail steps (pos 0) (last_cap reach most) c back rises k)

-- ---- what the ends see

when-sub : (t : Bool) (x y : ℤ) → when t (x -ℤ y) ≡ when t x -ℤ when t y
when-sub true x y = refl
when-sub false x y = refl

back_ends : (both : Bool) (tail head : ℕ) (steps : List Step) (cap c : ℤ) (back : List ℤ) (v : ℕ) → length back ≡ back_length both steps
    → (outflow (way_back both tail head steps cap c) back v ≡ when (eqb head v) (added back))
    × (inflow (way_back both tail head steps cap c) back v ≡ when (eqb tail v) (added back))
back_ends false tail head steps cap c [] v e = (sym (nothing (eqb head v)), sym (nothing (eqb tail v)))
  where
    nothing : (t : Bool) → when t (pos 0) ≡ pos 0
    nothing true = refl
    nothing false = refl
back_ends false tail head steps cap c (g ∷ back) v e = absurd (omega arith)
back_ends true tail head steps cap c back v e =
    (way_out head tail steps (pos 0) cap c back v e, way_in head tail steps (pos 0) cap c back v e)

-- what leaves a node by the arcs of a route less what enters it
pub route_net : (both : Bool) (tail head : ℕ) (least : ℤ) (steps : List Step) (cap c : ℤ) (there back : List ℤ) (v : ℕ) → length there ≡ way_length steps
    → length back ≡ back_length both steps
    → (outflow (way tail head least steps cap c) there v +ℤ outflow (way_back both tail head steps cap c) back v)
    -ℤ (inflow (way tail head least steps cap c) there v +ℤ inflow (way_back both tail head steps cap c) back v)
    ≡ when (eqb tail v) (added there -ℤ added back) -ℤ when (eqb head v) (added there -ℤ added back)
route_net both tail head least steps cap c there back v e k =
    let b = back_ends both tail head steps cap c back v k in
    omega (
      arith,
      ints,
      way_out tail head steps least cap c there v e,
      way_in tail head steps least cap c there v e,
      b.0,
      b.1,
      when-sub (eqb tail v) (added there) (added back),
      when-sub (eqb head v) (added there) (added back),
    )

-- ---- from what a route carries to flows

pub there_within : (reach : ℤ) (both : Bool) (tail head : ℕ) (least : ℤ) (steps : List Step) (most : Option ℤ) (c x : ℤ) → pos 0 ≤ℤ reach → Adds steps most
    → MayBeBoth both least steps most c → least ≤ℤ charged both x → charged both x ≤ℤ room steps (last_cap reach most)
    → IsWithinBounds (way tail head least steps (last_cap reach most) c) (fill steps (goes both x))
there_within reach false tail head least steps most c x h a may l u =
    fill_within tail head steps least (last_cap reach most) c x (adds_reach reach steps most h a) l u
there_within reach true tail head least steps most c x h a may l u =
    fill_within tail head steps least (last_cap reach most) c (int_max x (pos 0)) (adds_reach reach steps most h a) (omega (arith, ints, clamps, may.0))
    (omega (arith, ints, clamps, u))

pub back_within : (reach : ℤ) (both : Bool) (tail head : ℕ) (least : ℤ) (steps : List Step) (most : Option ℤ) (c x : ℤ) → pos 0 ≤ℤ reach
    → Adds steps most → MayBeBoth both least steps most c → charged both x ≤ℤ room steps (last_cap reach most)
    → IsWithinBounds (way_back both tail head steps (last_cap reach most) c) (flow_back both steps x)
back_within reach false tail head least steps most c x h a may u = tt
back_within reach true tail head least steps most c x h a may u =
    fill_within head tail steps (pos 0) (last_cap reach most) c (int_max (neg_ℤ x) (pos 0)) (adds_reach reach steps most h a) (omega (arith, ints, clamps))
    (omega (arith, ints, clamps, u))

pub filled_cost : (both : Bool) (tail head : ℕ) (least : ℤ) (steps : List Step) (most : Option ℤ) (cap c x : ℤ) → MayBeBoth both least steps most c
    → cost (way tail head least steps cap c) (fill steps (goes both x)) +ℤ cost (way_back both tail head steps cap c) (flow_back both steps x)
    ≡ charge steps c (charged both x)
filled_cost false tail head least steps most cap c x may =
    omega (arith, ints, cost-fill tail head steps least cap c x)
filled_cost true tail head least steps most cap c x may =
    let f = cost-fill tail head steps least cap c (int_max x (pos 0)) in
    let g = cost-fill head tail steps (pos 0) cap c (int_max (neg_ℤ x) (pos 0)) in
    let zero = charge_zero steps most c may.2 in
    by_lt_z x (pos 0)
    (λ less. let a : int_max x (pos 0) ≡ pos 0 = omega (arith, ints, clamps, less) in
    let b : int_max (neg_ℤ x) (pos 0) ≡ size x = omega (arith, ints, clamps, less) in
    omega (arith, ints, f, g, zero, ap (charge steps c) a, ap (charge steps c) b))
    (λ more. let a : int_max x (pos 0) ≡ size x = omega (arith, ints, clamps, more) in
    let b : int_max (neg_ℤ x) (pos 0) ≡ pos 0 = omega (arith, ints, clamps, more) in
    omega (arith, ints, f, g, zero, ap (charge steps c) a, ap (charge steps c) b))

pub filled_carries : (both : Bool) (steps : List Step) (x : ℤ) → added (fill steps (goes both x)) -ℤ added (flow_back both steps x) ≡ x
filled_carries false steps x = omega (arith, ints, added-fill steps x)
filled_carries true steps x =
    omega (arith, ints, clamps, added-fill steps (int_max x (pos 0)), added-fill steps (int_max (neg_ℤ x) (pos 0)))
