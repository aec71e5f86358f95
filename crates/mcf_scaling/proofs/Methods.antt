-- What the methods of a refinement leave, by the fields that they write.
use Rattle.std.proofs.Common.{◌≡◌, ℕ, suc, ◌+◌, ◌-◌, ◌*◌, ◌^◌, ◌≤◌, List, length, set, replicate, refl, sym, ap, ◌∙◌, arith, subst, ℤ, pos, ◌+ℤ◌, ◌≤ℤ◌, Bool, true}
use Rattle.std.proofs.Common.{false, eqb, inl, inr}
use Rattle.std.specs.Int.{int_min}
use Rattle.std.proofs.lemmas.Int.{by_lt_z, ints}
use Rattle.std.proofs.Math.Nat.{mul-le-mul_left}
use Rattle.std.proofs.lemmas.List.{get_or-replicate, length-replicate}
use Rattle.std.proofs.lemmas.Bool.{cases_eq, eq-eqb, ne_eqb, true≢false}
use Rattle.mcf_flows.specs.Network.{Network, IsArcNumber, IsNode, at_node, node_count}
use Rattle.mcf_network.specs.declared.rid.Rid.{Rid}
use Rattle.mcf_flows.specs.WellFormed.{IsUpTo}
use Rattle.mcf_flows.proofs.Bounds.{mul_up_to}
use Rattle.mcf_network.specs.States.{IsFeasibleState, IsPseudoflow, Pseudoflow, amount_at, pushed, room_of, surplus_at}
use Rattle.mcf_network.specs.Residual.{no_arc, arc_at, head, tail, unit_cost}
use Rattle.mcf_network.specs.Walks.{HasRoom}
use Rattle.mcf_network.proofs.ArcLaws.{amount_of, head_is_node, tail_is_node}
use Rattle.mcf_network.proofs.StateLaws.{rid}
use Rattle.mcf_scaling.specs.Optimality.{IsAdmissible, IsFilled, IsLeastReduced, IsOptimalWithin}
use Rattle.mcf_scaling.specs.Phases.{IsBegun, IsRelabel}
use Rattle.mcf_scaling.specs.Refinements.{Refinement, StepCounts, IsActive, IsRefinement, within}
use Rattle.mcf_network.specs.Nets.{greatest_cost}
use Rattle.mcf_scaling.specs.Scales.{ArePhases}
use Rattle.mcf_network.proofs.Costs.{cost_within}
use Rattle.mcf_scaling.proofs.ScaleLaws.{power_small}
use Rattle.mcf_scaling.proofs.Rises.{IsClosedToward, closed_none}
use Rattle.mcf_scaling.proofs.RunLaws.{begun_keeps, push_keeps, relabel_keeps, rise_high}

-- ---- a push

pub push_low : (a b : Refinement) (r : Rid) → a ≡ b → IsActive b (tail b.flow.net r) → pos 0 ≤ℤ surplus_at a.flow (tail a.flow.net r)
push_low a b r same active =
    let here = subst (λ (z : Refinement). IsActive z (tail z.flow.net r)) (sym same) active in
    let some = here.surplus in
    omega (arith, ints, some)

pub push_made : (a b : Refinement) (r : Rid) (x : ℤ) (t : Pseudoflow) (steps : StepCounts) → a ≡ b → IsRefinement a → IsAdmissible b.flow b.prices r
    → IsActive b (tail b.flow.net r) → t ≡ pushed a.flow r x → x ≡ int_min (surplus_at a.flow (tail a.flow.net r)) (room_of a.flow r)
    → steps ≡ record a.steps { pushes = suc a.steps.pushes } → IsRefinement (record a { flow = t; steps = steps })
push_made a b r x t steps same ok admissible active is amount counted =
    push_keeps a (record a { flow = t; steps = steps }) r ok (record {
      admissible = subst (λ (z : Refinement). IsAdmissible z.flow z.prices r) (sym same) admissible;
      active = subst (λ (z : Refinement). IsActive z (tail z.flow.net r)) (sym same) active;
      pushes = ap (λ (p : Pseudoflow). record a { flow = p; steps = steps }) (is ∙ ap (pushed a.flow r) amount)
          ∙ ap (λ (n : StepCounts). record a { flow = pushed a.flow r (int_min (surplus_at a.flow (tail a.flow.net r)) (room_of a.flow r)); steps = n }) counted;
    })

-- ---- a phase begins

pub begun_step : (a b : Refinement) (t : Pseudoflow) (ps before : List ℤ) (steps : StepCounts) → a ≡ b → 1 ≤ b.scale → ((v : ℕ) → ¬ IsActive b v) → IsFilled a.flow t ps
    → ps ≡ a.prices → before ≡ a.prices → steps ≡ record a.steps { phases = suc a.steps.phases }
    → IsBegun a (record { flow = t; prices = a.prices; before = before; scale = a.scale - 1; steps = steps })
begun_step a b t ps before steps same some rest filled is copied counted =
    let scale = ap (λ (z : Refinement). z.scale) same in
    record {
      rest = subst (λ (z : Refinement). (v : ℕ) → ¬ IsActive z v) (sym same) rest;
      scale = omega (arith, some, scale);
      filled = subst (λ (ys : List ℤ). IsFilled a.flow t ys) is filled;
      prices = refl;
      before = copied;
      steps = counted;
    }

pub begun_made : (a b : Refinement) (t : Pseudoflow) (ps before : List ℤ) (steps : StepCounts) → a ≡ b → IsRefinement a → 1 ≤ b.scale → ((v : ℕ) → ¬ IsActive b v)
    → IsFilled a.flow t ps → ps ≡ a.prices → before ≡ a.prices → steps ≡ record a.steps { phases = suc a.steps.phases }
    → IsRefinement (record { flow = t; prices = a.prices; before = before; scale = a.scale - 1; steps = steps })
begun_made a b t ps before steps same ok some rest filled is copied counted =
    begun_keeps a (record { flow = t; prices = a.prices; before = before; scale = a.scale - 1; steps = steps }) ok
    (begun_step a b t ps before steps same some rest filled is copied counted)

-- ---- a relabel

eqb-eq : (a b : ℕ) → eqb a b ≡ true → a ≡ b
eqb-eq a b e =
    elim (cases_eq a b) [
      | inl same ↦ same
      | inr n ↦ absurd (true≢false (sym e ∙ ne_eqb a b n))
    ]

-- a residual arc with room leaves each active node
pub active_has_room : (a : Refinement) (v : ℕ) → IsRefinement a → IsActive a v → ((r : Rid) → tail a.flow.net r ≡ v → ¬ HasRoom a.flow r) → ⊥
active_has_room a v ok active none =
    let (first, origin) = ok.origin in
    let s = a.flow in
    let surplus = active.surplus in
    let closed : IsClosedToward s first (eqb v) = record {
      out = λ k h inside outside. by_lt_z (amount_at s k) (amount_at (record s { amounts = first }) k)
          (λ less. absurd (let high = (amount_of (record s { amounts = first }) k origin.flow h).high in none (rid k false)
          (sym (eqb-eq v (arc_at s.net k).src inside)) (record { arc = h; room = omega (arith, ints, less, high) }))) (λ p. p);
      into = λ k h inside outside. by_lt_z (amount_at (record s { amounts = first }) k) (amount_at s k)
          (λ less. absurd (let low = (amount_of (record s { amounts = first }) k origin.flow h).low in none (rid k true)
          (sym (eqb-eq v (arc_at s.net k).dst inside)) (record { arc = h; room = omega (arith, ints, less, low) }))) (λ p. p);
    } in
    let stuck = closed_none s first (eqb v) ok.flow origin.flow origin.no_surplus closed
    (λ u h inside. let same = ap (surplus_at s) (eqb-eq v u inside) in omega (arith, ints, surplus, same)) v active.node (eq-eqb v v refl) in
    omega (arith, ints, stuck, surplus)

pub relabel_step : (a b : Refinement) (v : ℕ) (least rise : ℤ) (ys : List ℤ) (steps : StepCounts) → a ≡ b → IsActive b v
    → ((r : Rid) → tail b.flow.net r ≡ v → ¬ IsAdmissible b.flow b.prices r) → IsLeastReduced a.flow a.prices v least → rise ≡ least +ℤ pos (within a)
    → ys ≡ set a.prices (v - 1) (at_node a.prices v +ℤ rise) → steps ≡ record a.steps { relabels = suc a.steps.relabels }
    → IsRelabel a (record a { prices = ys; steps = steps }) v rise
relabel_step a b v least rise ys steps same active stuck is e raised counted =
    let (r, room, from, at) = is.reached in
    record {
      active = subst (λ (z : Refinement). IsActive z v) (sym same) active;
      stuck = subst (λ (z : Refinement). (r : Rid) → tail z.flow.net r ≡ v → ¬ IsAdmissible z.flow z.prices r) (sym same) stuck;
      least = λ q some to. let low = is.each q some to in omega (arith, ints, low, e);
      reached = (r, room, from, e ∙ ap (λ z. z +ℤ pos (within a)) at);
      raises = ap (λ (zs : List ℤ). record a { prices = zs; steps = steps }) raised
          ∙ ap (λ (n : StepCounts). record a { prices = set a.prices (v - 1) (at_node a.prices v +ℤ rise); steps = n }) counted;
    }

pub relabel_made : (a b : Refinement) (v : ℕ) (least rise : ℤ) (ys : List ℤ) (steps : StepCounts) → a ≡ b → IsRefinement a → IsActive b v
    → ((r : Rid) → tail b.flow.net r ≡ v → ¬ IsAdmissible b.flow b.prices r) → IsLeastReduced a.flow a.prices v least → rise ≡ least +ℤ pos (within a)
    → ys ≡ set a.prices (v - 1) (at_node a.prices v +ℤ rise) → steps ≡ record a.steps { relabels = suc a.steps.relabels }
    → IsRefinement (record a { prices = ys; steps = steps })
relabel_made a b v least rise ys steps same ok active stuck is e raised counted =
    relabel_keeps a (record a { prices = ys; steps = steps }) v rise ok (relabel_step a b v least rise ys steps same active stuck is e raised counted)

-- the same, by what is known of the rise
pub relabel_raised : (a b : Refinement) (v : ℕ) (rise : ℤ) (ps ys : List ℤ) (steps : StepCounts) → a ≡ b → IsRefinement a → IsActive b v
    → ((r : Rid) → tail b.flow.net r ≡ v → ¬ IsAdmissible b.flow b.prices r) → ps ≡ a.prices
    → ((least : ℤ) × IsLeastReduced a.flow ps v least × (rise ≡ least +ℤ pos (within a))) → ys ≡ set a.prices (v - 1) (at_node a.prices v +ℤ rise)
    → steps ≡ record a.steps { relabels = suc a.steps.relabels }
    → IsRefinement (record a { prices = ys; steps = steps })
relabel_raised a b v rise ps ys steps same ok active stuck is made raised counted =
    let (least, lowest, e) = made in
    relabel_made a b v least rise ys steps same ok active stuck (subst (λ (zs : List ℤ). IsLeastReduced a.flow zs v least) is lowest) e raised counted

pub relabel_stepped : (a b c : Refinement) (v : ℕ) (rise z : ℤ) (ps ys : List ℤ) (steps : StepCounts) → a ≡ b → IsActive b v
    → ((r : Rid) → tail b.flow.net r ≡ v → ¬ IsAdmissible b.flow b.prices r) → ps ≡ a.prices
    → ((least : ℤ) × IsLeastReduced a.flow ps v least × (rise ≡ least +ℤ pos (within a))) → ys ≡ set a.prices (v - 1) (at_node a.prices v +ℤ rise)
    → steps ≡ record a.steps { relabels = suc a.steps.relabels }
    → c ≡ record a { prices = ys; steps = steps } → z ≡ rise → IsRelabel b c v z
relabel_stepped a b c v rise z ps ys steps same active stuck is made raised counted after read =
    let (least, lowest, e) = made in
    let step = relabel_step a b v least rise ys steps same active stuck (subst (λ (zs : List ℤ). IsLeastReduced a.flow zs v least) is lowest) e raised counted in
    subst (λ (y : ℤ). IsRelabel b c v y) (sym read) (subst (λ (w : Refinement). IsRelabel b w v rise) (sym after)
    (subst (λ (w : Refinement). IsRelabel w (record a { prices = ys; steps = steps }) v rise) same step))

pub relabel_rises : (b c : Refinement) (v : ℕ) (z : ℤ) → IsRelabel b c v z → pos (within b) ≤ℤ z
relabel_rises b c v z step = rise_high b c v z step

pub active_not_shut : (a b : Refinement) (v : ℕ) → a ≡ b → IsRefinement a → IsActive b v → ((r : Rid) → tail a.flow.net r ≡ v → ¬ HasRoom a.flow r) → ⊥
active_not_shut a b v same ok active none =
    active_has_room a v ok (subst (λ (z : Refinement). IsActive z v) (sym same) active) none

-- ---- the start

zero_at : (n u : ℕ) (ys : List ℤ) → ys ≡ replicate n (pos 0) → IsNode n u → at_node ys u ≡ pos 0
zero_at n u ys e h =
    ap (λ (xs : List ℤ). at_node xs u) e ∙ get_or-replicate n (u - 1) (pos 0) (pos 0) (omega (arith, h))

-- the cost of a residual arc is within the greatest
unit_within : (g : Network) (k : ℕ) (b : Bool) → IsArcNumber g k → IsUpTo (greatest_cost g.arcs) (unit_cost g (rid k b))
unit_within g k true h =
    let within = cost_within g.arcs (k - 1) no_arc (omega arith) in
    let low = within.0 in
    let high = within.1 in
    (omega (arith, ints, high), omega (arith, ints, low))
unit_within g k false h = cost_within g.arcs (k - 1) no_arc (omega arith)

started_optimal : (s : Pseudoflow) (k e : ℕ) (ys : List ℤ) → IsPseudoflow s → ys ≡ replicate (node_count s.net) (pos 0) → ArePhases s.net k
    → 2 ^ k ≤ e → IsOptimalWithin e s ys
started_optimal s k e ys ok zero phases le r room =
    let n = node_count s.net in
    let g = greatest_cost s.net.arcs in
    let unit = unit_within s.net r.arc r.back room.arc in
    let scale : IsUpTo (n + 1) (pos (n + 1)) = (omega (arith, ints), omega (arith, ints)) in
    let product = (mul_up_to (unit_cost s.net r) (pos (n + 1)) g (n + 1) unit scale).0 in
    let turned : g * (n + 1) ≡ (n + 1) * g = omega arith in
    let enough = phases.enough in
    let from = zero_at n (tail s.net r) ys zero (tail_is_node s.net r.arc r.back ok.of_net room.arc) in
    let to = zero_at n (head s.net r) ys zero (head_is_node s.net r.arc r.back ok.of_net room.arc) in
    omega (arith, ints, product, turned, enough, le, from, to)

top_within : (e n : ℕ) → e ≤ 2 ^ 70 → n ≤ 1_000_000 → 6 * e * n ≤ 10 ^ 29
top_within e n h k =
    let product = mul-le-mul_left (6 * e) k in
    omega (arith, product, h)

pub start_made : (s : Pseudoflow) (k : ℕ) (ys before : List ℤ) (steps : StepCounts) → IsFeasibleState s.net s → ys ≡ replicate (node_count s.net) (pos 0)
    → before ≡ replicate (node_count s.net) (pos 0) → ArePhases s.net k → k ≤ 70
    → IsRefinement (record { flow = s; prices = ys; before = before; scale = k; steps = steps })
start_made s k ys before steps ok zero zero' phases small =
    let n = node_count s.net in
    let nodes = ok.flow.of_net.nodes in
    let power = power_small k small in
    record {
      flow = ok.flow;
      count = ap (λ (xs : List ℤ). length xs) zero ∙ length-replicate n (pos 0);
      before_count = ap (λ (xs : List ℤ). length xs) zero' ∙ length-replicate n (pos 0);
      small = small;
      optimal = started_optimal s k (2 ^ k) ys ok.flow zero phases (omega arith);
      origin = (
        s.amounts,
        record {
          flow = ok.flow;
          no_surplus = ok.no_surplus;
          optimal = started_optimal s k (2 * 2 ^ k) before ok.flow zero' phases (omega arith);
        },
      );
      risen = λ u h.
          let a = zero_at n u ys zero h in
          let b = zero_at n u before zero' h in
          let top = top_within (2 ^ k) n power nodes in
          record {
            floor = omega (arith, ints, b);
            low = omega (arith, ints, a, b);
            high = omega (arith, ints, a, b);
            top = omega (arith, ints, b, top);
            taker = λ less. a ∙ sym b;
          };
    }
