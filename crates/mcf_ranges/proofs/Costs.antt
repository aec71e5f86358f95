-- A network with another cost of one arc.
use Rattle.std.proofs.Common.{◌≡◌, ◌≢◌, ℕ, zero, suc, ◌-◌, eqb, List, [], ◌∷◌, get_or, set, refl, ap, sym, ◌∙◌, arith, ℤ, ◌+ℤ◌, ◌-ℤ◌, pos, inl, inr}
use Rattle.std.specs.List.{All, AllZip}
use Rattle.std.proofs.lemmas.Bool.{cases_eq}
use Rattle.std.proofs.lemmas.Grind.{get_or-set_at}
use Rattle.std.proofs.lemmas.List.{get_or-set_other}
use Rattle.std.proofs.lemmas.List.Elements.{All-set}
use Rattle.mcf_flows.specs.declared.arc.Arc.{Arc}
use Rattle.mcf_flows.specs.Flow.{CanCarry, IsFeasible, inflow, outflow}
use Rattle.mcf_flows.specs.Network.{Network, IsArcNumber, flow_sum, node_count, when}
use Rattle.mcf_flows.specs.WellFormed.{HasEnds}
use Rattle.mcf_flows.proofs.AllZips.{AllZip-at}
use Rattle.mcf_network.specs.Residual.{no_arc, arc_at}
use Rattle.mcf_ranges.specs.Ranges.{with_cost}

-- the arc with its new cost
pub arc_here : (g : Network) (k j : ℕ) (c : ℤ) → IsArcNumber g k → j ≡ k → arc_at (with_cost g k c) j ≡ record (arc_at g k) { cost = c }
arc_here g k j c hk e =
    get_or-set_at g.arcs (k - 1) (j - 1) (record (arc_at g k) { cost = c }) no_arc (ap (λ i. i - 1) e) (omega arith)

-- another arc
pub arc_other : (g : Network) (k j : ℕ) (c : ℤ) → IsArcNumber g k → IsArcNumber g j → j ≢ k → arc_at (with_cost g k c) j ≡ arc_at g j
arc_other g k j c hk hj n =
    let other : (j - 1) ≢ (k - 1) = omega arith in
    get_or-set_other g.arcs (k - 1) (j - 1) (record (arc_at g k) { cost = c }) no_arc other

-- two arcs that differ in their costs alone
pub record AreAlike (a b : Arc) : Type 0 where
  pub src : a.src ≡ b.src
  pub dst : a.dst ≡ b.dst
  pub low : a.low ≡ b.low
  pub cap : a.cap ≡ b.cap

pub alike : (g : Network) (k j : ℕ) (c : ℤ) → IsArcNumber g k → IsArcNumber g j → AreAlike (arc_at (with_cost g k c) j) (arc_at g j)
alike g k j c hk hj =
    elim (cases_eq j k) [
      | inl e ↦
          let here = arc_here g k j c hk e in
          let same : arc_at g k ≡ arc_at g j = ap (arc_at g) (sym e) in
          record {
            src = ap (λ (a : Arc). a.src) here ∙ ap (λ (a : Arc). a.src) same;
            dst = ap (λ (a : Arc). a.dst) here ∙ ap (λ (a : Arc). a.dst) same;
            low = ap (λ (a : Arc). a.low) here ∙ ap (λ (a : Arc). a.low) same;
            cap = ap (λ (a : Arc). a.cap) here ∙ ap (λ (a : Arc). a.cap) same;
          }
      | inr n ↦
          let other = arc_other g k j c hk hj n in
          record {
            src = ap (λ (a : Arc). a.src) other;
            dst = ap (λ (a : Arc). a.dst) other;
            low = ap (λ (a : Arc). a.low) other;
            cap = ap (λ (a : Arc). a.cap) other;
          }
    ]

-- ---- flows stay feasible

-- a sum over arcs, of which one has another that counts as much
flow_sum-set_arc : (t : Arc → ℤ → ℤ) (arcs : List Arc) (flow : List ℤ) (i : ℕ) (a d : Arc) → ((f : ℤ) → t a f ≡ t (get_or arcs i d) f)
    → flow_sum t (set arcs i a) flow ≡ flow_sum t arcs flow
flow_sum-set_arc t [] flow i a d e = refl
flow_sum-set_arc t (b ∷ arcs) [] zero a d e = refl
flow_sum-set_arc t (b ∷ arcs) [] (suc i) a d e = refl
flow_sum-set_arc t (b ∷ arcs) (f ∷ flow) zero a d e = ap (λ z. z +ℤ flow_sum t arcs flow) (e f)
flow_sum-set_arc t (b ∷ arcs) (f ∷ flow) (suc i) a d e = ap (λ z. t b f +ℤ z) (flow_sum-set_arc t arcs flow i a d e)

-- a fact of two lists, with another element of the first
AllZip-set_first : {X Y : Type 0} (R : X → Y → Type 0) (xs : List X) (ys : List Y) (i : ℕ) (x : X) (y : Y) → AllZip R xs ys → R x (get_or ys i y)
    → AllZip R (set xs i x) ys
AllZip-set_first R [] ys i x y h here = h
AllZip-set_first R (a ∷ xs) [] i x y h here = absurd h
AllZip-set_first R (a ∷ xs) (b ∷ ys) zero x y h here = (here, h.1)
AllZip-set_first R (a ∷ xs) (b ∷ ys) (suc i) x y h here = (h.0, AllZip-set_first R xs ys i x y h.1 here)

pub feasible_still : (g : Network) (flow : List ℤ) (k : ℕ) (c : ℤ) → IsArcNumber g k → IsFeasible g flow → IsFeasible (with_cost g k c) flow
feasible_still g flow k c hk feasible =
    let a : Arc = record (arc_at g k) { cost = c } in
    let here : CanCarry a (get_or flow (k - 1) (pos 0)) = AllZip-at CanCarry g.arcs flow (k - 1) no_arc (pos 0) feasible.within_bounds (omega arith) in
    record {
      within_bounds = AllZip-set_first CanCarry g.arcs flow (k - 1) a (pos 0) feasible.within_bounds here;
      meets_supplies = λ v h.
          let out : outflow (with_cost g k c).arcs flow v ≡ outflow g.arcs flow v = flow_sum-set_arc (λ b f. when (eqb b.src v) f) g.arcs flow (k - 1) a no_arc (λ f. refl) in
          let into : inflow (with_cost g k c).arcs flow v ≡ inflow g.arcs flow v = flow_sum-set_arc (λ b f. when (eqb b.dst v) f) g.arcs flow (k - 1) a no_arc (λ f. refl) in
          ap (λ z. z -ℤ inflow (with_cost g k c).arcs flow v) out ∙ ap (λ z. outflow g.arcs flow v -ℤ z) into ∙ feasible.meets_supplies v h;
    }

pub ends_still : (g : Network) (k : ℕ) (c : ℤ) → IsArcNumber g k → All (HasEnds (node_count g)) g.arcs → All (HasEnds (node_count g)) (with_cost g k c).arcs
ends_still g k c hk ends =
    let e = ends (k - 1) no_arc (omega arith) in
    All-set (HasEnds (node_count g)) g.arcs (k - 1) (record (arc_at g k) { cost = c }) (record { src_is_node = e.src_is_node; dst_is_node = e.dst_is_node }) ends
