-- Networks of a model whose routes without a limit have a greater reach.
use Rattle.std.proofs.Common.{◌≡◌, ℕ, Bool, true, false, List, [], ◌∷◌, ◌++◌, refl, ap, ◌∙◌, arith, ℤ, pos, ◌+ℤ◌, ◌-ℤ◌, ◌≤ℤ◌, inl, inr}
use Rattle.std.specs.Prelude.{◌⊎◌, Option, Some, None}
use Rattle.std.specs.Int.{int_min}
use Rattle.std.specs.List.{AllZip}
use Rattle.std.proofs.lemmas.Int.{ints, clamps}
use Rattle.mcf_flows.specs.declared.arc.Arc.{Arc}
use Rattle.mcf_flows.specs.Network.{arc_sum, flow_sum, when}
use Rattle.mcf_flows.specs.Flow.{CanCarry, IsWithinBounds}
use Rattle.mcf_model.specs.declared.rows.Step.{Step}
use Rattle.mcf_model.specs.Model.{Route, size}
use Rattle.mcf_model.specs.Arcs.{arcs_of, back, last_cap, there, way, way_back}
use Rattle.mcf_model.proofs.Lists.{join_zip}

-- the same arc, whose cap is the reach in one network and a higher one in the other, if it isn't
-- the same
pub record IsRaised (reach higher : ℤ) (a b : Arc) : Type 0 where
  pub src : b.src ≡ a.src
  pub dst : b.dst ≡ a.dst
  pub low : b.low ≡ a.low
  pub cost : b.cost ≡ a.cost
  pub cap : (b.cap ≡ a.cap) ⊎ ((a.cap ≡ reach) × (b.cap ≡ higher))

module _ (reach higher : ℤ) where
  pub way_raised : (tail head : ℕ) (least : ℤ) (steps : List Step) (most : Option ℤ) (c : ℤ)
      → AllZip (IsRaised reach higher) (way tail head least steps (last_cap reach most) c) (way tail head least steps (last_cap higher most) c)
  way_raised tail head least [] (Some m) c = (record { src = refl; dst = refl; low = refl; cost = refl; cap = inl refl }, tt)
  way_raised tail head least [] None c = (record { src = refl; dst = refl; low = refl; cost = refl; cap = inr (refl, refl) }, tt)
  way_raised tail head least (s ∷ steps) most c =
      (record { src = refl; dst = refl; low = refl; cost = refl; cap = inl refl }, way_raised tail head (least -ℤ int_min least s.most) steps most c)

  back_raised : (both : Bool) (tail head : ℕ) (steps : List Step) (most : Option ℤ) (c : ℤ)
      → AllZip (IsRaised reach higher) (way_back both tail head steps (last_cap reach most) c) (way_back both tail head steps (last_cap higher most) c)
  back_raised true tail head steps most c = way_raised head tail (pos 0) steps most c
  back_raised false tail head steps most c = tt

  pub arcs_raised : (routes : List Route) → AllZip (IsRaised reach higher) (arcs_of reach routes) (arcs_of higher routes)
  arcs_raised [] = tt
  arcs_raised (r ∷ routes) =
      join_zip (IsRaised reach higher) (there reach r) (back reach r ++ arcs_of reach routes) (there higher r) (back higher r ++ arcs_of higher routes)
      (way_raised r.tail r.head r.least r.steps r.last_most r.last_cost)
      (join_zip (IsRaised reach higher) (back reach r) (arcs_of reach routes) (back higher r) (arcs_of higher routes)
      (back_raised r.both r.tail r.head r.steps r.last_most r.last_cost) (arcs_raised routes))

  -- ---- what is the same in both

  pub same_flow_sum : (t : Arc → ℤ → ℤ) → ((a b : Arc) (f : ℤ) → IsRaised reach higher a b → t b f ≡ t a f) → (arcs raised : List Arc) (flow : List ℤ)
      → AllZip (IsRaised reach higher) arcs raised → flow_sum t raised flow ≡ flow_sum t arcs flow
  same_flow_sum t e [] [] flow h = refl
  same_flow_sum t e [] (b ∷ raised) flow h = absurd h
  same_flow_sum t e (a ∷ arcs) [] flow h = absurd h
  same_flow_sum t e (a ∷ arcs) (b ∷ raised) [] h = refl
  same_flow_sum t e (a ∷ arcs) (b ∷ raised) (f ∷ flow) h =
      omega (arith, ints, e a b f h.0, same_flow_sum t e arcs raised flow h.1)

  pub same_arc_sum : (t : Arc → ℤ) → ((a b : Arc) → IsRaised reach higher a b → t b ≡ t a) → (arcs raised : List Arc)
      → AllZip (IsRaised reach higher) arcs raised → arc_sum t raised ≡ arc_sum t arcs
  same_arc_sum t e [] [] h = refl
  same_arc_sum t e [] (b ∷ raised) h = absurd h
  same_arc_sum t e (a ∷ arcs) [] h = absurd h
  same_arc_sum t e (a ∷ arcs) (b ∷ raised) h = omega (arith, ints, e a b h.0, same_arc_sum t e arcs raised h.1)

  -- a fact of each arc and its flow, carried over
  pub carry_over : (P Q : Arc → ℤ → Type 0) → ((a b : Arc) (f : ℤ) → IsRaised reach higher a b → P a f → Q b f) → (arcs raised : List Arc) (flow : List ℤ)
      → AllZip (IsRaised reach higher) arcs raised → AllZip P arcs flow → AllZip Q raised flow
  carry_over P Q e [] [] flow h k = k
  carry_over P Q e [] (b ∷ raised) flow h k = absurd h
  carry_over P Q e (a ∷ arcs) [] flow h k = absurd h
  carry_over P Q e (a ∷ arcs) (b ∷ raised) [] h k = k
  carry_over P Q e (a ∷ arcs) (b ∷ raised) (f ∷ flow) h k = (e a b f h.0 k.0, carry_over P Q e arcs raised flow h.1 k.1)

  -- ---- caps across a set: those of both networks are the same, or the reach is among them

  module _ (t : ℕ → ℕ → Bool) (not_below : pos 0 ≤ℤ reach) where
    same_when : (a b : Arc) (x : ℤ) → IsRaised reach higher a b → when (t b.src b.dst) x ≡ when (t a.src a.dst) x
    same_when a b x r = ap (λ s. when (t s b.dst) x) r.src ∙ ap (λ d. when (t a.src d) x) r.dst

    abbrev cap_sum : List Arc → ℤ
    cap_sum arcs = arc_sum (λ a. when (t a.src a.dst) a.cap) arcs

    abbrev low_sum : List Arc → ℤ
    low_sum arcs = arc_sum (λ a. when (t a.src a.dst) (size a.low)) arcs

    cap_here : (a b : Arc) (f : ℤ) → IsRaised reach higher a b → CanCarry b f → pos 0 ≤ℤ (a.cap +ℤ size a.low)
    cap_here a b f r c =
        elim r.cap [
          | inl same ↦ omega (arith, ints, clamps, c.0, c.1, same, r.low)
          | inr two ↦ omega (arith, ints, clamps, two.0, not_below)
        ]

    when_both : (p : Bool) (x y : ℤ) → pos 0 ≤ℤ (x +ℤ y) → pos 0 ≤ℤ (when p x +ℤ when p y)
    when_both true x y h = h
    when_both false x y h = omega (arith, ints)

    pub caps_low : (arcs raised : List Arc) (flow : List ℤ) → AllZip (IsRaised reach higher) arcs raised → IsWithinBounds raised flow
        → pos 0 ≤ℤ (cap_sum arcs +ℤ low_sum arcs)
    caps_low [] [] flow h k = omega (arith, ints)
    caps_low [] (b ∷ raised) flow h k = absurd h
    caps_low (a ∷ arcs) [] flow h k = absurd h
    caps_low (a ∷ arcs) (b ∷ raised) [] h k = absurd k
    caps_low (a ∷ arcs) (b ∷ raised) (f ∷ flow) h k =
        omega (arith, ints, caps_low arcs raised flow h.1 k.1, when_both (t a.src a.dst) a.cap (size a.low) (cap_here a b f h.0 k.0))

    pub caps_or_reach : (arcs raised : List Arc) (flow : List ℤ) → AllZip (IsRaised reach higher) arcs raised → IsWithinBounds raised flow
        → (cap_sum raised ≡ cap_sum arcs) ⊎ (reach ≤ℤ (cap_sum arcs +ℤ low_sum arcs))
    caps_or_reach [] [] flow h k = inl refl
    caps_or_reach [] (b ∷ raised) flow h k = absurd h
    caps_or_reach (a ∷ arcs) [] flow h k = absurd h
    caps_or_reach (a ∷ arcs) (b ∷ raised) [] h k = absurd k
    caps_or_reach (a ∷ arcs) (b ∷ raised) (f ∷ flow) h k =
        let low = when_both (t a.src a.dst) a.cap (size a.low) (cap_here a b f h.0 k.0) in
        elim (caps_or_reach arcs raised flow h.1 k.1) [
          | inr more ↦ inr (omega (arith, ints, more, low))
          | inl same ↦ rw (same_when a b b.cap h.0)
              (here (t a.src a.dst) a.cap b.cap (h.0).cap (cap_sum raised) (cap_sum arcs) (low_sum arcs) (size a.low) same (omega (arith, ints, clamps))
              (caps_low arcs raised flow h.1 k.1))
        ]
      where
        here : (p : Bool) (m n : ℤ) → ((n ≡ m) ⊎ ((m ≡ reach) × (n ≡ higher))) → (x y z l : ℤ) → x ≡ y → pos 0 ≤ℤ l → pos 0 ≤ℤ (y +ℤ z)
            → ((when p n +ℤ x) ≡ (when p m +ℤ y)) ⊎ (reach ≤ℤ ((when p m +ℤ y) +ℤ (when p l +ℤ z)))
        here false m n either x y z l same l0 low = inl (omega (arith, ints, same))
        here true m n (inl e) x y z l same l0 low = inl (omega (arith, ints, same, e))
        here true m n (inr e) x y z l same l0 low = inr (omega (arith, ints, e.0, l0, low))
