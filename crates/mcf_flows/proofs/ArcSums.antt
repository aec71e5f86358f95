-- Laws of the sums over arcs, and over arcs with their flows.
use Rattle.std.proofs.Common.{◌≡◌, ℕ, zero, suc, ◌+◌, ◌<◌, List, [], ◌∷◌, ◌++◌, length, take, set, get_or, refl, ap, sym, ◌∙◌, arith, ℤ, pos, ◌+ℤ◌, ◌-ℤ◌, ◌≤ℤ◌}
use Rattle.std.proofs.Common.{add-one, map}
use Rattle.std.specs.List.{All, AllZip}
use Rattle.std.proofs.Math.IntN.{◌*ℤ◌}
use Rattle.std.proofs.lemmas.Int.{ints}
use Rattle.std.proofs.lemmas.List.Elements.{All-head, All-tail}
use Rattle.mcf_flows.specs.declared.arc.Arc.{Arc}
use Rattle.mcf_flows.specs.Network.{arc_sum, flow_sum}
use Rattle.mcf_flows.proofs.IntLaws.{mul-add, mul-zero}

-- the arc that a read past the end would give
abbrev pub no_arc : Arc
no_arc = record { src = 0; dst = 0; low = pos 0; cap = pos 0; cost = pos 0 }

-- ---- sums over arcs

pub arc_sum-add : (s t : Arc → ℤ) (arcs : List Arc) → arc_sum (λ a. s a +ℤ t a) arcs ≡ arc_sum s arcs +ℤ arc_sum t arcs
arc_sum-add s t [] = refl
arc_sum-add s t (a ∷ arcs) = omega (arith, ints, arc_sum-add s t arcs)

pub arc_sum-sub : (s t : Arc → ℤ) (arcs : List Arc) → arc_sum (λ a. s a -ℤ t a) arcs ≡ arc_sum s arcs -ℤ arc_sum t arcs
arc_sum-sub s t [] = refl
arc_sum-sub s t (a ∷ arcs) = omega (arith, ints, arc_sum-sub s t arcs)

pub arc_sum-mul : (k : ℤ) (t : Arc → ℤ) (arcs : List Arc) → arc_sum (λ a. k *ℤ t a) arcs ≡ k *ℤ arc_sum t arcs
arc_sum-mul k t [] = sym (mul-zero k)
arc_sum-mul k t (a ∷ arcs) =
    ap (λ z. k *ℤ t a +ℤ z) (arc_sum-mul k t arcs) ∙ sym (mul-add k (t a) (arc_sum t arcs))

-- terms that agree at each arc, by a fact that holds of each
pub arc_sum-same : (P : Arc → Type 0) (s t : Arc → ℤ) → ((a : Arc) → P a → s a ≡ t a) → (arcs : List Arc) → All P arcs → arc_sum s arcs ≡ arc_sum t arcs
arc_sum-same P s t e [] h = refl
arc_sum-same P s t e (a ∷ arcs) h =
    omega (arith, ints, e a (All-head P a arcs h), arc_sum-same P s t e arcs (All-tail P a arcs h))

-- terms in order at each arc
pub arc_sum-le : (P : Arc → Type 0) (s t : Arc → ℤ) → ((a : Arc) → P a → s a ≤ℤ t a) → (arcs : List Arc) → All P arcs → arc_sum s arcs ≤ℤ arc_sum t arcs
arc_sum-le P s t e [] h = omega (arith, ints)
arc_sum-le P s t e (a ∷ arcs) h =
    omega (arith, ints, e a (All-head P a arcs h), arc_sum-le P s t e arcs (All-tail P a arcs h))

pub arc_sum-zero : (arcs : List Arc) → arc_sum (λ a. pos 0) arcs ≡ pos 0
arc_sum-zero [] = refl
arc_sum-zero (a ∷ arcs) = omega (arith, ints, arc_sum-zero arcs)

pub arc_sum-append : (t : Arc → ℤ) (arcs more : List Arc) → arc_sum t (arcs ++ more) ≡ arc_sum t arcs +ℤ arc_sum t more
arc_sum-append t [] more = omega (arith, ints)
arc_sum-append t (a ∷ arcs) more = omega (arith, ints, arc_sum-append t arcs more)

-- the sum over arcs that are made of others
pub arc_sum-map : (t : Arc → ℤ) (h : Arc → Arc) (arcs : List Arc) → arc_sum t (map h arcs) ≡ arc_sum (λ a. t (h a)) arcs
arc_sum-map t h [] = refl
arc_sum-map t h (a ∷ arcs) = ap (λ z. t (h a) +ℤ z) (arc_sum-map t h arcs)

-- one arc more, as a loop takes it
pub arc_sum_more : (t : Arc → ℤ) (arcs : List Arc) (i : ℕ) (a : Arc) → i < length arcs → arc_sum t (take (i + 1) arcs) ≡ arc_sum t (take i arcs) +ℤ t
    (get_or arcs i a)
arc_sum_more t arcs i a h = rw add-one (steps t arcs i a h)
  where
    steps : (t : Arc → ℤ) (arcs : List Arc) (i : ℕ) (a : Arc) → i < length arcs → arc_sum t (take (suc i) arcs) ≡ arc_sum t (take i arcs) +ℤ t (get_or arcs i a)
    steps t [] i a h = absurd (omega arith)
    steps t (b ∷ arcs) zero a h = omega (arith, ints)
    steps t (b ∷ arcs) (suc i) a h = omega (arith, ints, steps t arcs i a (omega arith))

-- the same step, at the elements as a loop reads them
pub arc_sum_next : (t : Arc → ℤ) (arcs : List Arc) (i : ℕ) → i < length arcs → arc_sum t (take (i + 1) arcs) ≡ arc_sum t (take i arcs) +ℤ t
    (get_or arcs i no_arc)
arc_sum_next t arcs i h = arc_sum_more t arcs i no_arc h

-- ---- sums over arcs and their flows

pub flow_sum-add : (s t : Arc → ℤ → ℤ) (arcs : List Arc) (flow : List ℤ) → flow_sum (λ a f. s a f +ℤ t a f) arcs flow ≡ flow_sum s arcs flow
    +ℤ flow_sum t arcs flow
flow_sum-add s t [] flow = refl
flow_sum-add s t (a ∷ arcs) [] = refl
flow_sum-add s t (a ∷ arcs) (f ∷ flow) = omega (arith, ints, flow_sum-add s t arcs flow)

pub flow_sum-sub : (s t : Arc → ℤ → ℤ) (arcs : List Arc) (flow : List ℤ) → flow_sum (λ a f. s a f -ℤ t a f) arcs flow ≡ flow_sum s arcs flow
    -ℤ flow_sum t arcs flow
flow_sum-sub s t [] flow = refl
flow_sum-sub s t (a ∷ arcs) [] = refl
flow_sum-sub s t (a ∷ arcs) (f ∷ flow) = omega (arith, ints, flow_sum-sub s t arcs flow)

pub flow_sum-mul : (k : ℤ) (t : Arc → ℤ → ℤ) (arcs : List Arc) (flow : List ℤ) → flow_sum (λ a f. k *ℤ t a f) arcs flow ≡ k *ℤ flow_sum t arcs flow
flow_sum-mul k t [] flow = sym (mul-zero k)
flow_sum-mul k t (a ∷ arcs) [] = sym (mul-zero k)
flow_sum-mul k t (a ∷ arcs) (f ∷ flow) =
    ap (λ z. k *ℤ t a f +ℤ z) (flow_sum-mul k t arcs flow) ∙ sym (mul-add k (t a f) (flow_sum t arcs flow))

-- terms that agree at each arc, by a fact that holds of each
pub flow_sum-same : (P : Arc → Type 0) (s t : Arc → ℤ → ℤ) → ((a : Arc) (f : ℤ) → P a → s a f ≡ t a f) → (arcs : List Arc) (flow : List ℤ) → All P arcs
    → flow_sum s arcs flow ≡ flow_sum t arcs flow
flow_sum-same P s t e [] flow h = refl
flow_sum-same P s t e (a ∷ arcs) [] h = refl
flow_sum-same P s t e (a ∷ arcs) (f ∷ flow) h =
    omega (arith, ints, e a f (All-head P a arcs h), flow_sum-same P s t e arcs flow (All-tail P a arcs h))

-- terms that agree at each arc and its flow, by a fact that holds of both
pub flow_sum-same_at : (R : Arc → ℤ → Type 0) (s t : Arc → ℤ → ℤ) → ((a : Arc) (f : ℤ) → R a f → s a f ≡ t a f) → (arcs : List Arc) (flow : List ℤ)
    → AllZip R arcs flow → flow_sum s arcs flow ≡ flow_sum t arcs flow
flow_sum-same_at R s t e [] flow h = refl
flow_sum-same_at R s t e (a ∷ arcs) [] h = absurd h
flow_sum-same_at R s t e (a ∷ arcs) (f ∷ flow) h =
    omega (arith, ints, e a f h.0, flow_sum-same_at R s t e arcs flow h.1)

-- terms in order at each arc and its flow, by facts that hold of each
pub flow_sum-le : (R : Arc → ℤ → Type 0) (s t : Arc → ℤ → ℤ) → ((a : Arc) (f : ℤ) → R a f → s a f ≤ℤ t a f) → (arcs : List Arc) (flow : List ℤ)
    → AllZip R arcs flow → flow_sum s arcs flow ≤ℤ flow_sum t arcs flow
flow_sum-le R s t e [] flow h = omega (arith, ints)
flow_sum-le R s t e (a ∷ arcs) [] h = absurd h
flow_sum-le R s t e (a ∷ arcs) (f ∷ flow) h =
    omega (arith, ints, e a f h.0, flow_sum-le R s t e arcs flow h.1)

-- the same, for two flows
pub flow_sum-le_two : (R Q : Arc → ℤ → Type 0) (s t : Arc → ℤ → ℤ) → ((a : Arc) (f g : ℤ) → R a f → Q a g → s a f ≤ℤ t a g)
    → (arcs : List Arc) (flow other : List ℤ) → AllZip R arcs flow → AllZip Q arcs other → flow_sum s arcs flow ≤ℤ flow_sum t arcs other
flow_sum-le_two R Q s t e [] flow other h k = omega (arith, ints)
flow_sum-le_two R Q s t e (a ∷ arcs) [] other h k = absurd h
flow_sum-le_two R Q s t e (a ∷ arcs) (f ∷ flow) [] h k = absurd k
flow_sum-le_two R Q s t e (a ∷ arcs) (f ∷ flow) (g ∷ other) h k =
    omega (arith, ints, e a f g h.0 k.0, flow_sum-le_two R Q s t e arcs flow other h.1 k.1)

-- a term that reads the arc alone
pub flow_sum-arc_sum : (R : Arc → ℤ → Type 0) (t : Arc → ℤ) (arcs : List Arc) (flow : List ℤ) → AllZip R arcs flow
    → flow_sum (λ a f. t a) arcs flow ≡ arc_sum t arcs
flow_sum-arc_sum R t [] flow h = refl
flow_sum-arc_sum R t (a ∷ arcs) [] h = absurd h
flow_sum-arc_sum R t (a ∷ arcs) (f ∷ flow) h = ap (λ z. t a +ℤ z) (flow_sum-arc_sum R t arcs flow h.1)

-- a term that is 0 at each arc
pub flow_sum-zero : (arcs : List Arc) (flow : List ℤ) → flow_sum (λ a f. pos 0) arcs flow ≡ pos 0
flow_sum-zero [] flow = refl
flow_sum-zero (a ∷ arcs) [] = refl
flow_sum-zero (a ∷ arcs) (f ∷ flow) = omega (arith, ints, flow_sum-zero arcs flow)

pub flow_sum-append : (t : Arc → ℤ → ℤ) (arcs more : List Arc) (flow rest : List ℤ) → length arcs ≡ length flow
    → flow_sum t (arcs ++ more) (flow ++ rest) ≡ flow_sum t arcs flow +ℤ flow_sum t more rest
flow_sum-append t [] more [] rest h = omega (arith, ints)
flow_sum-append t [] more (f ∷ flow) rest h = absurd (omega arith)
flow_sum-append t (a ∷ arcs) more [] rest h = absurd (omega arith)
flow_sum-append t (a ∷ arcs) more (f ∷ flow) rest h =
    omega (arith, ints, flow_sum-append t arcs more flow rest (omega arith))

-- the sum over arcs that are made of others
pub flow_sum-map : (t : Arc → ℤ → ℤ) (h : Arc → Arc) (arcs : List Arc) (flow : List ℤ) → flow_sum t (map h arcs) flow ≡ flow_sum (λ a f. t (h a) f) arcs flow
flow_sum-map t h [] flow = refl
flow_sum-map t h (a ∷ arcs) [] = refl
flow_sum-map t h (a ∷ arcs) (f ∷ flow) = ap (λ z. t (h a) f +ℤ z) (flow_sum-map t h arcs flow)

-- one arc more, as a loop takes it
pub flow_sum_more : (t : Arc → ℤ → ℤ) (arcs : List Arc) (flow : List ℤ) (i : ℕ) (a : Arc) (f : ℤ) → i < length arcs → i < length flow
    → flow_sum t (take (i + 1) arcs) flow ≡ flow_sum t (take i arcs) flow +ℤ t (get_or arcs i a) (get_or flow i f)
flow_sum_more t arcs flow i a f h k = rw add-one (steps t arcs flow i a f h k)
  where
    steps : (t : Arc → ℤ → ℤ) (arcs : List Arc) (flow : List ℤ) (i : ℕ) (a : Arc) (f : ℤ) → i < length arcs → i < length flow
        → flow_sum t (take (suc i) arcs) flow ≡ flow_sum t (take i arcs) flow +ℤ t (get_or arcs i a) (get_or flow i f)
    steps t [] flow i a f h k = absurd (omega arith)
    steps t (b ∷ arcs) [] i a f h k = absurd (omega arith)
    steps t (b ∷ arcs) (g ∷ flow) zero a f h k = omega (arith, ints)
    steps t (b ∷ arcs) (g ∷ flow) (suc i) a f h k =
        omega (arith, ints, steps t arcs flow i a f (omega arith) (omega arith))

-- the same step, at the elements as a loop reads them
pub flow_sum_next : (t : Arc → ℤ → ℤ) (arcs : List Arc) (flow : List ℤ) (i : ℕ) → i < length arcs → i < length flow
    → flow_sum t (take (i + 1) arcs) flow ≡ flow_sum t (take i arcs) flow +ℤ t (get_or arcs i no_arc) (get_or flow i (pos 0))
flow_sum_next t arcs flow i h k = flow_sum_more t arcs flow i no_arc (pos 0) h k

-- the flow of one arc changed
pub flow_sum-set : (t : Arc → ℤ → ℤ) (arcs : List Arc) (flow : List ℤ) (i : ℕ) (x : ℤ) (a : Arc) (f : ℤ) → i < length arcs → i < length flow
    → flow_sum t arcs (set flow i x) +ℤ t (get_or arcs i a) (get_or flow i f) ≡ flow_sum t arcs flow +ℤ t (get_or arcs i a) x
flow_sum-set t [] flow i x a f h k = absurd (omega arith)
flow_sum-set t (b ∷ arcs) [] i x a f h k = absurd (omega arith)
flow_sum-set t (b ∷ arcs) (g ∷ flow) zero x a f h k = omega (arith, ints)
flow_sum-set t (b ∷ arcs) (g ∷ flow) (suc i) x a f h k =
    omega (arith, ints, flow_sum-set t arcs flow i x a f (omega arith) (omega arith))
