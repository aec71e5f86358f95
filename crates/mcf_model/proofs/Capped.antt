-- A reach beyond the limits may be taken for any other beyond them: the first fault is the same.
use Rattle.std.proofs.Common.{◌≡◌, ℕ, ◌+◌, Bool, true, false, not, ◌&&◌, List, [], ◌∷◌, ◌++◌, length, refl, ap, sym, ◌∙◌, subst, arith, append_assoc, ℤ, ◌≤ℤ◌, inl, inr}
use Rattle.std.specs.Prelude.{Option, Some, None, Result, Ok, Err, IfOk, ◌↔◌, is_ok, if◌then◌else◌, nat_le, int_le}
use Rattle.std.specs.Int.{int_min}
use Rattle.std.specs.List.{All, AllZip}
use Rattle.std.specs.Option.{option_or}
use Rattle.std.proofs.lemmas.Int.{ints, clamps}
use Rattle.std.proofs.lemmas.List.Elements.{All-head, All-tail}
use Rattle.mcf_flows.specs.declared.arc.Arc.{Arc}
use Rattle.mcf_flows.specs.declared.code.Code.TheVariants.{Node, Bound}
use Rattle.mcf_flows.specs.declared.problem.Problem.TheVariants.{Min}
use Rattle.mcf_flows.specs.Limits.{arc_limit, limits, node_limit}
use Rattle.mcf_flows.specs.Network.{Network}
use Rattle.mcf_flows.specs.WellFormed.{IsArcWithinLimits, IsWellFormed}
use Rattle.mcf_flows.proofs.AllZips.{length-AllZip}
use Rattle.mcf_instance.specs.declared.arrays.ArrayFault.{ArrayFault}
use Rattle.mcf_instance.specs.declared.arrays.ArrayFault.TheVariants.{Size, Arc as FaultyArc}
use Rattle.mcf_instance.specs.Arrays.{arc_fault, array_fault, first_found, made_of_arrays, made_unless, names_node, supply_fault}
use Rattle.mcf_instance.specs.Fault.{is_up_to}
use Rattle.mcf_instance.proofs.FirstFound.{first_found-longer, first_found-push}
use Rattle.mcf_model.specs.Arcs.{arcs_of, network_of}
use Rattle.mcf_model.specs.Model.{Model}
use Rattle.mcf_model.specs.Planning.{beyond_bounds}
use Rattle.mcf_model.proofs.Raised.{IsRaised, arcs_raised}

same_arc : (reach higher : ℤ) (a b : Arc) → IsRaised reach higher a b → b.cap ≡ a.cap → a ≡ b
same_arc reach higher a b r same =
    sym (λ i. record { src = r.src i; dst = r.dst i; low = r.low i; cap = same i; cost = r.cost i })

too_far : (x : ℤ) → beyond_bounds ≤ℤ x → is_up_to limits.bound x ≡ false
too_far x h = grind (arith, ints)

module _ (m : Model) (cap reach : ℤ) (far : beyond_bounds ≤ℤ cap) (farther : beyond_bounds ≤ℤ reach) where
  abbrev g : Network
  g = network_of cap m

  -- an arc whose cap is beyond the limits has a fault, whichever it is
  fault_of : (earlier : List Arc) (a : Arc) → beyond_bounds ≤ℤ a.cap
      → arc_fault limits g earlier a ≡ Some (FaultyArc (length earlier + 1) (if not (names_node g a.src && names_node g a.dst) then Node else Bound))
  fault_of earlier a h =
      go (not (names_node g a.src && names_node g a.dst)) refl
    where
      and_false : (b : Bool) → (b && false) ≡ false
      and_false true = refl
      and_false false = refl

      go : (b : Bool) → not (names_node g a.src && names_node g a.dst) ≡ b
          → arc_fault limits g earlier a ≡ Some (FaultyArc (length earlier + 1) (if not (names_node g a.src && names_node g a.dst) then Node else Bound))
      go true e = rw e refl
      go false e = rw (e, too_far a.cap h, and_false (is_up_to limits.bound a.low)) refl

  same_found : (earlier arcs raised : List Arc) → AllZip (IsRaised cap reach) arcs raised
      → first_found (arc_fault limits g) (earlier ++ arcs) ≡ first_found (arc_fault limits g) (earlier ++ raised)
  same_found earlier [] [] h = refl
  same_found earlier [] (b ∷ raised) h = absurd h
  same_found earlier (a ∷ arcs) [] h = absurd h
  same_found earlier (a ∷ arcs) (b ∷ raised) h =
      elim (h.0).cap [
        | inl same ↦
            ap (λ xs. first_found test xs) (sym (append_assoc earlier (a ∷ []) arcs))
            ∙ same_found (earlier ++ a ∷ []) arcs raised h.1
            ∙ ap (λ xs. first_found test xs) (append_assoc earlier (a ∷ []) raised)
            ∙ ap (λ x. first_found test (earlier ++ x ∷ raised)) (same_arc cap reach a b h.0 same)
        | inr two ↦ go (first_found test earlier) refl (omega (arith, ints, far, two.0)) (omega (arith, ints, farther, two.1))
      ]
    where
      test : List Arc → Arc → Option ArrayFault
      test = arc_fault limits g

      word : Arc → ArrayFault
      word x = FaultyArc (length earlier + 1) (if not (names_node g x.src && names_node g x.dst) then Node else Bound)

      same_word : word a ≡ word b
      same_word =
          ap (λ s. FaultyArc (length earlier + 1) (if not (names_node g s && names_node g a.dst) then Node else Bound)) (sym (h.0).src)
          ∙ ap (λ d. FaultyArc (length earlier + 1) (if not (names_node g b.src && names_node g d) then Node else Bound)) (sym (h.0).dst)

      whole : (x : Arc) (xs : List Arc) (y : ArrayFault) → first_found test (earlier ++ x ∷ []) ≡ Some y → first_found test (earlier ++ x ∷ xs) ≡ Some y
      whole x xs y e = ap (λ zs. first_found test zs) (sym (append_assoc earlier (x ∷ []) xs)) ∙ first_found-longer test (earlier ++ x ∷ []) xs y e

      found : (x : Arc) (xs : List Arc) → first_found test earlier ≡ None → beyond_bounds ≤ℤ x.cap → first_found test (earlier ++ x ∷ xs) ≡ Some (word x)
      found x xs none k =
          whole x xs (word x) (first_found-push test earlier x ∙ ap (λ o. option_or o (test earlier x)) none ∙ fault_of earlier x k)

      go : (o : Option ArrayFault) → first_found test earlier ≡ o → beyond_bounds ≤ℤ a.cap → beyond_bounds ≤ℤ b.cap
          → first_found test (earlier ++ a ∷ arcs) ≡ first_found test (earlier ++ b ∷ raised)
      go (Some y) e k l = first_found-longer test earlier (a ∷ arcs) y e ∙ sym (first_found-longer test earlier (b ∷ raised) y e)
      go None e k l = found a arcs e k ∙ ap Some same_word ∙ sym (found b raised e l)

  pub same_fault : array_fault limits (network_of cap m) ≡ array_fault limits (network_of reach m)
  unfolding array_fault
  same_fault =
      let raised = arcs_raised cap reach m.routes in
      let first : ℕ → Option ArrayFault → Option ArrayFault =
      λ n o. if not (nat_le (length m.supplies) node_limit && nat_le n arc_limit) then Some Size else option_or (first_found (supply_fault limits) m.supplies) o in
      ap (λ n. first n (first_found (arc_fault limits g) (arcs_of cap m.routes)))
      (length-AllZip (IsRaised cap reach) (arcs_of cap m.routes) (arcs_of reach m.routes) raised)
      ∙ ap (first (length (arcs_of reach m.routes))) (same_found [] (arcs_of cap m.routes) (arcs_of reach m.routes) raised)

  -- where all is within the limits, the cap is nowhere
  same_arcs : (arcs raised : List Arc) → AllZip (IsRaised cap reach) arcs raised → All (IsArcWithinLimits limits) arcs → arcs ≡ raised
  same_arcs [] [] h k = refl
  same_arcs [] (b ∷ raised) h k = absurd h
  same_arcs (a ∷ arcs) [] h k = absurd h
  same_arcs (a ∷ arcs) (b ∷ raised) h k =
      let within = All-head (IsArcWithinLimits limits) a arcs k in
      let rest = same_arcs arcs raised h.1 (All-tail (IsArcWithinLimits limits) a arcs k) in
      elim (h.0).cap [
        | inl same ↦ ap (λ x. x ∷ arcs) (same_arc cap reach a b h.0 same) ∙ ap (λ xs. b ∷ xs) rest
        | inr two ↦ absurd (omega (arith, ints, within.cap_small.1, two.0, far))
      ]

  pub same_network : IsWellFormed limits (network_of cap m) → network_of cap m ≡ network_of reach m
  same_network h =
      let net : List Arc → Network = λ xs. record { problem = Min; arcs = xs; supplies = m.supplies } in
      ap net (same_arcs (arcs_of cap m.routes) (arcs_of reach m.routes) (arcs_raised cap reach m.routes) h.within.arcs)

-- what is made of the network of the capped reach is what is made of that of the reach
pub capped_made : (m : Model) (cap reach : ℤ) (made : Result Network ArrayFault) → cap ≡ int_min reach beyond_bounds
    → made ≡ made_of_arrays limits (network_of cap m) → ((is_ok made ≡ true) → IsWellFormed limits (network_of cap m))
    → made ≡ made_of_arrays limits (network_of reach m)
capped_made m cap reach made e is within = go (int_le reach beyond_bounds) refl
  where
    near : (x : ℤ) → int_le x beyond_bounds ≡ true → x ≤ℤ beyond_bounds
    near x h = grind (arith, ints)

    beyond : (x : ℤ) → int_le x beyond_bounds ≡ false → beyond_bounds ≤ℤ x
    beyond x h = grind (arith, ints)

    far : beyond_bounds ≤ℤ reach → (made : Result Network ArrayFault) → made ≡ made_of_arrays limits (network_of cap m)
        → ((is_ok made ≡ true) → IsWellFormed limits (network_of cap m)) → made ≡ made_of_arrays limits (network_of reach m)
    far h (Ok x) is within =
        let c : beyond_bounds ≤ℤ cap = omega (arith, ints, clamps, e, h) in
        is ∙ ap (made_of_arrays limits) (same_network m cap reach c h (within refl))
    far h (Err fault) is within =
        let c : beyond_bounds ≤ℤ cap = omega (arith, ints, clamps, e, h) in
        refused (array_fault limits (network_of cap m)) refl is ∙ ap (λ o. made_unless o (network_of reach m)) (same_fault m cap reach c h)
      where
        refused : (o : Option ArrayFault) → array_fault limits (network_of cap m) ≡ o → Err fault ≡ made_unless o (network_of cap m)
            → Err fault ≡ made_unless (array_fault limits (network_of cap m)) (network_of reach m)
        refused (Some f) k l = l ∙ ap (λ o. made_unless o (network_of reach m)) (sym k)
        refused None k l = cc l

    go : (b : Bool) → int_le reach beyond_bounds ≡ b → made ≡ made_of_arrays limits (network_of reach m)
    go true h =
        let same : cap ≡ reach = omega (arith, ints, clamps, e, near reach h) in
        is ∙ ap (λ z. made_of_arrays limits (network_of z m)) same
    go false h = far (beyond reach h) made is within

pub each_capped : {E : Type 0} (m : Model) (cap reach : ℤ) (g : Network) (r : Result (Result Network ArrayFault) E) → cap ≡ int_min reach beyond_bounds
    → g ≡ network_of cap m → IfOk r (λ made. made ≡ made_of_arrays limits g) → IfOk r (λ made. (is_ok made ≡ true) ↔ IsWellFormed limits g)
    → IfOk r (λ made. made ≡ made_of_arrays limits (network_of reach m))
each_capped m cap reach g (Ok made) e same is within =
    capped_made m cap reach made e (is ∙ ap (made_of_arrays limits) same) (λ ok. subst (IsWellFormed limits) same (within.0 ok))
each_capped m cap reach g (Err none) e same is within = tt

-- what is made is the network, with what is known of it
pub made_within : (g x : Network) (r : Result Network ArrayFault) → r ≡ Ok x → r ≡ made_of_arrays limits g → IfOk r (IsWellFormed limits) → IsWellFormed limits g
made_within g x r e is within = subst (IsWellFormed limits) (go (array_fault limits g) (sym e ∙ is)) (subst (λ made. IfOk made (IsWellFormed limits)) e within)
  where
    go : (o : Option ArrayFault) → Ok x ≡ made_unless o g → x ≡ g
    go None e = cc
    go (Some fault) e = cc
