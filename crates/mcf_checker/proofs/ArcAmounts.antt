-- A flow by arc, as an answer states it: with the arcs' ends.
use Rattle.std.proofs.Common.{◌≡◌, ◌∙◌, ℕ, ap, arith, length, map, refl, subst, sym, List, [], ◌∷◌, ℤ, Some}
use Rattle.std.specs.List.{slice_get, zip}
use Rattle.std.specs.Option.{option_map}
use Rattle.std.specs.Prelude.{◌↔◌}
use Rattle.std.proofs.lemmas.Bool.{eq-eqb}
use Rattle.std.proofs.lemmas.List.{length-map}
use Rattle.std.proofs.lemmas.Option.{slice_get-map}
use Rattle.mcf_checker.specs.Amounts.{answer_along, sent_along, sent_by}
use Rattle.mcf_checker.specs.Correct.{IsRightFlow, IsRightSolution, amounts, sent_ends}
use Rattle.mcf_checker.specs.Judging.{can_carry}
use Rattle.mcf_checker.proofs.BadArcs.{agreement}
use Rattle.mcf_checker.proofs.BadPrices.{zip_read}
use Rattle.mcf_flows.specs.Network.{Network}
use Rattle.mcf_flows.specs.declared.arc.Arc.{Arc}

length-zip-same : {A B : Type 0} (xs : List A) (ys : List B) → length ys ≡ length xs → length (zip xs ys) ≡ length xs
length-zip-same [] ys e = refl
length-zip-same (x ∷ xs) [] e = absurd (omega arith)
length-zip-same (x ∷ xs) (y ∷ ys) e = let rest = length-zip-same xs ys (omega arith) in omega arith

pub length-sent_along : (arcs : List Arc) (flow : List ℤ) → length flow ≡ length arcs → length (sent_along arcs flow) ≡ length arcs
length-sent_along arcs flow e = length-map (zip arcs flow) sent_by ∙ length-zip-same arcs flow e

-- they have the arcs' ends, and carry the flow
ends-sent_along : (arcs : List Arc) (flow : List ℤ) → length flow ≡ length arcs → sent_ends (sent_along arcs flow) ≡ map (λ (a : Arc). (a.src, a.dst)) arcs
ends-sent_along [] flow e = refl
ends-sent_along (a ∷ arcs) [] e = absurd (omega arith)
ends-sent_along (a ∷ arcs) (f ∷ flow) e = ap (λ xs. (a.src, a.dst) ∷ xs) (ends-sent_along arcs flow (omega arith))

pub amounts-sent_along : (arcs : List Arc) (flow : List ℤ) → length flow ≡ length arcs → amounts (sent_along arcs flow) ≡ flow
amounts-sent_along [] [] e = refl
amounts-sent_along [] (f ∷ flow) e = absurd (omega arith)
amounts-sent_along (a ∷ arcs) [] e = absurd (omega arith)
amounts-sent_along (a ∷ arcs) (f ∷ flow) e = ap (λ xs. f ∷ xs) (amounts-sent_along arcs flow (omega arith))

-- an arc agrees with its amount where it can carry it
pub agreement_along : (arcs : List Arc) (flow : List ℤ) (i : ℕ) (a : Arc) (f : ℤ) → slice_get arcs i ≡ Some a → slice_get flow i ≡ Some f
    → agreement arcs (sent_along arcs flow) i ≡ can_carry (Some a) f
agreement_along arcs flow i a f at carried =
    let sent : slice_get (sent_along arcs flow) i ≡ Some (sent_by (a, f)) =
    slice_get-map sent_by (zip arcs flow) i ∙ ap (option_map sent_by) (zip_read arcs flow i a f at carried) in
    rw (at, sent, eq-eqb a.src a.src refl, eq-eqb a.dst a.dst refl) refl

-- the answer is right where the flow is
pub right_along : (g : Network) (total : ℤ) (flow prices : List ℤ) → length flow ≡ length g.arcs
    → IsRightSolution g (answer_along g total flow prices) ↔ IsRightFlow g total prices flow
right_along g total flow prices long = (
  λ h. subst (IsRightFlow g total prices) (amounts-sent_along g.arcs flow long) h.right,
  λ h. record {
    same_ends = ends-sent_along g.arcs flow long;
    right = subst (IsRightFlow g total prices) (sym (amounts-sent_along g.arcs flow long)) h;
  },
)
