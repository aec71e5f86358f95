-- Laws of sums over the entries of a plan.
use Rattle.std.proofs.Common.{◌≡◌, ℕ, ◌<◌, eqb, Bool, true, false, List, [], ◌∷◌, ◌++◌, refl, ap, sym, ◌∙◌, arith, ℤ, pos, ◌+ℤ◌, ◌≤ℤ◌}
use Rattle.std.specs.List.{All}
use Rattle.std.proofs.Math.IntN.{◌*ℤ◌}
use Rattle.std.proofs.lemmas.Bool.{lt-ltb}
use Rattle.std.proofs.lemmas.Int.{ints}
use Rattle.std.proofs.lemmas.List.Elements.{All-head, All-tail}
use Rattle.mcf_flows.specs.Network.{when}
use Rattle.mcf_flows.proofs.IntLaws.{mul-add, mul-zero}
use Rattle.mcf_matrix.specs.declared.shipment.Shipment.{Shipment}
use Rattle.mcf_matrix.specs.PlaceSums.{sum_below}
use Rattle.mcf_matrix.specs.Plans.{plan_sum}
use Rattle.mcf_matrix.proofs.PlaceSums.{sum_below-add, sum_below-same, sum_below-zero, sum_one}

pub plan_sum-add : (s t : Shipment → ℤ) (plan : List Shipment) → plan_sum (λ e. s e +ℤ t e) plan ≡ plan_sum s plan +ℤ plan_sum t plan
plan_sum-add s t [] = refl
plan_sum-add s t (e ∷ plan) = omega (arith, ints, plan_sum-add s t plan)

pub plan_sum-append : (t : Shipment → ℤ) (xs ys : List Shipment) → plan_sum t (xs ++ ys) ≡ plan_sum t xs +ℤ plan_sum t ys
plan_sum-append t [] ys = omega (arith, ints)
plan_sum-append t (e ∷ xs) ys = omega (arith, ints, plan_sum-append t xs ys)

-- terms in order at entries of which a fact holds
pub plan_sum-le : (P : Shipment → Type 0) (s t : Shipment → ℤ) → ((e : Shipment) → P e → s e ≤ℤ t e) → (plan : List Shipment) → All P plan
    → plan_sum s plan ≤ℤ plan_sum t plan
plan_sum-le P s t h [] a = omega (arith, ints)
plan_sum-le P s t h (e ∷ plan) a = omega (arith, ints, h e (All-head P e plan a), plan_sum-le P s t h plan (All-tail P e plan a))

pub plan_sum-same : (P : Shipment → Type 0) (s t : Shipment → ℤ) → ((e : Shipment) → P e → s e ≡ t e) → (plan : List Shipment) → All P plan
    → plan_sum s plan ≡ plan_sum t plan
plan_sum-same P s t h [] a = refl
plan_sum-same P s t h (e ∷ plan) a = omega (arith, ints, h e (All-head P e plan a), plan_sum-same P s t h plan (All-tail P e plan a))

mul-when : (b : Bool) (w z : ℤ) → w *ℤ when b z ≡ when b (w *ℤ z)
mul-when true w z = refl
mul-when false w z = mul-zero w

-- a weight of each entry's end, times its amount: the sum over the ends of what each has
pub by_ends : (end : Shipment → ℕ) (w : ℕ → ℤ) (n : ℕ) (plan : List Shipment) → All (λ e. end e < n) plan
    → plan_sum (λ e. w (end e) *ℤ e.amount) plan ≡ sum_below (λ i. w i *ℤ plan_sum (λ e. when (eqb (end e) i) e.amount) plan) n
by_ends end w n [] a = sym (sum_below-zero (λ i. w i *ℤ pos 0) n (λ i h. mul-zero (w i)))
by_ends end w n (e ∷ plan) a =
    let rest = λ (i : ℕ). plan_sum (λ d. when (eqb (end d) i) d.amount) plan in
    let apart : sum_below (λ i. w i *ℤ (when (eqb (end e) i) e.amount +ℤ rest i)) n ≡ sum_below (λ i. when (eqb (end e) i) (w i *ℤ e.amount) +ℤ w i *ℤ rest i) n =
    sum_below-same _ _ n (λ i h. mul-add (w i) (when (eqb (end e) i) e.amount) (rest i) ∙ ap (λ z. z +ℤ w i *ℤ rest i) (mul-when (eqb (end e) i) (w i) e.amount)) in
    let one : sum_below (λ i. when (eqb (end e) i) (w i *ℤ e.amount)) n ≡ w (end e) *ℤ e.amount =
    sum_one (λ i. w i *ℤ e.amount) (end e) n ∙ ap (λ b. when b (w (end e) *ℤ e.amount)) (lt-ltb (end e) n (All-head (λ e. end e < n) e plan a)) in
    let sums = sum_below-add (λ i. when (eqb (end e) i) (w i *ℤ e.amount)) (λ i. w i *ℤ rest i) n in
    ap (λ z. w (end e) *ℤ e.amount +ℤ z) (by_ends end w n plan (All-tail (λ e. end e < n) e plan a)) ∙ ap (λ z. z +ℤ sum_below (λ i. w i *ℤ rest i) n) (sym one) ∙ sym sums ∙ sym apart
