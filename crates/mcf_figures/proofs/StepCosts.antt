-- The cost of an amount that fills steps, kept within 128 bits.
use Rattle.std.proofs.Common.{◌≡◌, ℕ, suc, ◌+◌, ◌<◌, ◌^◌, List, drop, drop-cons, get_or, length, ap, sym, ◌∙◌, subst, arith, ℤ, pos, neg_ℤ, ◌+ℤ◌, ◌-ℤ◌, ◌≤ℤ◌}
use Rattle.std.specs.Prelude.{◌*◌}
use Rattle.std.specs.Int.{int_min}
use Rattle.std.proofs.Math.IntN.{◌*ℤ◌}
use Rattle.std.proofs.Math.Seq.{drop-length}
use Rattle.std.proofs.lemmas.Int.{ints, clamps, by_lt_z}
use Rattle.mcf_flows.proofs.IntLaws.{mul-add, mul-anti_left, mul-mono, mul-mono_left, mul-neg, neg-mul}
use Rattle.mcf_flows.specs.WellFormed.{IsUpTo}
use Rattle.mcf_model.specs.declared.rows.Step.{Step}
use Rattle.mcf_model.specs.Model.{charge, size}
use Rattle.mcf_figures.specs.Told.{cost_limit}

-- the greatest cost of a unit
abbrev most_cost : ℤ
most_cost = pos (2 ^ 63)

-- how far from 0 the cost of an amount is at most
abbrev pub span : ℤ → ℤ
span x = most_cost *ℤ size x

within_span : (c x : ℤ) → IsUpTo (2 ^ 63) c → (neg_ℤ (span x) ≤ℤ (c *ℤ x)) × ((c *ℤ x) ≤ℤ span x)
within_span c x h =
    by_lt_z x (pos 0)
    (λ less.
    let s : size x ≡ neg_ℤ x = omega (arith, ints, clamps, less) in
    let none : x ≤ℤ pos 0 = omega (arith, ints, less) in
    let e : span x ≡ neg_ℤ (most_cost *ℤ x) = ap (λ z. most_cost *ℤ z) s ∙ mul-neg most_cost x in
    let low = mul-anti_left c most_cost x none h.1 in
    let high = mul-anti_left (neg_ℤ most_cost) c x none h.0 in
    let n = neg-mul most_cost x in (omega (arith, ints, low, e), omega (arith, ints, high, e, n)))
    (λ more.
    let s : size x ≡ x = omega (arith, ints, clamps, more) in
    let e : span x ≡ most_cost *ℤ x = ap (λ z. most_cost *ℤ z) s in
    let low = mul-mono_left (neg_ℤ most_cost) c x more h.0 in
    let high = mul-mono_left c most_cost x more h.1 in
    let n = neg-mul most_cost x in (omega (arith, ints, low, e, n), omega (arith, ints, high, e)))

-- an amount of which a step takes a part
span_parts : (x most : ℤ) → pos 0 ≤ℤ most → span x ≡ span (int_min x most) +ℤ span (x -ℤ int_min x most)
span_parts x most h =
    let e : size x ≡ size (int_min x most) +ℤ size (x -ℤ int_min x most) = omega (arith, ints, clamps, h) in
    ap (λ z. most_cost *ℤ z) e ∙ mul-add most_cost (size (int_min x most)) (size (x -ℤ int_min x most))

size_part : (x most : ℤ) → pos 0 ≤ℤ most → (size (int_min x most) ≤ℤ size x) × (size (x -ℤ int_min x most) ≤ℤ size x)
size_part x most h = (omega (arith, ints, clamps, h), omega (arith, ints, clamps, h))

some_span : (x : ℤ) → pos 0 ≤ℤ span x
some_span x = mul-mono most_cost (pos 0) (size x) (omega (arith, ints)) (omega (arith, ints, clamps))

abbrev pub total_limit : ℕ
total_limit = 2 ^ 63 * 10 ^ 18

span_small : (x y : ℤ) → IsUpTo cost_limit x → size y ≤ℤ size x → span y ≤ℤ pos total_limit
span_small x y h less =
    let s : size y ≤ℤ pos cost_limit = omega (arith, ints, clamps, h.0, h.1, less) in
    mul-mono most_cost (size y) (pos cost_limit) (omega (arith, ints)) s

-- the cost of some units is small
pub times_small : (c x : ℤ) → IsUpTo (2 ^ 63) c → IsUpTo cost_limit x → IsUpTo total_limit (c *ℤ x)
times_small c x h k =
    let w = within_span c x h in
    let s = span_small x x k (omega (arith, ints, clamps)) in
    (omega (arith, ints, w.0, s), omega (arith, ints, w.1, s))

-- what is kept of the cost of the steps before the i-th, of what they left, and of the amount
pub record IsCharged (own : List Step) (c x : ℤ) (i : ℕ) (rest total : ℤ) : Type 0 where
  pub value : total +ℤ charge (drop i own) c rest ≡ charge own c x
  pub low : (span rest -ℤ span x) ≤ℤ total
  pub high : total ≤ℤ (span x -ℤ span rest)
  pub left : size rest ≤ℤ size x

pub none_charged : (own : List Step) (c x : ℤ) → IsCharged own c x 0 x (pos 0)
none_charged own c x = record { value = omega (arith, ints); low = omega (arith, ints); high = omega (arith, ints); left = omega (arith, ints) }

pub rest_small : (own : List Step) (c x rest total : ℤ) (i : ℕ) → IsCharged own c x i rest total → IsUpTo cost_limit x → IsUpTo cost_limit rest
rest_small own c x rest total i k h =
    let left = k.left in
    (omega (arith, ints, clamps, left, h.0, h.1), omega (arith, ints, clamps, left, h.0, h.1))

pub part_small : (x most : ℤ) → pos 0 ≤ℤ most → IsUpTo cost_limit x → IsUpTo cost_limit (int_min x most)
part_small x most h k = (omega (arith, ints, clamps, h, k.0, k.1), omega (arith, ints, clamps, h, k.0, k.1))

pub total_small : (own : List Step) (c x rest total : ℤ) (i : ℕ) → IsCharged own c x i rest total → IsUpTo cost_limit x → IsUpTo total_limit total
total_small own c x rest total i k h =
    let s = span_small x x h (omega (arith, ints, clamps)) in
    let low = k.low in
    let high = k.high in
    let some = some_span rest in
    (omega (arith, ints, low, some, s), omega (arith, ints, high, some, s))

-- one more step
pub charged_more : (own : List Step) (i : ℕ) (d : Step) (c x rest total part cost : ℤ) → i < length own → pos 0 ≤ℤ (get_or own i d).most
    → IsUpTo (2 ^ 63) (get_or own i d).cost → part ≡ int_min rest (get_or own i d).most → cost ≡ (get_or own i d).cost *ℤ part → IsCharged own c x i rest total
    → IsCharged own c x (i + 1) (rest -ℤ part) (total +ℤ cost)
charged_more own i d c x rest total part cost h takes fits part_is cost_is k =
    let s = get_or own i d in
    let next : i + 1 ≡ suc i = omega arith in
    let filled : charge (drop i own) c rest ≡ s.cost *ℤ int_min rest s.most +ℤ charge (drop (suc i) own) c (rest -ℤ int_min rest s.most) =
    ap (λ ss. charge ss c rest) (drop-cons own i d h) in
    let here : cost ≡ s.cost *ℤ int_min rest s.most = cost_is ∙ ap (λ z. s.cost *ℤ z) part_is in
    let later : charge (drop (i + 1) own) c (rest -ℤ part) ≡ charge (drop (suc i) own) c (rest -ℤ int_min rest s.most) =
    ap (λ j. charge (drop j own) c (rest -ℤ part)) next ∙ ap (λ z. charge (drop (suc i) own) c (rest -ℤ z)) part_is in
    let parts : span rest ≡ span part +ℤ span (rest -ℤ part) =
    subst (λ z. span rest ≡ span z +ℤ span (rest -ℤ z)) (sym part_is) (span_parts rest s.most takes) in
    let w = within_span s.cost part fits in
    let sizes = subst (λ z. (size z ≤ℤ size rest) × (size (rest -ℤ z) ≤ℤ size rest)) (sym part_is) (size_part rest s.most takes) in
    let value = k.value in
    let low = k.low in
    let high = k.high in
    let left = k.left in
    record {
      value = omega (arith, ints, value, filled, here, later);
      low = omega (arith, ints, low, parts, w.0, cost_is);
      high = omega (arith, ints, high, parts, w.1, cost_is);
      left = omega (arith, ints, left, sizes.1);
    }

-- all steps
pub charged_all : (own : List Step) (c x rest total cost : ℤ) (i : ℕ) → length own ≡ i → cost ≡ c *ℤ rest → IsCharged own c x i rest total
    → total +ℤ cost ≡ charge own c x
charged_all own c x rest total cost i h cost_is k =
    let none : charge (drop i own) c rest ≡ c *ℤ rest = ap (λ ss. charge ss c rest) (sym (ap (λ j. drop j own) h) ∙ drop-length own) in
    let value = k.value in
    omega (arith, ints, value, none, cost_is)

pub sum_small : (own : List Step) (c x rest total cost : ℤ) (i : ℕ) → IsUpTo (2 ^ 63) c → IsUpTo cost_limit x → cost ≡ c *ℤ rest → IsCharged own c x i rest total
    → IsUpTo total_limit (total +ℤ cost)
sum_small own c x rest total cost i fits h cost_is k =
    let w = within_span c rest fits in
    let s = span_small x x h (omega (arith, ints, clamps)) in
    let low = k.low in
    let high = k.high in
    (omega (arith, ints, low, w.0, s, cost_is), omega (arith, ints, high, w.1, s, cost_is))
