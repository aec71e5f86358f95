-- Entries and prices of doubles, as the judge of assignments asks for them.
use Rattle.std.proofs.Common.{◌≡◌, ℕ, ◌^◌, ◌<◌, Bool, true, IsTrue, ◌↔◌, IfSome, IsSome, IsSomeAnd, Option, Some, None, List, ap, sym, ◌∙◌, subst, refl, arith, ℤ, pos, ◌+ℤ◌, ◌-ℤ◌, ◌≤ℤ◌}
use Rattle.std.proofs.Math.IntN.{◌*ℤ◌}
use Rattle.std.proofs.lemmas.Int.{ints}
use Rattle.mcf_flows.proofs.IntLaws.{add-mul, sub-mul, zero-mul}
use Rattle.mcf_matrix.specs.Judging.{IsPricedPlace, IsRowCovered}
use Rattle.mcf_matrix.specs.MatrixPrices.{reduced_cost}
use Rattle.mcf_matrix.specs.PlaceSums.{at_place}
use Rattle.mcf_matrix_doubles.specs.declared.double.TheConstants.{INFINITY}
use Rattle.mcf_matrix_doubles.specs.DoublePrices.{RowIsCovered, in_units}
use Rattle.mcf_matrix_doubles.specs.DoubleTables.{DoubleTable, IsShaped, double_costs}
use Rattle.mcf_matrix_doubles.specs.Doubles.{double_cost, value_of}
use Rattle.mcf_matrix_doubles.specs.Rounding.{cost_read, rounded_down}
use Rattle.mcf_matrix_doubles.proofs.BitRows.{row_at, row_length, row_of}
use Rattle.mcf_matrix_doubles.proofs.Covering.{cost_is, price_at, reduced_is}
use Rattle.mcf_matrix_doubles.proofs.Powers.{power_above_zero, scale_back, scale_up}

-- ---- an entry that is exactly the sum of two prices

exact_core : (o : Option ℤ) (z a b p m : ℤ) (r : Bool) → o ≡ Some z → m ≡ z → IsTrue r ↔ (m ≡ (a +ℤ b) *ℤ p) → IsTrue r ↔ IsSomeAnd o (λ c. c -ℤ a *ℤ p -ℤ b *ℤ p ≡ pos 0)
exact_core o z a b p m r e f i =
    subst (λ (q : Option ℤ). IsTrue r ↔ IsSomeAnd q (λ c. c -ℤ a *ℤ p -ℤ b *ℤ p ≡ pos 0)) (sym e)
    ((λ t. let same = i.0 t in omega (arith, ints, same, f, add-mul a b p)), (λ h. i.1 (omega (arith, ints, h, f, add-mul a b p))))

pub entry_exact : (bits unit shift : ℕ) (a b m : ℤ) (r : Bool) → (bits ≡ INFINITY → ⊥) → m *ℤ pos (2 ^ shift) ≡ value_of bits
    → IsTrue r ↔ (m *ℤ pos (2 ^ shift) ≡ (a +ℤ b) *ℤ pos (2 ^ unit))
    → IsTrue r ↔ IsSomeAnd (double_cost bits) (λ c. c -ℤ a *ℤ pos (2 ^ unit) -ℤ b *ℤ pos (2 ^ unit) ≡ pos 0)
entry_exact bits unit shift a b m r other value i =
    exact_core (double_cost bits) (value_of bits) a b (pos (2 ^ unit)) (m *ℤ pos (2 ^ shift)) r (cost_is bits other) value i

-- the same of an entry rounded down
pub entry_rounded : (bits unit shift : ℕ) (a b m : ℤ) (r : Bool) → (bits ≡ INFINITY → ⊥) → m *ℤ pos (2 ^ shift) ≡ value_of bits
    → IsTrue r ↔ (rounded_down unit (m *ℤ pos (2 ^ shift)) ≡ (a +ℤ b) *ℤ pos (2 ^ unit))
    → IsTrue r ↔ IsSomeAnd (cost_read unit true (double_cost bits)) (λ c. c -ℤ a *ℤ pos (2 ^ unit) -ℤ b *ℤ pos (2 ^ unit) ≡ pos 0)
entry_rounded bits unit shift a b m r other value i =
    exact_core (cost_read unit true (double_cost bits)) (rounded_down unit (value_of bits)) a b (pos (2 ^ unit)) (rounded_down unit (m *ℤ pos (2 ^ shift))) r
    (ap (cost_read unit true) (cost_is bits other)) (ap (rounded_down unit) value) i

-- an entry that is read as a flag says
pub entry_read : (bits unit : ℕ) (a b : ℤ) (flag is_rounded r : Bool) → is_rounded ≡ flag
    → IsTrue r ↔ IsSomeAnd (cost_read unit flag (double_cost bits)) (λ c. c -ℤ a *ℤ pos (2 ^ unit) -ℤ b *ℤ pos (2 ^ unit) ≡ pos 0)
    → IsTrue r ↔ IsSomeAnd (cost_read unit is_rounded (double_cost bits)) (λ c. c -ℤ a *ℤ pos (2 ^ unit) -ℤ b *ℤ pos (2 ^ unit) ≡ pos 0)
entry_read bits unit a b flag is_rounded r e i =
    subst (λ f. IsTrue r ↔ IsSomeAnd (cost_read unit f (double_cost bits)) (λ c. c -ℤ a *ℤ pos (2 ^ unit) -ℤ b *ℤ pos (2 ^ unit) ≡ pos 0)) (sym e) i

pub to_pair : (o : Option ℤ) (unit : ℕ) (u v : List ℤ) (i j : ℕ)
    → IsSomeAnd o (λ c. c -ℤ at_place u i *ℤ pos (2 ^ unit) -ℤ at_place v j *ℤ pos (2 ^ unit) ≡ pos 0)
    → IsSome o × IfSome o (λ c. reduced_cost (in_units unit u) (in_units unit v) i j c ≡ pos 0)
to_pair None unit u v i j h = absurd h
to_pair (Some c) unit u v i j h = (refl, reduced_is unit u v i j c ∙ h)

pub from_pair : (o : Option ℤ) (unit : ℕ) (u v : List ℤ) (i j : ℕ)
    → IsSome o × IfSome o (λ c. reduced_cost (in_units unit u) (in_units unit v) i j c ≡ pos 0)
    → IsSomeAnd o (λ c. c -ℤ at_place u i *ℤ pos (2 ^ unit) -ℤ at_place v j *ℤ pos (2 ^ unit) ≡ pos 0)
from_pair None unit u v i j h = let some = h.0 in absurd (cc)
from_pair (Some c) unit u v i j h = sym (reduced_is unit u v i j c) ∙ h.1

-- ---- signs of prices

least_at : (z : ℤ) (k : ℕ) → z ≤ℤ pos 0 → (z *ℤ pos (2 ^ k)) ≤ℤ pos 0
least_at z k le = let up = scale_up z (pos 0) (2 ^ k) le in omega (arith, ints, up, zero-mul (pos (2 ^ k)))

least_back : (z : ℤ) (k : ℕ) → (z *ℤ pos (2 ^ k)) ≤ℤ pos 0 → z ≤ℤ pos 0
least_back z k le = scale_back z (pos 0) (2 ^ k) (power_above_zero k) (omega (arith, ints, le, zero-mul (pos (2 ^ k))))

zero_back : (z : ℤ) (k : ℕ) → z *ℤ pos (2 ^ k) ≡ pos 0 → z ≡ pos 0
zero_back z k e =
    let most = least_back z k (omega (arith, ints, e)) in
    let least = scale_back (pos 0) z (2 ^ k) (power_above_zero k) (omega (arith, ints, e, zero-mul (pos (2 ^ k)))) in
    omega (arith, ints, most, least)

pub priced_to : (unit : ℕ) (prices : List ℤ) (i : ℕ) (b : Bool) → IsPricedPlace (at_place prices i) b → IsPricedPlace (at_place (in_units unit prices) i) b
priced_to unit prices i b h =
    subst (λ z. IsPricedPlace z b) (sym (price_at unit prices i))
    (least_at (at_place prices i) unit h.0, (λ free. ap (λ z. z *ℤ pos (2 ^ unit)) (h.1 free) ∙ zero-mul (pos (2 ^ unit))))

pub priced_from : (unit : ℕ) (prices : List ℤ) (i : ℕ) (b : Bool) → IsPricedPlace (at_place (in_units unit prices) i) b → IsPricedPlace (at_place prices i) b
priced_from unit prices i b h =
    let k : IsPricedPlace (at_place prices i *ℤ pos (2 ^ unit)) b = subst (λ z. IsPricedPlace z b) (price_at unit prices i) h in
    (least_back (at_place prices i) unit k.0, (λ free. zero_back (at_place prices i) unit (k.1 free)))

-- ---- numbers on both sides negated

pub negated_order : (s m : ℤ) (P Q : ℕ) → (((pos 0 -ℤ s) *ℤ pos P) ≤ℤ ((pos 0 -ℤ m) *ℤ pos Q)) ↔ ((m *ℤ pos Q) ≤ℤ (s *ℤ pos P))
negated_order s m P Q =
    let left = sub-mul (pos 0) s (pos P) in
    let right = sub-mul (pos 0) m (pos Q) in
    let none = zero-mul (pos P) in
    let nothing = zero-mul (pos Q) in
    ((λ le. omega (arith, ints, le, left, right, none, nothing)), (λ le. omega (arith, ints, le, left, right, none, nothing)))

-- ---- rows of covers

pub covered_to : (t : DoubleTable) (i : ℕ) (columns : List Bool) (mark : Bool) → IsShaped t → i < t.rows → RowIsCovered (row_of t i) columns mark
    → IsRowCovered (double_costs t) i columns mark
covered_to t i columns mark shaped row h j b some =
    h j (omega (arith, b, row_length t i shaped row)) (subst (λ z. IsSome (double_cost z)) (sym (row_at t i j b)) some)

pub covered_from : (t : DoubleTable) (i : ℕ) (columns : List Bool) (mark : Bool) → IsShaped t → i < t.rows → IsRowCovered (double_costs t) i columns mark
    → RowIsCovered (row_of t i) columns mark
covered_from t i columns mark shaped row h j b some =
    let inside : j < t.columns = omega (arith, b, row_length t i shaped row) in
    h j inside (subst (λ z. IsSome (double_cost z)) (row_at t i j inside) some)
