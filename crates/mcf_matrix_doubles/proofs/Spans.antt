-- How many places the bits of a number span.
use Rattle.std.proofs.Common.{◌≡◌, ℕ, zero, suc, ◌+◌, ◌-◌, ◌*◌, ◌/◌, ◌%◌, ◌^◌, ◌<◌, ◌≤◌, min, Bool, true, false, not, ◌&&◌, IsTrue, ◌↔◌, Option, Some, None, IfSome, List, length, get_or, ap, sym, ◌∙◌, subst, refl, arith, inl, inr, ℤ, pos, ◌≤ℤ◌}
use Rattle.std.proofs.Math.IntN.{◌*ℤ◌, pos-*ℤ-pos}
use Rattle.std.proofs.Math.Nat.{min-eq_left, min-eq_right, mod-eq_of_lt, mul-add-mod_self_right, mul_assoc, mul_comm}
use Rattle.std.proofs.Math.Pow.{pow_mono}
use Rattle.std.specs.Prelude.{unsigned_abs}
use Rattle.std.proofs.lemmas.Bool.{cases_lt}
use Rattle.std.proofs.lemmas.Int.{ints, unsigned_abs-mul}
use Rattle.std.proofs.lemmas.Nat.{mod-pow-add, pow-add, shl-shr}
use Rattle.mcf_matrix.specs.Costs.{Costs}
use Rattle.mcf_matrix_doubles.specs.declared.double.TheConstants.{INFINITY}
use Rattle.mcf_matrix_doubles.specs.Doubles.{double_cost, value_of}
use Rattle.mcf_matrix_doubles.specs.DoubleTables.{DoubleTable, IsShaped, bits_at}
use Rattle.mcf_matrix_doubles.specs.Spans.{AreMultiples, AreWithin, IsNarrow, IsWide}
use Rattle.mcf_matrix_doubles.proofs.BitRows.{row_at, row_length, row_of}
use Rattle.mcf_matrix_doubles.proofs.Covering.{cost_is}
use Rattle.mcf_matrix_doubles.proofs.Powers.{power_above_zero}

-- ---- multiples

times_power_rest : (a k : ℕ) → a * 2 ^ k % 2 ^ k ≡ 0
times_power_rest a k =
    let e : a * 2 ^ k + 0 ≡ a * 2 ^ k = omega arith in
    ap (λ n. n % 2 ^ k) (sym e) ∙ mul-add-mod_self_right a (2 ^ k) 0 ∙ mod-eq_of_lt (power_above_zero k)

zero_factor : (a p : ℕ) → 0 < p → a * p ≡ 0 → a ≡ 0
zero_factor zero p h e = refl
zero_factor (suc a) p h e = absurd (omega (arith, e, h))

-- what is left beyond a higher power is left beyond a lower one
lower_rest : (n low high : ℕ) → low ≤ high → n % 2 ^ high ≡ 0 → n % 2 ^ low ≡ 0
lower_rest n low high h e =
    let apart : high - low + low ≡ high = omega arith in
    let sum : n % 2 ^ (high - low + low) ≡ n / 2 ^ low % 2 ^ (high - low) * 2 ^ low + n % 2 ^ low = mod-pow-add n (high - low) low in
    omega (arith, sum, ap (λ k. n % 2 ^ k) apart, e)

-- a size times 2^shift is a multiple of 2^unit, below
coarse : (size shift unit : ℕ) → unit ≤ shift → size * 2 ^ shift % 2 ^ unit ≡ 0
coarse size shift unit h =
    let apart : shift - unit + unit ≡ shift = omega arith in
    let power : 2 ^ shift ≡ 2 ^ (shift - unit) * 2 ^ unit = ap (λ n. 2 ^ n) (sym apart) ∙ pow-add 2 (shift - unit) unit in
    let whole : size * 2 ^ shift ≡ size * 2 ^ (shift - unit) * 2 ^ unit = ap (λ n. size * n) power ∙ sym (mul_assoc size (2 ^ (shift - unit)) (2 ^ unit)) in
    ap (λ n. n % 2 ^ unit) whole ∙ times_power_rest (size * 2 ^ (shift - unit)) unit

-- and above, exactly if the size is one of what is left of the power
fine : (size shift unit : ℕ) → shift ≤ unit → (size % 2 ^ (unit - shift) ≡ 0) ↔ (size * 2 ^ shift % 2 ^ unit ≡ 0)
fine size shift unit h =
    let apart : unit - shift + shift ≡ unit = omega arith in
    let sum = mod-pow-add (size * 2 ^ shift) (unit - shift) shift in
    let same : size * 2 ^ shift % 2 ^ unit ≡ size % 2 ^ (unit - shift) * 2 ^ shift =
    ap (λ k. size * 2 ^ shift % 2 ^ k) (sym apart) ∙ sum ∙ ap (λ n. size * 2 ^ shift / 2 ^ shift % 2 ^ (unit - shift) * 2 ^ shift + n) (times_power_rest size shift)
    ∙ ap (λ n. n % 2 ^ (unit - shift) * 2 ^ shift + 0) (shl-shr size shift) ∙ omega arith in (
      (λ e. same ∙ ap (λ n. n * 2 ^ shift) e ∙ omega arith),
      (λ e. zero_factor (size % 2 ^ (unit - shift)) (2 ^ shift) (power_above_zero shift) (sym same ∙ e)),
    )

-- beyond the bits of a size, one more place changes nothing
far : (size places : ℕ) → size < 2 ^ 53 → 53 ≤ places → size % 2 ^ places ≡ size % 2 ^ 53
far size places small h =
    let more : 2 ^ 53 ≤ 2 ^ places = pow_mono h in
    let less : size < 2 ^ places = omega (arith, more) in
    mod-eq_of_lt less ∙ sym (mod-eq_of_lt small)

pub multiple_is : (size shift unit : ℕ) → size < 2 ^ 53 → (size % 2 ^ min (unit - shift) 53 ≡ 0) ↔ (size * 2 ^ shift % 2 ^ unit ≡ 0)
multiple_is size shift unit small =
    elim (cases_lt unit shift) [
      | inl less ↦
          let none : min (unit - shift) 53 ≡ 0 = omega arith in
          let one : size % 2 ^ min (unit - shift) 53 ≡ 0 = ap (λ n. size % 2 ^ n) none ∙ omega arith in
          ((λ e. coarse size shift unit (omega arith)), (λ e. one))
      | inr more ↦
          elim (cases_lt (unit - shift) 53) [
            | inl near ↦
                let le : unit - shift ≤ 53 = omega arith in
                let same : size % 2 ^ min (unit - shift) 53 ≡ size % 2 ^ (unit - shift) = ap (λ n. size % 2 ^ n) (min-eq_left le) in
                ((λ e. (fine size shift unit more).0 (sym same ∙ e)), (λ e. same ∙ (fine size shift unit more).1 e))
            | inr beyond ↦
                let same : size % 2 ^ min (unit - shift) 53 ≡ size % 2 ^ (unit - shift) =
                ap (λ n. size % 2 ^ n) (min-eq_right beyond) ∙ sym (far size (unit - shift) small beyond) in
                ((λ e. (fine size shift unit more).0 (sym same ∙ e)), (λ e. same ∙ (fine size shift unit more).1 e))
          ]
    ]

-- ---- entries

-- the size of a mantissa times a power
size_is : (m z : ℤ) (shift : ℕ) → m *ℤ pos (2 ^ shift) ≡ z → unsigned_abs z ≡ unsigned_abs m * 2 ^ shift
size_is m z shift e = ap unsigned_abs (sym e) ∙ unsigned_abs-mul m (pos (2 ^ shift))

-- what holds of an entry's cost holds of its value
of_value : (P : ℤ → Type 0) (bits : ℕ) (r : Bool) → (bits ≡ INFINITY → ⊥) → IsTrue r ↔ P (value_of bits) → IsTrue r ↔ IfSome (double_cost bits) P
of_value P bits r other i = subst (λ (o : Option ℤ). IsTrue r ↔ IfSome o P) (sym (cost_is bits other)) i

pub entry_is_multiple : (bits unit shift : ℕ) (m : ℤ) (r : Bool) → (bits ≡ INFINITY → ⊥) → m *ℤ pos (2 ^ shift) ≡ value_of bits → unsigned_abs m < 2 ^ 53
    → IsTrue r ↔ (unsigned_abs m % 2 ^ min (unit - shift) 53 ≡ 0) → IsTrue r ↔ IfSome (double_cost bits) (λ c. unsigned_abs c % 2 ^ unit ≡ 0)
entry_is_multiple bits unit shift m r other value small i =
    let size = size_is m (value_of bits) shift value in
    let exact = multiple_is (unsigned_abs m) shift unit small in
    of_value (λ c. unsigned_abs c % 2 ^ unit ≡ 0) bits r other (
      (λ t. ap (λ n. n % 2 ^ unit) size ∙ exact.0 (i.0 t)),
      (λ e. i.1 (exact.1 (ap (λ n. n % 2 ^ unit) (sym size) ∙ e))),
    )

-- a test that fails where a product reaches another
pub entry_is_within : (bits unit shift top : ℕ) (m : ℤ) (r : Bool) → (bits ≡ INFINITY → ⊥) → m *ℤ pos (2 ^ shift) ≡ value_of bits
    → IsTrue r ↔ ((pos (2 ^ top) *ℤ pos (2 ^ unit)) ≤ℤ (pos (unsigned_abs m) *ℤ pos (2 ^ shift)))
    → IsTrue (not r) ↔ IfSome (double_cost bits) (λ c. unsigned_abs c < 2 ^ (unit + top))
entry_is_within bits unit shift top m r other value i =
    let size = size_is m (value_of bits) shift value in
    let left = pos-*ℤ-pos (2 ^ top) (2 ^ unit) in
    let right = pos-*ℤ-pos (unsigned_abs m) (2 ^ shift) in
    let power : 2 ^ (unit + top) ≡ 2 ^ top * 2 ^ unit = pow-add 2 unit top ∙ mul_comm (2 ^ unit) (2 ^ top) in
    of_value (λ c. unsigned_abs c < 2 ^ (unit + top)) bits (not r) other
    (fails r (unsigned_abs (value_of bits)) (2 ^ (unit + top)) (
      (λ t. let le = i.0 t in omega (arith, ints, le, left, right, power, size)),
      (λ le. i.1 (omega (arith, ints, le, left, right, power, size))),
    ))
  where
    fails : (r : Bool) (n limit : ℕ) → IsTrue r ↔ (limit ≤ n) → IsTrue (not r) ↔ (n < limit)
    fails true n limit i = ((λ t. absurd (cc)), (λ less. let le = i.0 refl in absurd (omega (arith, le, less))))
    fails false n limit i =
        elim (cases_lt n limit) [
          | inl less ↦ ((λ t. less), (λ h. refl))
          | inr more ↦ let t = i.1 more in absurd (cc)
        ]

-- ---- matrices

if_some_along : (o : Option ℤ) (P Q : ℤ → Type 0) → ((c : ℤ) → P c → Q c) → IfSome o P → IfSome o Q
if_some_along None P Q f h = tt
if_some_along (Some c) P Q f h = f c h

-- costs that span more fit no narrow span
pub wide_is_not_narrow : (unit : ℕ) (m : Costs) → IsWide unit m → IsNarrow m → ⊥
wide_is_not_narrow unit m wide narrow =
    elim (cases_lt narrow.low unit) [
      | inl less ↦
          let most : narrow.low + 118 ≤ unit + 117 = omega arith in
          let power : 2 ^ (narrow.low + 118) ≤ 2 ^ (unit + 117) = pow_mono most in
          wide.greater (λ i j p. if_some_along (m.cost i j) _ _ (λ c h. let less : unsigned_abs c < 2 ^ (narrow.low + 118) = h in omega (arith, less, power)) (narrow.within i j p))
      | inr more ↦ wide.finer (λ i j p. if_some_along (m.cost i j) _ _ (λ c h. lower_rest (unsigned_abs c) unit narrow.low more h) (narrow.multiples i j p))
    ]

-- two tests of all pairs that both fail
pub wide_is : (unit : ℕ) (m : Costs) (multiples within : Bool) → IsTrue multiples ↔ AreMultiples unit m → IsTrue within ↔ AreWithin (unit + 117) m
    → IsTrue (not multiples && not within) ↔ IsWide unit m
wide_is unit m true within a b = ((λ t. absurd (cc)), (λ w. absurd (w.finer (a.0 refl))))
wide_is unit m false true a b = ((λ t. absurd (cc)), (λ w. absurd (w.greater (b.0 refl))))
wide_is unit m false false a b = (
  (λ t. record { finer = λ h. let f = a.1 h in absurd (cc); greater = λ h. let f = b.1 h in absurd (cc) }),
  (λ w. refl),
)

-- a test of each entry of a row of a table
pub row_is : (P : ℕ → Type 0) (t : DoubleTable) (i : ℕ) (row : List ℕ) (r : Bool) → IsShaped t → i < t.rows → row ≡ row_of t i
    → IsTrue r ↔ ((j : ℕ) → j < length row → P (get_or row j 0)) → IsTrue r ↔ ((j : ℕ) → j < t.columns → P (bits_at t i j))
row_is P t i row r shaped h e i' =
    let long : length row ≡ t.columns = ap length e ∙ row_length t i shaped h in
    let same : (j : ℕ) → j < t.columns → get_or row j 0 ≡ bits_at t i j = λ (j : ℕ) (b : j < t.columns). ap (λ xs. get_or xs j 0) e ∙ row_at t i j b in (
      (λ h' j b. subst P (same j b) (i'.0 h' j (omega (arith, b, long)))),
      (λ all. i'.1 (λ j b. let inside : j < t.columns = omega (arith, b, long) in subst P (sym (same j inside)) (all j inside))),
    )
