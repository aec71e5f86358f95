-- An entry of doubles beside the prices of its row and its column.
use Rattle.std.proofs.Common.{◌≡◌, ℕ, ◌^◌, ◌==◌, if◌then◌else◌, Bool, true, false, IsTrue, ◌↔◌, IfSome, Option, Some, None, List, get_or, ap, sym, ◌∙◌, subst, refl, arith, ℤ, pos, ◌+ℤ◌, ◌-ℤ◌, ◌≤ℤ◌}
use Rattle.std.proofs.Math.IntN.{◌*ℤ◌}
use Rattle.std.proofs.lemmas.Bool.{ne_eqb}
use Rattle.std.proofs.lemmas.Int.{ints}
use Rattle.std.proofs.Math.ListN.{get_or-map}
use Rattle.mcf_flows.proofs.IntLaws.{add-mul, zero-mul}
use Rattle.mcf_matrix.specs.MatrixPrices.{reduced_cost}
use Rattle.mcf_matrix.specs.PlaceSums.{at_place}
use Rattle.mcf_matrix_doubles.proofs.Powers.{scale_up}
use Rattle.mcf_matrix_doubles.specs.declared.double.TheConstants.{INFINITY}
use Rattle.mcf_matrix_doubles.specs.DoublePrices.{in_units}
use Rattle.mcf_matrix_doubles.specs.Doubles.{double_cost, value_of}

pub cost_is : (bits : ℕ) → (bits ≡ INFINITY → ⊥) → double_cost bits ≡ Some (value_of bits)
cost_is bits other = rw (ne_eqb bits INFINITY other) refl

core : (o : Option ℤ) (z a b p m : ℤ) (r : Bool) → o ≡ Some z → m ≡ z → IsTrue r ↔ (((a +ℤ b) *ℤ p) ≤ℤ m) → IsTrue r ↔ IfSome o (λ c. pos 0 ≤ℤ (c -ℤ a *ℤ p -ℤ b *ℤ p))
core o z a b p m r e f i =
    subst (λ (q : Option ℤ). IsTrue r ↔ IfSome q (λ c. pos 0 ≤ℤ (c -ℤ a *ℤ p -ℤ b *ℤ p))) (sym e)
    ((λ t. let le = i.0 t in omega (arith, ints, le, f, add-mul a b p)), (λ h. i.1 (omega (arith, ints, h, f, add-mul a b p))))

pub covers_exact : (bits unit shift : ℕ) (a b m : ℤ) (r : Bool) → (bits ≡ INFINITY → ⊥) → m *ℤ pos (2 ^ shift) ≡ value_of bits
    → IsTrue r ↔ (((a +ℤ b) *ℤ pos (2 ^ unit)) ≤ℤ (m *ℤ pos (2 ^ shift))) → IsTrue r ↔ IfSome (double_cost bits) (λ c. pos 0 ≤ℤ (c -ℤ a *ℤ pos (2 ^ unit) -ℤ b *ℤ pos (2 ^ unit)))
covers_exact bits unit shift a b m r other value i =
    core (double_cost bits) (value_of bits) a b (pos (2 ^ unit)) (m *ℤ pos (2 ^ shift)) r (cost_is bits other) value i

-- a price in units, read
pub price_at : (unit : ℕ) (prices : List ℤ) (i : ℕ) → at_place (in_units unit prices) i ≡ at_place prices i *ℤ pos (2 ^ unit)
price_at unit prices i =
    ap (get_or (in_units unit prices) i) (sym (zero-mul (pos (2 ^ unit)))) ∙ get_or-map (λ z. z *ℤ pos (2 ^ unit)) prices i (pos 0)

-- the same of a reduced cost
pub reduced_is : (unit : ℕ) (u v : List ℤ) (i j : ℕ) (c : ℤ)
    → reduced_cost (in_units unit u) (in_units unit v) i j c ≡ c -ℤ at_place u i *ℤ pos (2 ^ unit) -ℤ at_place v j *ℤ pos (2 ^ unit)
reduced_is unit u v i j c =
    ap (λ z. c -ℤ z -ℤ at_place (in_units unit v) j) (price_at unit u i) ∙ ap (λ z. c -ℤ at_place u i *ℤ pos (2 ^ unit) -ℤ z) (price_at unit v j)

if_some_along : (o : Option ℤ) (f g : ℤ → ℤ) → ((c : ℤ) → f c ≡ g c) → IfSome o (λ c. pos 0 ≤ℤ f c) → IfSome o (λ c. pos 0 ≤ℤ g c)
if_some_along None f g e h = tt
if_some_along (Some c) f g e h = subst (λ z. pos 0 ≤ℤ z) (e c) h

pub to_reduced : (bits unit : ℕ) (u v : List ℤ) (i j : ℕ)
    → IfSome (double_cost bits) (λ c. pos 0 ≤ℤ (c -ℤ at_place u i *ℤ pos (2 ^ unit) -ℤ at_place v j *ℤ pos (2 ^ unit)))
    → IfSome (double_cost bits) (λ c. pos 0 ≤ℤ reduced_cost (in_units unit u) (in_units unit v) i j c)
to_reduced bits unit u v i j h =
    if_some_along (double_cost bits) (λ c. c -ℤ at_place u i *ℤ pos (2 ^ unit) -ℤ at_place v j *ℤ pos (2 ^ unit))
    (reduced_cost (in_units unit u) (in_units unit v) i j) (λ c. sym (reduced_is unit u v i j c)) h

pub from_reduced : (bits unit : ℕ) (u v : List ℤ) (i j : ℕ)
    → IfSome (double_cost bits) (λ c. pos 0 ≤ℤ reduced_cost (in_units unit u) (in_units unit v) i j c)
    → IfSome (double_cost bits) (λ c. pos 0 ≤ℤ (c -ℤ at_place u i *ℤ pos (2 ^ unit) -ℤ at_place v j *ℤ pos (2 ^ unit)))
from_reduced bits unit u v i j h =
    if_some_along (double_cost bits) (reduced_cost (in_units unit u) (in_units unit v) i j)
    (λ c. c -ℤ at_place u i *ℤ pos (2 ^ unit) -ℤ at_place v j *ℤ pos (2 ^ unit)) (λ c. reduced_is unit u v i j c) h

either : (t : Bool) (z : ℤ) (P : ℤ → Type 0) → P z → IfSome (if t then None else Some z) P
either true z P p = tt
either false z P p = p

-- an entry that is at least a price and a bound of others
pub covers_above : (bits unit : ℕ) (a b most : ℤ) → b ≤ℤ most → ((a +ℤ most) *ℤ pos (2 ^ unit)) ≤ℤ value_of bits
    → IfSome (double_cost bits) (λ c. pos 0 ≤ℤ (c -ℤ a *ℤ pos (2 ^ unit) -ℤ b *ℤ pos (2 ^ unit)))
covers_above bits unit a b most le h =
    let product = add-mul a most (pos (2 ^ unit)) in
    let up = scale_up b most (2 ^ unit) le in
    either (bits == INFINITY) (value_of bits) (λ c. pos 0 ≤ℤ (c -ℤ a *ℤ pos (2 ^ unit) -ℤ b *ℤ pos (2 ^ unit))) (omega (arith, ints, h, product, up))
