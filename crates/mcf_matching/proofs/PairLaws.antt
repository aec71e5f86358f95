-- Rows and columns of an assignment net.
use Rattle.std.proofs.Common.{◌≡◌, ◌≢◌, ℕ, ◌-◌, ℤ, pos, ◌≤ℤ◌, refl, sym, ap, subst, arith, ◌⊎◌, inl, inr}
use Rattle.std.proofs.lemmas.Int.{ints, by_lt_z}
use Rattle.mcf_flows.specs.Assignment.{IsAssignment, IsPairing, OnAssignment}
use Rattle.mcf_flows.specs.declared.problem.Problem.TheVariants.{Asn}
use Rattle.mcf_flows.specs.Network.{Network, IsArcNumber, at_node}
use Rattle.mcf_network.specs.Nets.{IsNet}
use Rattle.mcf_network.specs.Residual.{arc_at, no_arc}
use Rattle.mcf_network.specs.States.{Pseudoflow, amount_at}
use Rattle.mcf_network.proofs.ArcLaws.{ends_at, amount_of}
use Rattle.mcf_matching.specs.Extending.{IsMatched}
use Rattle.mcf_matching.specs.Matchings.{IsColumn, IsMatchedColumn, IsMatchedRow, IsPair, IsPartialMatching, IsRow, column_of, row_of}

pub assignment_of : (g : Network) → IsNet g → g.problem ≡ Asn → IsAssignment g
assignment_of g ok asn = subst (λ p. OnAssignment p (IsAssignment g)) asn ok.assignment

pub pairing_at : (s : Pseudoflow) (k : ℕ) → IsPartialMatching s → IsArcNumber s.net k → IsPairing s.net.supplies (arc_at s.net k)
pairing_at s k ok h = (assignment_of s.net ok.flow.of_net ok.problem).each_arc (k - 1) no_arc (omega arith)

pub row_is : (s : Pseudoflow) (k : ℕ) → IsPartialMatching s → IsArcNumber s.net k → IsRow s (row_of s k)
row_is s k ok h = ((ends_at s.net k ok.flow.of_net h).src_is_node, (pairing_at s k ok h).from_row)

pub column_is : (s : Pseudoflow) (k : ℕ) → IsPartialMatching s → IsArcNumber s.net k → IsColumn s (column_of s k)
column_is s k ok h = ((ends_at s.net k ok.flow.of_net h).dst_is_node, (pairing_at s k ok h).to_column)

-- no row is a column
pub row_column : (s : Pseudoflow) (u v : ℕ) → IsRow s u → IsColumn s v → u ≢ v
row_column s u v r c e =
    let one = r.1 in
    let less = c.1 in
    let same = ap (at_node s.net.supplies) e in
    omega (arith, ints, one, less, same)

-- a row is an end of an arc as its row, and a column as its column
pub row_matched : (s : Pseudoflow) (v : ℕ) → IsPartialMatching s → IsRow s v → IsMatched s v → IsMatchedRow s v
row_matched s v ok row (k, p, inl e) = (k, p, e)
row_matched s v ok row (k, p, inr e) = absurd (row_column s v (column_of s k) row (column_is s k ok p.arc) (sym e))

pub column_matched : (s : Pseudoflow) (v : ℕ) → IsPartialMatching s → IsColumn s v → IsMatched s v → IsMatchedColumn s v
column_matched s v ok column (k, p, inl e) = absurd (row_column s (row_of s k) v (row_is s k ok p.arc) column e)
column_matched s v ok column (k, p, inr e) = (k, p, e)

zero_or_one : (x : ℤ) → pos 0 ≤ℤ x → x ≤ℤ pos 1 → (x ≡ pos 0) ⊎ (x ≡ pos 1)
zero_or_one x low high = by_lt_z (pos 0) x (λ h. inr (omega (arith, ints, h, high))) (λ h. inl (omega (arith, ints, h, low)))

-- an arc carries 0 or 1
pub amount_is : (s : Pseudoflow) (k : ℕ) → IsPartialMatching s → IsArcNumber s.net k → (amount_at s k ≡ pos 0) ⊎ IsPair s k
amount_is s k ok h =
    let a = amount_of s k ok.flow h in
    let low = a.low in
    let high = a.high in
    let cap = (pairing_at s k ok h).cap_is in
    elim (zero_or_one (amount_at s k) low (omega (arith, ints, high, cap))) [
      | inl e ↦ inl e
      | inr e ↦ inr (record { arc = h; one = e })
    ]

-- what carries nothing, since its column is not matched
pub free_zero : (s : Pseudoflow) (k : ℕ) → IsPartialMatching s → IsArcNumber s.net k → ¬ IsMatchedColumn s (column_of s k) → amount_at s k ≡ pos 0
free_zero s k ok arc free =
    elim (amount_is s k ok arc) [
      | inl e ↦ e
      | inr p ↦ absurd (free (k, p, refl))
    ]
