-- A search after an update of all prices is one from before it.
use Rattle.std.proofs.Common.{ℕ, ℤ, Bool, List, subst, rules}
use Rattle.mcf_network.specs.States.{Pseudoflow}
use Rattle.mcf_matching.specs.declared.extended.Extended.{Extended}
use Rattle.mcf_matching.specs.declared.extended.Extended.TheVariants.{Matched, Blocked}
use Rattle.mcf_matching.specs.Extending.{Assigned, IsExtension}
use Rattle.mcf_matching.specs.Private.Updating.{IsRepriced}

-- what one search does is said of no price
with_prices : (m : Assigned) (y : List ℤ) (l : List ℕ) (row : ℕ) (found : Extended) (n : Assigned)
    → IsExtension (record { flow = m.flow; prices = y; settled = l; reached = m.reached; searches = m.searches }) row found n → IsExtension m row found n
with_prices m y l row Matched n x = search rules
with_prices m y l row Blocked n x = search rules

pub extended_repriced : (m p n : Assigned) (row : ℕ) (found : Extended) → IsRepriced m p → IsExtension p row found n → IsExtension m row found n
extended_repriced m p n row found same x =
    with_prices m p.prices p.settled row found n
    (subst (λ (s : Pseudoflow). IsExtension (record { flow = s; prices = p.prices; settled = p.settled; reached = m.reached; searches = m.searches }) row found n)
    same.flow
    (subst (λ (t : List Bool). IsExtension (record { flow = p.flow; prices = p.prices; settled = p.settled; reached = t; searches = m.searches }) row found n)
    same.reached
    (subst (λ (k : ℕ). IsExtension (record { flow = p.flow; prices = p.prices; settled = p.settled; reached = p.reached; searches = k }) row found n)
    same.searches x)))
