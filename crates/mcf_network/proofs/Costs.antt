-- The greatest cost of the arcs of a net.
use Rattle.std.proofs.Common.{◌≡◌, ℕ, zero, suc, ◌+◌, ◌<◌, ◌≤◌, List, [], ◌∷◌, length, take, get_or, max, ap, ◌∙◌, arith}
use Rattle.std.specs.Prelude.{unsigned_abs}
use Rattle.std.specs.List.{All}
use Rattle.std.proofs.lemmas.Int.{ints}
use Rattle.mcf_flows.specs.declared.arc.Arc.{Arc}
use Rattle.mcf_flows.specs.Limits.{limits}
use Rattle.mcf_flows.specs.WellFormed.{IsUpTo}
use Rattle.mcf_flows.proofs.Bounds.{size_up_to, up_to_size}
use Rattle.mcf_network.specs.Nets.{IsNetArc, greatest_cost}
use Rattle.mcf_network.specs.Residual.{no_arc}

-- one arc more
pub greatest_next : (arcs : List Arc) (i : ℕ) (d : Arc) → i < length arcs
    → greatest_cost (take (i + 1) arcs) ≡ max (greatest_cost (take i arcs)) (unsigned_abs (get_or arcs i d).cost)
greatest_next [] i d h = absurd (omega arith)
greatest_next (a ∷ arcs) zero d h = omega arith
greatest_next (a ∷ arcs) (suc i) d h =
    let place : suc i + 1 ≡ suc (i + 1) = omega arith in
    ap (λ j. greatest_cost (take j (a ∷ arcs))) place ∙ omega (arith, greatest_next arcs i d (omega arith))

-- no arc costs more than the greatest cost
pub size_within : (arcs : List Arc) (i : ℕ) (d : Arc) → i < length arcs → unsigned_abs (get_or arcs i d).cost ≤ greatest_cost arcs
size_within [] i d h = absurd (omega arith)
size_within (a ∷ arcs) zero d h = omega arith
size_within (a ∷ arcs) (suc i) d h = let rest = size_within arcs i d (omega arith) in omega (arith, rest)

pub cost_within : (arcs : List Arc) → All (λ a. IsUpTo (greatest_cost arcs) a.cost) arcs
cost_within arcs i d h =
    let size = size_within arcs i d h in
    let cost = up_to_size (get_or arcs i d).cost in
    (omega (arith, ints, size, cost), omega (arith, ints, size, cost))

pub greatest_small : (arcs : List Arc) → All IsNetArc arcs → greatest_cost arcs ≤ limits.cost
greatest_small [] each = omega arith
greatest_small (a ∷ arcs) each =
    let first : unsigned_abs a.cost ≤ limits.cost = size_up_to limits.cost a.cost (each 0 no_arc (omega arith)).cost_small in
    let rest : greatest_cost arcs ≤ limits.cost = greatest_small arcs (λ i d l. each (suc i) d (omega (arith, l))) in
    omega (arith, first, rest)
