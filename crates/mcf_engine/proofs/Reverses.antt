-- Residual arcs the other way.
use Rattle.std.proofs.Common.{◌≡◌, ℕ, Bool, true, false, refl, ap, ◌∙◌}
use Rattle.mcf_network.specs.declared.rid.Rid.{Rid}
use Rattle.mcf_engine.specs.Respecting.{reverse}

reverse_twice : (k : ℕ) (b : Bool) → reverse (reverse (record { arc = k; back = b })) ≡ record { arc = k; back = b }
reverse_twice k true = refl
reverse_twice k false = refl

-- the next of the list, the other way
pub reversed : (q r : Rid) → q ≡ reverse r → reverse q ≡ r
reversed q r e = ap reverse e ∙ reverse_twice r.arc r.back
