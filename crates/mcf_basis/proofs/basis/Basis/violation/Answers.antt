use Rattle.std.proofs.Common.{◌≡◌, neg_ℤ, ℕ, zero, suc, ap, ◌∙◌, pos, refl, rules, ◌<ℤ◌, to_z, of_z}
use mir.Syntax.{w128}
use Rattle.std.proofs.lemmas.Int.{to_z-of_z}
use Rattle.std.specs.Prelude.{unsigned_abs}
use Rattle.mcf_basis.proofs.basis.Basis.violation.Goals as goal

size_of_negative : (n : ℕ) → unsigned_abs (neg_ℤ (pos n)) ≡ n
size_of_negative zero = refl
size_of_negative (suc n) = refl

pub returns-clause-value : goal.returns-clause-value
returns-clause-value c =
    let below : c.offered.result <ℤ pos 0 = c.offered.ensures.eligible.1 c.requires in
    let back : to_z w128 (of_z w128 c.offered.result) ≡ c.offered.result = search (rules, to_z-of_z) in
    c.unsigned_abs.ensures.value ∙ ap unsigned_abs (back ∙ c.offered.ensures.violation below) ∙ size_of_negative _
