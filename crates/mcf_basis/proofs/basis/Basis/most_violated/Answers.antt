use Rattle.std.proofs.Common.{◌+◌, ◌≤◌, ap, arith, length, subst}
use Rattle.mcf_basis.specs.Structures.{TreeStructure}
use Rattle.mcf_basis.specs.Violations.{HasNoneOf, IsFrom, IsMostViolated}
use Rattle.mcf_basis.proofs.MostViolated.{can_compare_in, most_violated_none, most_violated_some}
use Rattle.mcf_basis.proofs.basis.Basis.most_violated.Goals as goal

pub least_offer-requires-clause-compare : goal.least_offer-requires-clause-compare
least_offer-requires-clause-compare c = rw c.deref.ensures.value (can_compare_in _ c.self.invariant)

pub returns-in_err-place-clause-value : goal.returns-in_err-place-clause-value
returns-in_err-place-clause-value c =
    let arcs = ap (λ (b : TreeStructure). length b.net.arcs) c.self.view_is in
    let high : c.args.end ≤ length c.self.inside.net.now.arcs + 1 = omega (arith, arcs, c.requires.high) in
    let none = rw c.deref.ensures.value at c.in_err-place.ensures in
    rw c.from_residual.ensures (subst (λ b. HasNoneOf b (IsFrom c.args.first c.args.end)) c.self.view_is
    (most_violated_none _ c.self.invariant c.args.first c.args.end c.requires.low high none))

pub returns-clause-value : goal.returns-clause-value
returns-clause-value c =
    let arcs = ap (λ (b : TreeStructure). length b.net.arcs) c.self.view_is in
    let high : c.args.end ≤ length c.self.inside.net.now.arcs + 1 = omega (arith, arcs, c.requires.high) in
    let k = c.in_ok-place.place in
    let found = rw c.deref.ensures.value at c.in_ok-place.ensures in
    rw c.at.ensures (subst (λ b. IsMostViolated b (IsFrom c.args.first c.args.end) (k + 1)) c.self.view_is
    (most_violated_some _ c.self.invariant c.args.first c.args.end c.requires.low high k found))
