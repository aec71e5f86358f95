use Rattle.std.proofs.Common.{◌≡◌, neg_ℤ, arith, pos, ◌<ℤ◌, ◌↔◌, ◌∙◌, rules, subst, sym, to_z, of_z}
use mir.Syntax.{w128}
use Rattle.std.proofs.lemmas.Int.{to_z-of_z}
use Rattle.mcf_basis.specs.Pivots.{IsEligible}
use Rattle.mcf_basis.specs.Violations.{violation}
use Rattle.mcf_basis.proofs.Offers.{offer_in_range, offer_read}
use Rattle.mcf_basis.proofs.basis.Basis.offered.Goals as goal

pub index-requires : goal.index-requires
index-requires c =
    let inside = c.self.inside in
    let h = offer_in_range _ c.args.self.now c.args.k c.place.result c.self.view_is c.self.invariant c.requires c.place.ensures in
    omega (arith, h, inside.offers.ok.0)

pub reduced-requires : goal.reduced-requires
reduced-requires c =
    let o = offer_read _ c.args.self.now c.args.k c.place.result c.index.result.now c.self.view_is c.self.invariant c.requires c.place.ensures c.index.ensures in
    o.can

pub returns-clause-eligible : goal.returns-clause-eligible
returns-clause-eligible c =
    let o = offer_read _ c.args.self.now c.args.k c.place.result c.index.result.now c.self.view_is c.self.invariant c.requires c.place.ensures c.index.ensures in
    let back : to_z w128 (of_z w128 c.reduced.result) ≡ c.reduced.result = search (rules, to_z-of_z) in
    subst (λ z. (z <ℤ pos 0) ↔ IsEligible c.args.self.now c.args.k) (sym (back ∙ c.reduced.ensures.value)) o.eligible

pub returns-clause-violation : goal.returns-clause-violation
returns-clause-violation c =
    let o = offer_read _ c.args.self.now c.args.k c.place.result c.index.result.now c.self.view_is c.self.invariant c.requires c.place.ensures c.index.ensures in
    let back : to_z w128 (of_z w128 c.reduced.result) ≡ c.reduced.result = search (rules, to_z-of_z) in
    subst (λ z. z <ℤ pos 0 → z ≡ neg_ℤ (pos (violation c.args.self.now c.args.k))) (sym (back ∙ c.reduced.ensures.value)) o.size
