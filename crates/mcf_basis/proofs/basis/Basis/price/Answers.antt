use Rattle.std.proofs.Common.{get_or, ap, ◌∙◌, arith, pos}
use Rattle.std.proofs.lemmas.Int.{ints}
use Rattle.mcf_basis.proofs.Views.{read_price}
use Rattle.mcf_basis.proofs.basis.Basis.price.Goals as goal

pub get-requires-2 : goal.get-requires-2
get-requires-2 c =
    let p = read_price _ c.args.self.now c.args.v c.self.view_is c.self.invariant c.requires.1 in
    rw c.get.ensures p.in_range

pub returns-clause-value : goal.returns-clause-value
returns-clause-value c =
    let p = read_price _ c.args.self.now c.args.v c.self.view_is c.self.invariant c.requires.1 in
    omega (arith, ints, c.get-2.ensures ∙ ap (λ i. get_or c.self.inside.table.prices i (pos 0)) c.get.ensures, p.value, p.small)

pub returns-clause-small : goal.returns-clause-small
returns-clause-small c =
    let p = read_price _ c.args.self.now c.args.v c.self.view_is c.self.invariant c.requires.1 in
    omega (arith, ints, c.get-2.ensures ∙ ap (λ i. get_or c.self.inside.table.prices i (pos 0)) c.get.ensures, p.value, p.small)
