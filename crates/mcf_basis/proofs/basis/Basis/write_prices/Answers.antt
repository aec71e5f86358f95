use Rattle.std.proofs.Common.{arith, length-drop, sym, subst, ◌∙◌}
use Rattle.std.specs.List.{All}
use Rattle.mcf_flows.specs.WellFormed.{IsUpTo}
use Rattle.mcf_basis.proofs.Endings.{read_prices}
use Rattle.mcf_basis.proofs.basis.Basis.write_prices.Goals as goal
use Rattle.mcf_basis.specs.Structures.{price_limit}

pub write_nodes-requires : goal.write_nodes-requires
write_nodes-requires c =
    let p = read_prices _ c.args.self.now c.self.view_is c.self.invariant in
    omega (arith, p.some, p.count, length-drop 1 c.self.inside.table.prices, c.requires)

pub returns-clause-value : goal.returns-clause-value
returns-clause-value c =
    let p = read_prices _ c.args.self.now c.self.view_is c.self.invariant in
    c.write_nodes.ensures ∙ p.value

pub returns-clause-small : goal.returns-clause-small
returns-clause-small c =
    let p = read_prices _ c.args.self.now c.self.view_is c.self.invariant in
    subst (All (IsUpTo price_limit)) (sym (c.write_nodes.ensures ∙ p.value)) p.small
