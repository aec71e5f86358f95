use Rattle.std.proofs.Common.{sym, arith, subst}
use Rattle.std.proofs.lemmas.Int.{ints}
use Rattle.mcf_flows.specs.Network.{IsArcNumber, IsNode, node_count}
use Rattle.mcf_basis.specs.Structures.{TreeStructure}
use Rattle.mcf_basis.proofs.Offers.{reduced_read}
use Rattle.mcf_basis.proofs.basis.Basis.reduced.Goals as goal

pub ends-src-requires : goal.ends-src-requires
ends-src-requires c = subst (λ (b : TreeStructure). IsArcNumber b.net c.args.k) (sym c.self.view_is) c.requires

pub price-requires : goal.price-requires
price-requires c =
    subst (λ (b : TreeStructure). IsNode (node_count b.net) c.ends-src.result.0) c.self.view_is c.ends-src.ensures.src_is_node

pub price-requires-2 : goal.price-requires-2
price-requires-2 c =
    subst (λ (b : TreeStructure). IsNode (node_count b.net) c.ends-src.result.1) c.self.view_is c.ends-src.ensures.dst_is_node

pub overflow_sub-result : goal.overflow_sub-result
overflow_sub-result c =
    let r = reduced_read _ _ c.args.k _ _ _ c.self.view_is c.self.invariant c.requires c.ends-src.ensures.src c.ends-src.ensures.dst c.cost.ensures.value in
    omega (arith, ints, r.cost, c.price.ensures.small)

pub overflow_add-result : goal.overflow_add-result
overflow_add-result c =
    let r = reduced_read _ _ c.args.k _ _ _ c.self.view_is c.self.invariant c.requires c.ends-src.ensures.src c.ends-src.ensures.dst c.cost.ensures.value in
    omega (arith, ints, r.cost, c.price.ensures.small, c.price-2.ensures.small)

pub returns-clause-value : goal.returns-clause-value
returns-clause-value c =
    let r = reduced_read _ _ c.args.k _ _ _ c.self.view_is c.self.invariant c.requires c.ends-src.ensures.src c.ends-src.ensures.dst c.cost.ensures.value in
    let second_value = c.price-2.ensures.value in
    omega (arith, ints, r.cost, c.price.ensures.small, c.price-2.ensures.small, c.price.ensures.value, second_value, r.value)

pub returns-clause-small : goal.returns-clause-small
returns-clause-small c =
    let r = reduced_read _ _ c.args.k _ _ _ c.self.view_is c.self.invariant c.requires c.ends-src.ensures.src c.ends-src.ensures.dst c.cost.ensures.value in
    omega (arith, ints, r.cost, c.price.ensures.small, c.price-2.ensures.small)
