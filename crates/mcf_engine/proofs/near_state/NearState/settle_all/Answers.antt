use Rattle.std.proofs.Common.{◌≡◌, [], ap, subst, sym, arith}
use Rattle.mcf_network.specs.NodeSets.{member_count}
use Rattle.mcf_engine.specs.Heaps.{Keyed, NoneWaits}
use Rattle.mcf_engine.specs.Private.Raisings.{IsPopped, IsRaising}
use Rattle.mcf_engine.proofs.RaisingSteps.{fewer, first_is_least, popped_is}
use Rattle.mcf_engine.proofs.near_state.NearState.settle_all.Goals as goal

pub settle_ties-requires-clause-popped : goal.settle_ties-requires-clause-popped
settle_ties-requires-clause-popped c =
    subst (λ x. IsPopped c.args.self.now x c.in-Some.w) (sym c.in-Some.ensures.taken)
    (popped_is c.args.self.now c.nodes.invariant.flow c.nodes.heap c.in-Some.w c.nodes.invariant
    (first_is_least c.nodes.heap c.in-Some.w c.in-Some.ensures.first))

pub nodes-smaller : goal.nodes-smaller
nodes-smaller c =
    let less = fewer c.args.self.now c.nodes.invariant.flow c.nodes.heap c.in-Some.w c.nodes.invariant
    (first_is_least c.nodes.heap c.in-Some.w c.in-Some.ensures.first) in
    let same = ap (λ (x : Keyed). member_count x.waiting) c.in-Some.ensures.taken in
    let no_more = c.settle_ties.ensures.fewer in
    omega (arith, less, same, no_more)

pub returns-clause-search : goal.returns-clause-search
returns-clause-search c =
    let same : c.pop.new.self ≡ c.nodes.heap = c.in_default.ensures.same in
    subst (λ x. IsRaising c.args.self.now x []) (sym same) c.nodes.invariant

pub returns-clause-over : goal.returns-clause-over
returns-clause-over c =
    let same : c.pop.new.self ≡ c.nodes.heap = c.in_default.ensures.same in
    let none : NoneWaits c.nodes.heap = c.in_default.ensures.none in
    subst (λ x. NoneWaits x) (sym same) none
