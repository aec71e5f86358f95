use Rattle.std.proofs.Common.{◌≡◌, ◌∙◌, refl, subst, rules, to_z, of_z}
use mir.Syntax.{w128}
use Rattle.std.proofs.lemmas.Int.{to_z-of_z}
use Rattle.mcf_engine.specs.Private.Shortlists.{HasChain}
use Rattle.mcf_engine.proofs.ChainScans.{chain_search}
use Rattle.mcf_engine.proofs.near_state.NearState.scan.Goals as goal

pub scan_chain-requires-clause-search : goal.scan_chain-requires-clause-search
scan_chain-requires-clause-search c rest has =
    let list = c.args.short.now in
    let b : to_z w128 (of_z w128 c.label_of-base.result) ≡ c.label_of-base.result = search (rules, to_z-of_z) in
    let q : to_z w128 (of_z w128 c.passing_cost-passed.result) ≡ c.passing_cost-passed.result = search (rules, to_z-of_z) in
    chain_search c.args.self.now c.args.heap.now list.passed.items list.heads.items list.entries.items c.args.w c.last_of-last.result
    (to_z w128 (of_z w128 c.label_of-base.result)) (to_z w128 (of_z w128 c.passing_cost-passed.result)) (c.requires.list (c.if-is_complete.ensures.whole refl)).1 c.requires.popped c.last_of-last.ensures (b ∙ c.label_of-base.ensures) (rw q c.passing_cost-passed.ensures)
    (c.if-is_complete.ensures.passed refl) rest (subst (λ es. HasChain c.args.self.now.state.now.net es c.args.w c.last_of-last.result rest) c.as_slice.ensures.value has)

pub scan_star-requires-clause-passed : goal.scan_star-requires-clause-passed
scan_star-requires-clause-passed c =
    let q : to_z w128 (of_z w128 c.passing_cost-passed.result) ≡ c.passing_cost-passed.result = search (rules, to_z-of_z) in
    rw q c.passing_cost-passed.ensures

pub last_of-last-requires : goal.last_of-last-requires
last_of-last-requires c = rw (c.requires.list (c.if-is_complete.ensures.whole refl)).1.chains.head_count c.requires.popped.last.is_node

pub scan_chain-requires-clause-chains : goal.scan_chain-requires-clause-chains
scan_chain-requires-clause-chains c =
    let chains = (c.requires.list (c.if-is_complete.ensures.whole refl)).1.chains in
    let first = chains.first c.args.w c.requires.popped.last.is_node in
    rw (c.as_slice.ensures.value, c.last_of-last.ensures) (record { low = first.low; leaves = first.leaves; arcs = chains.arcs; next = chains.next })
