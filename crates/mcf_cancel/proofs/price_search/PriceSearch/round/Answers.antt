use Rattle.std.proofs.Common.{ℕ, List, arith, length, ap}
use Rattle.std.proofs.lemmas.Int.{ints}
use Rattle.mcf_cancel.specs.Private.Labels.{round_depth}
use Rattle.mcf_cancel.proofs.Rounding.{round_start, round_next, round_end, few_nodes}
use Rattle.mcf_cancel.proofs.price_search.PriceSearch.round.Goals as goal

pub nodes-init : goal.nodes-init
nodes-init c =
    round_start c.args.self.now c.args.fallen.now c.args.waiting.now c.requires.valid c.requires.queue c.requires.handled

pub relax_entering-requires-clause-floor : goal.relax_entering-requires-clause-floor
relax_entering-requires-clause-floor c v h =
    let deep = c.nodes.invariant.progress.floor round_depth c.requires.floor v h in
    let few = few_nodes c.args.waiting.now c.nodes-w-items.ensures.valid in
    let end = c.nodes-test.true in
    let items = ap (λ (xs : List ℕ). length xs) c.nodes-w-items.ensures.value in
    omega (arith, ints, deep, few, end, items)

pub nodes-preserved : goal.nodes-preserved
nodes-preserved c =
    let items = c.nodes-w-items.ensures.value in
    round_next c.args.self.now c.nodes.self c.relax_entering.new.self c.args.fallen.now c.nodes.fallen c.relax_entering.new.fallen c.args.waiting.now.nodes
    c.nodes.w-index c.w-item.result c.nodes.invariant (rw items at c.nodes-test.true)
    (rw items at c.w-item.is) c.in_ok-relax_entering.ensures.progress c.in_ok-relax_entering.ensures.here c.in_ok-relax_entering.ensures.still

pub returns-clause-progress : goal.returns-clause-progress
returns-clause-progress c =
    let items = c.nodes-w-items.ensures.value in
    let few = few_nodes c.args.waiting.now c.nodes-w-items.ensures.valid in
    let end = c.nodes.auto.w-index-end in
    let count = ap (λ (xs : List ℕ). length xs) items in
    (round_end c.args.self.now c.nodes.self c.args.fallen.now c.nodes.fallen c.args.waiting.now.nodes c.nodes.w-index (rw items at c.nodes-test.false)
    (omega (arith, few, end, count)) c.nodes.invariant).0

pub returns-clause-handled : goal.returns-clause-handled
returns-clause-handled c =
    let items = c.nodes-w-items.ensures.value in
    let few = few_nodes c.args.waiting.now c.nodes-w-items.ensures.valid in
    let end = c.nodes.auto.w-index-end in
    let count = ap (λ (xs : List ℕ). length xs) items in
    (round_end c.args.self.now c.nodes.self c.args.fallen.now c.nodes.fallen c.args.waiting.now.nodes c.nodes.w-index (rw items at c.nodes-test.false)
    (omega (arith, few, end, count)) c.nodes.invariant).1
