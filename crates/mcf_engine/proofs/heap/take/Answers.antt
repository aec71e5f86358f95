use Rattle.std.proofs.Common.{◌-◌, ◌∙◌, heap_items, length, subst, sym}
use Rattle.std.specs.Slice.{IsGetResult}
use Rattle.std.proofs.lemmas.Option.{IfSome_then}
use Rattle.mcf_engine.proofs.Queues.{last_first, taken_heap, taken_order, top_first}
use Rattle.mcf_engine.proofs.heap.take.Goals as goal

pub returns-then-lt-clause-taken : goal.returns-then-lt-clause-taken
returns-then-lt-clause-taken c = taken_heap c.args.order.now.items _ _ c.pop.result c.pop.ensures.permutation

pub returns-then-lt-clause-first : goal.returns-then-lt-clause-first
returns-then-lt-clause-first c =
    let last = subst (λ xs. IsGetResult xs 0 (length xs - 1) c.last.result) c.deref.ensures.value c.last.ensures.item in
    let bound = IfSome_then c.pop.result c.pop.ensures.below_top (λ e b. b c.requires.ordered.1) in
    top_first c.args.order.now.items (heap_items c.args.entries.now) _ c.last.result c.peek.result c.pop.result c.requires.ordered.0 last c.peek.ensures.item (sym c.lt.ensures ∙ c.if-lt.true)
    c.pop.ensures.top bound

pub returns-else-lt-clause-taken : goal.returns-else-lt-clause-taken
returns-else-lt-clause-taken c = taken_order _ _ _ c.pop-else-lt.result c.pop-else-lt.ensures.items

pub returns-else-lt-clause-first : goal.returns-else-lt-clause-first
returns-else-lt-clause-first c =
    let last = subst (λ xs. IsGetResult xs 0 (length xs - 1) c.last.result) c.deref.ensures.value c.last.ensures.item in
    let bound = IfSome_then c.peek.result c.peek.ensures.greatest (λ b g. g c.requires.ordered.1) in
    last_first c.args.order.now.items _ (heap_items c.args.entries.now) c.last.result c.peek.result c.pop-else-lt.result c.requires.ordered.0 last c.peek.ensures.item
    (sym c.lt.ensures ∙ c.if-lt.false) bound c.pop-else-lt.ensures.items
