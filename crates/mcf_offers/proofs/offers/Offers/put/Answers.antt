use Rattle.std.proofs.Common.{◌<◌, ◌-◌, ◌∷◌, ◌++◌, arith, heap_items, length, rules, subst, sym}
use Rattle.std.proofs.lemmas.List.{length-append}
use Rattle.std.specs.Prelude.{IfSome, ◌≤ℤ◌}
use Rattle.std.specs.BinaryHeap.{heap_capacity, heap_len}
use Rattle.std.specs.List.Sorted.{IsPermutation}
use Rattle.std.specs.Slice.{IsGetResult}
use Rattle.std.proofs.lemmas.Bool.{MatchBool-at_true}
use Rattle.mcf_offers.specs.Private.Stacking.{IsStack}
use Rattle.mcf_offers.proofs.Stacks.{no_farther, on_top, put_far, put_near}
use Rattle.mcf_offers.proofs.offers.Offers.put.Goals as goal

pub invariant_of-self : goal.invariant_of-self
invariant_of-self g c =
    let near = c.self.inside.near.items in
    let last = subst (λ xs. IsGetResult xs 0 (length xs - 1) c.last.result) c.deref.ensures.value c.last.ensures.item in
    let before : IfSome c.last.result (λ o. c.args.offer.dist ≤ℤ o.now.dist) =
    MatchBool-at_true _ _ c.if-comes_before.true c.comes_before.ensures in
    let stack = on_top near c.args.offer c.self.invariant.0 (no_farther near c.args.offer.dist c.last.result c.self.invariant.0 last before) in
    (subst IsStack (sym c.push_reserved.ensures.items) stack, c.self.invariant.1)

pub returns-then-len-capacity-clause-items : goal.returns-then-len-capacity-clause-items
returns-then-len-capacity-clause-items g c =
    let near = c.self.inside.near.items in
    let rest = heap_items c.self.inside.heap in
    subst (λ q. IsPermutation (c.args.offer ∷ q.items) (c.push_reserved.new.self.items ++ rest)) c.self.view_is
    (rw c.push_reserved.ensures.items (put_near near rest c.args.offer))

pub returns-else-comes_before-clause-items : goal.returns-else-comes_before-clause-items
returns-else-comes_before-clause-items g c =
    let near = c.self.inside.near.items in
    let rest = heap_items c.self.inside.heap in
    let fits : length (near ++ rest) < heap_capacity c.self.inside.heap = subst (λ q. length q.items < q.room) (sym c.self.view_is) c.requires in
    let both = length-append near rest in
    let low : heap_len c.self.inside.heap < heap_capacity c.self.inside.heap = omega (arith, both, fits) in
    let ok = c.push.ensures.succeeds low in
    let put : IsPermutation (c.args.offer ∷ rest) (heap_items c.push.new.self) = search rules in
    subst (λ q. IsPermutation (c.args.offer ∷ q.items) (near ++ heap_items c.push.new.self)) c.self.view_is
    (put_far near rest (heap_items c.push.new.self) c.args.offer put)
