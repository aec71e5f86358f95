use Rattle.std.proofs.Common.{◌∷◌, ◌++◌, ◌-◌, heap_items, length, subst}
use Rattle.std.specs.Prelude.{IfSome, IsSome, ◌≤ℤ◌}
use Rattle.std.specs.List.Sorted.{IsPermutation}
use Rattle.std.specs.Slice.{IsGetResult}
use Rattle.std.proofs.lemmas.Bool.{MatchBool-at_false, MatchBool-at_true}
use Rattle.std.proofs.lemmas.Option.{IfSome_then}
use Rattle.mcf_offers.proofs.Stacks.{far_alone, far_is_least, first_is_least, near_is_least, taken_far, taken_near}
use Rattle.mcf_offers.proofs.offers.Offers.take.Goals as goal

pub returns-in_default-clause-items : goal.returns-in_default-clause-items
returns-in_default-clause-items g c =
    let near = c.self.inside.near.items in
    let rest = heap_items c.self.inside.heap in
    let after = heap_items c.pop.new.self in
    subst (λ q. IfSome c.pop.result (λ o. IsPermutation q.items (o ∷ (near ++ after)))) c.self.view_is
    (taken_far near rest after c.pop.result c.pop.ensures.permutation)

pub returns-in_default-clause-least : goal.returns-in_default-clause-least
returns-in_default-clause-least g c =
    let near = c.self.inside.near.items in
    let after = heap_items c.pop.new.self in
    let read = subst (λ xs. IsGetResult xs 0 (length xs - 1) c.last.result) c.deref.ensures.value c.last.ensures.item in
    let last = subst (IsGetResult near 0 (length near - 1)) c.in_default.is read in
    let least = IfSome_then c.pop.result c.pop.ensures.below_top (λ o g. first_is_least o after (g c.self.invariant.1)) in
    far_alone near after c.pop.result c.self.invariant.0 last least

pub returns-then-comes_before-clause-items : goal.returns-then-comes_before-clause-items
returns-then-comes_before-clause-items g c =
    let near = c.self.inside.near.items in
    let rest = heap_items c.self.inside.heap in
    let after = c.pop-then-comes_before.new.self.items in
    subst (λ q. IfSome c.pop-then-comes_before.result (λ o. IsPermutation q.items (o ∷ (after ++ rest)))) c.self.view_is
    (taken_near near rest after c.pop-then-comes_before.result c.pop-then-comes_before.ensures.items)

pub returns-then-comes_before-clause-least : goal.returns-then-comes_before-clause-least
returns-then-comes_before-clause-least g c =
    let near = c.self.inside.near.items in
    let rest = heap_items c.self.inside.heap in
    let after = c.pop-then-comes_before.new.self.items in
    let read = subst (λ xs. IsGetResult xs 0 (length xs - 1) c.last.result) c.deref.ensures.value c.last.ensures.item in
    let last = subst (IsGetResult near 0 (length near - 1)) c.in-Some.is read in
    let least = IfSome_then c.peek.result c.peek.ensures.greatest (λ o g. first_is_least o.now rest (g c.self.invariant.1)) in
    let before : IfSome c.peek.result (λ o. c.in-Some.top.now.dist ≤ℤ o.now.dist) =
    MatchBool-at_true _ _ c.if-comes_before.true c.comes_before.ensures in
    near_is_least near rest after c.in-Some.top c.self.invariant.0 last c.peek.result c.peek.ensures.item c.pop-then-comes_before.result
    c.pop-then-comes_before.ensures.items least before

pub returns-else-comes_before-clause-items : goal.returns-else-comes_before-clause-items
returns-else-comes_before-clause-items g c =
    let near = c.self.inside.near.items in
    let rest = heap_items c.self.inside.heap in
    let after = heap_items c.pop-else-comes_before.new.self in
    subst (λ q. IfSome c.pop-else-comes_before.result (λ o. IsPermutation q.items (o ∷ (near ++ after)))) c.self.view_is
    (taken_far near rest after c.pop-else-comes_before.result c.pop-else-comes_before.ensures.permutation)

pub returns-else-comes_before-clause-least : goal.returns-else-comes_before-clause-least
returns-else-comes_before-clause-least g c =
    let near = c.self.inside.near.items in
    let rest = heap_items c.self.inside.heap in
    let after = heap_items c.pop-else-comes_before.new.self in
    let read = subst (λ xs. IsGetResult xs 0 (length xs - 1) c.last.result) c.deref.ensures.value c.last.ensures.item in
    let last = subst (IsGetResult near 0 (length near - 1)) c.in-Some.is read in
    let before : IsSome c.peek.result × IfSome c.peek.result (λ o. o.now.dist ≤ℤ c.in-Some.top.now.dist) =
    MatchBool-at_false _ _ c.if-comes_before.false c.comes_before.ensures in
    let least = IfSome_then c.pop-else-comes_before.result c.pop-else-comes_before.ensures.below_top (λ o g. first_is_least o after (g c.self.invariant.1)) in
    far_is_least near rest after c.in-Some.top c.self.invariant.0 last c.peek.result c.peek.ensures.item c.pop-else-comes_before.result before.0 before.1
    c.pop-else-comes_before.ensures.top least
