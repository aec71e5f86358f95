use Rattle.std.proofs.Common.{◌-◌, length, ap, rules, ◌≡◌, ◌∙◌, to_z, of_z, None}
use Rattle.std.specs.Prelude.{reverse}
use mir.Syntax.{w128}
use Rattle.std.proofs.lemmas.Int.{to_z-of_z}
use Rattle.std.proofs.lemmas.List.{get_or_default, reverse-append}
use Rattle.mcf_network.specs.States.{room_of, surplus_at}
use Rattle.mcf_feas.specs.declared.path_search.Visit.{Visit}
use Rattle.mcf_feas.specs.Private.Searching.{node_at}
use Rattle.mcf_feas.proofs.Traces.{lesser_read, reached_none, reached_some, trace_end, trace_step}
use Rattle.mcf_feas.proofs.path_search.trace.Goals as goal

pub loop-place-preserved : goal.loop-place-preserved
loop-place-preserved c =
    let s = c.args.state.now in
    let visits = c.args.visits.now in
    let old = c.loop-place in
    let ok = c.requires.forest in
    let predecessor = reached_some s visits old.place _ c.in-Some.predecessor ok old.invariant.in_range c.in-Some.is in
    let y = to_z w128 (of_z w128 c.min-amount.result) in
    let given : to_z w128 (of_z w128 c.room.result) ≡ c.room.result = search (rules, to_z-of_z) in
    let made : y ≡ c.min-amount.result = search (rules, to_z-of_z) in
    let least = lesser_read (to_z w128 old.amount-bits) _ (room_of s c.in-Some.predecessor.along) _ y old.invariant.positive predecessor.room.room
    (given ∙ c.room.ensures.value) c.min-amount.ensures.value made in
    rw (c.in_ok-push.ensures.items, reverse-append) (trace_step s visits old.place (reverse old.path.items) (node_at visits (length visits - 1))
    (to_z w128 old.amount-bits) y ok old.invariant least.positive least.first c.in-Some.predecessor predecessor least.second least.either)

pub returns-clause-path : goal.returns-clause-path
returns-clause-path c =
    let s = c.args.state.now in
    let visits = c.args.visits.now in
    let old = c.loop-place in
    let ok = c.requires.forest in
    let some = reached_none s visits old.place _ ok old.invariant.in_range c.in_default.is in
    let node = ap (λ (v : Visit). surplus_at s v.node) (get_or_default visits old.place c.index-visits-place-2.result
    (record { node = 0; predecessor = None }) old.invariant.in_range) in
    let y = to_z w128 (of_z w128 c.min.result) in
    let given : to_z w128 (of_z w128 c.surplus.result) ≡ c.surplus.result = search (rules, to_z-of_z) in
    let made : y ≡ c.min.result = search (rules, to_z-of_z) in
    let least = lesser_read (to_z w128 old.amount-bits) _ (surplus_at s (node_at visits old.place)) _ y old.invariant.positive some
    (given ∙ c.surplus.ensures.value ∙ node) c.min.ensures.value made in
    rw c.reverse.ensures.items (trace_end s visits old.place (reverse old.path.items) (node_at visits (length visits - 1))
    (to_z w128 old.amount-bits) y ok old.invariant least.positive least.first least.second least.either)
