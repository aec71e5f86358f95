use Rattle.std.proofs.Common.{◌≡◌, arith, subst, List}
use mir.Syntax.{w128}
use Rattle.std.proofs.lemmas.Int.{to_z-of_z}
use Rattle.std.proofs.lemmas.List.{drop_more}
use Rattle.mcf_network.specs.declared.rid.Rid.{Rid}
use Rattle.mcf_network.specs.States.{pushed}
use Rattle.mcf_network.specs.Walks.{CanPushAlong, pushed_along}
use Rattle.mcf_network.proofs.WalkLaws.{along_done, cost_along, first_ok, moves_along, rest_can_push}
use Rattle.mcf_network.proofs.walk.push_along.Goals as goal

pub push-requires-clause-arc : goal.push-requires-clause-arc
push-requires-clause-arc c =
    let whole = rw (to_z-of_z w128 c.args.amount c.ranges.amount) at c.loop-r.invariant.can in
    let next = rw (← c.r-item.is) at (drop_more c.args.walk.now c.loop-r.r-index c.r-item.result c.loop-r-test.true) in
    let can = subst (λ (x : List Rid). CanPushAlong c.loop-r.state x c.args.amount) next whole in
    (can.room 0 c.r-item.result (omega arith)).arc

pub push-requires-clause-high : goal.push-requires-clause-high
push-requires-clause-high c =
    let whole = rw (to_z-of_z w128 c.args.amount c.ranges.amount) at c.loop-r.invariant.can in
    let next = rw (← c.r-item.is) at (drop_more c.args.walk.now c.loop-r.r-index c.r-item.result c.loop-r-test.true) in
    let can = subst (λ (x : List Rid). CanPushAlong c.loop-r.state x c.args.amount) next whole in
    rw (to_z-of_z w128 c.args.amount c.ranges.amount) (can.room 0 c.r-item.result (omega arith)).room

pub loop-r-preserved : goal.loop-r-preserved
loop-r-preserved c =
    let whole = rw (to_z-of_z w128 c.args.amount c.ranges.amount) at c.loop-r.invariant.can in
    let next = rw (← c.r-item.is) at (drop_more c.args.walk.now c.loop-r.r-index c.r-item.result c.loop-r-test.true) in
    let same = to_z-of_z w128 c.args.amount c.ranges.amount in
    let can = subst (λ (x : List Rid). CanPushAlong c.loop-r.state x c.args.amount) next whole in
    let rest = subst (λ (x : List Rid). pushed_along c.loop-r.state x c.args.amount ≡ pushed_along c.args.state.now c.args.walk.now c.args.amount) next
    (rw same at c.loop-r.invariant.rest) in
    let value : c.push.new.self ≡ pushed c.loop-r.state c.r-item.result c.args.amount = rw same at c.push.ensures.value in
    rw (same, value) (record {
      flow = first_ok c.loop-r.state _ _ c.args.amount c.loop-r.invariant.flow can;
      rest = rest;
      can = rest_can_push c.loop-r.state _ _ c.args.amount c.loop-r.invariant.flow can;
      start = c.loop-r.invariant.start;
    })

pub returns-clause-surpluses : goal.returns-clause-surpluses
returns-clause-surpluses c u w walk v h =
    let e : c.loop-r.state ≡ pushed_along c.args.state.now c.args.walk.now c.args.amount =
    along_done c.loop-r.state c.args.state.now c.args.walk.now c.loop-r.r-index c.args.amount _
    (to_z-of_z w128 c.args.amount c.ranges.amount) c.loop-r-test.false c.loop-r.invariant.rest in
    rw e (moves_along c.args.state.now c.args.walk.now c.args.amount u w c.loop-r.invariant.start c.requires.can walk v)

pub returns-clause-cost : goal.returns-clause-cost
returns-clause-cost c =
    let e : c.loop-r.state ≡ pushed_along c.args.state.now c.args.walk.now c.args.amount =
    along_done c.loop-r.state c.args.state.now c.args.walk.now c.loop-r.r-index c.args.amount _
    (to_z-of_z w128 c.args.amount c.ranges.amount) c.loop-r-test.false c.loop-r.invariant.rest in
    rw e (cost_along c.args.state.now c.args.walk.now c.args.amount c.loop-r.invariant.start c.requires.can)
