use Rattle.std.proofs.Common.{◌≡◌, ◌∙◌, ◌≤ℤ◌, ap, subst, arith, rules, to_z, of_z}
use mir.Syntax.{w128}
use Rattle.std.proofs.lemmas.Int.{ints, to_z-of_z}
use Rattle.mcf_flows.specs.Network.{Network, IsNode, at_node, node_count}
use Rattle.mcf_network.specs.Residual.{tail}
use Rattle.mcf_engine.specs.Respecting.{reverse}
use Rattle.mcf_engine.proofs.RaisingSteps.{label_small, lower_tail, price_small, settled_tail}
use Rattle.mcf_engine.proofs.near_state.NearState.offer_of.Goals as goal

pub returns-then-not-waits-clause-none : goal.returns-then-not-waits-clause-none
returns-then-not-waits-clause-none c =
    let from : c.route-tail.result.0 ≡ tail c.args.self.now.state.now.net (reverse c.args.out) = c.route-tail.ensures.tail ∙ ap
    (λ (g : Network). tail g (reverse c.args.out)) c.net.ensures.value in
    settled_tail c.args.self.now c.net.ensures.valid c.args.heap.now c.args.out c.requires.last c.route-tail.result.0 c.waits.result from c.waits.ensures
    c.if-not-waits.true

pub offered-key-requires-clause-base : goal.offered-key-requires-clause-base
offered-key-requires-clause-base c =
    let small = label_small c.args.self.now c.net.ensures.valid c.args.heap.now _ c.requires.search.1 (tail c.args.self.now.state.now.net c.args.out)
    c.requires.last.is_node in
    let low = small.0 in
    let high = small.1 in
    let base = c.requires.base in
    let t : to_z w128 (of_z w128 c.args.base) ≡ c.args.base = search (rules, to_z-of_z) in
    (omega (arith, ints, low, base, t), omega (arith, ints, high, base, t))

pub offered-key-requires-clause-price : goal.offered-key-requires-clause-price
offered-key-requires-clause-price c =
    let node = subst (λ (g : Network). IsNode (node_count g) c.route-tail.result.0) c.net.ensures.value c.route-tail.ensures.tail_is_node in
    let small = price_small c.args.self.now c.net.ensures.valid c.route-tail.result.0 node in
    let low = small.0 in
    let high = small.1 in
    let is = c.price_of.ensures in
    let t : to_z w128 (of_z w128 c.price_of.result) ≡ c.price_of.result = search (rules, to_z-of_z) in
    (omega (arith, ints, low, is, t), omega (arith, ints, high, is, t))

pub returns-then-key-clause-none : goal.returns-then-key-clause-none
returns-then-key-clause-none c =
    let from : c.route-tail.result.0 ≡ tail c.args.self.now.state.now.net (reverse c.args.out) = c.route-tail.ensures.tail ∙ ap
    (λ (g : Network). tail g (reverse c.args.out)) c.net.ensures.value in
    let e : to_z w128 (of_z w128 c.offered-key.result) ≡ c.offered-key.result = search (rules, to_z-of_z) in
    let f : to_z w128 (of_z w128 c.key.result) ≡ c.key.result = search (rules, to_z-of_z) in
    let less = c.if-key.true in
    let k = c.key.ensures in
    let low : at_node c.args.heap.now.keys c.route-tail.result.0 ≤ℤ c.offered-key.result = omega (arith, ints, less, k, e, f) in
    let a : to_z w128 (of_z w128 c.args.base) ≡ c.args.base = search (rules, to_z-of_z) in
    let b : to_z w128 (of_z w128 c.step-length.result) ≡ c.step-length.result = search (rules, to_z-of_z) in
    let d : to_z w128 (of_z w128 c.price_of.result) ≡ c.price_of.result = search (rules, to_z-of_z) in
    let length = c.step-length.ensures.value in
    let sum = c.offered-key.ensures in
    let base = c.requires.base in
    let price = c.price_of.ensures in
    lower_tail c.args.self.now c.net.ensures.valid c.args.heap.now c.args.out c.requires.last c.route-tail.result.0 c.offered-key.result from
    (omega (arith, ints, a, b, d, length, sum, base, price)) low

pub returns-clause-some : goal.returns-clause-some
returns-clause-some c =
    let e : to_z w128 (of_z w128 c.offered-key.result) ≡ c.offered-key.result = search (rules, to_z-of_z) in
    let f : to_z w128 (of_z w128 c.key.result) ≡ c.key.result = search (rules, to_z-of_z) in
    let no_less = c.if-key.false in
    let k = c.key.ensures in
    let room_is = c.room.ensures.value in
    let some = c.if-room-le0.false in
    let a : to_z w128 (of_z w128 c.args.base) ≡ c.args.base = search (rules, to_z-of_z) in
    let b : to_z w128 (of_z w128 c.step-length.result) ≡ c.step-length.result = search (rules, to_z-of_z) in
    let d : to_z w128 (of_z w128 c.price_of.result) ≡ c.price_of.result = search (rules, to_z-of_z) in
    let length = c.step-length.ensures.value in
    let sum = c.offered-key.ensures in
    let base = c.requires.base in
    let price = c.price_of.ensures in
    rw e (record {
      from_is = c.route-tail.ensures.tail ∙ ap (λ (g : Network). tail g (reverse c.args.out)) c.net.ensures.value;
      waits = c.waits.ensures.0 c.if-not-waits.false;
      room = record { arc = c.requires.arc; room = omega (arith, ints, room_is, some) };
      value = omega (arith, ints, a, b, d, length, sum, base, price);
      least = omega (arith, ints, no_less, k, e, f);
    })
