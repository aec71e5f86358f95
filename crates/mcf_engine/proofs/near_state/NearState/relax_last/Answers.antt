use Rattle.std.proofs.Common.{◌≡◌, ◌∙◌, ap, arith, rules, subst, sym, to_z, of_z}
use mir.Syntax.{w128}
use Rattle.std.proofs.lemmas.Int.{ints, to_z-of_z}
use Rattle.mcf_flows.specs.Network.{Network, IsNode, at_node, node_count}
use Rattle.mcf_network.specs.Residual.{tail}
use Rattle.mcf_engine.proofs.RaisingSteps.{offer_node, offer_taken, relax_respected, relax_settles, scanned}
use Rattle.mcf_engine.proofs.near_state.NearState.relax_last.Goals as goal

pub returns-in_default-clause-none : goal.returns-in_default-clause-none
returns-in_default-clause-none c =
    scanned c.args.self.now c.args.heap.now c.args.heap.now c.args.out
    (relax_respected c.args.self.now c.requires.search.flow c.args.heap.now c.args.out c.requires.last c.in_default.ensures.none) c.requires.search

pub key-requires : goal.key-requires
key-requires c =
    let node = subst (λ (g : Network). IsNode (node_count g) c.route.result.0) c.net.ensures.value c.route.ensures.tail_is_node in
    subst (λ n. IsNode n c.route.result.0) (sym c.requires.search.key_count) node

pub settle-requires-clause-node : goal.settle-requires-clause-node
settle-requires-clause-node c =
    offer_node c.args.self.now c.requires.search.flow c.args.heap.now c.args.out c.requires.last c.args.heap.now c.in-Some.offer.tail c.in-Some.offer.key
    c.in-Some.ensures.some c.requires.search.waiting_count

pub offer-requires : goal.offer-requires
offer-requires c =
    record {
      node = offer_node c.args.self.now c.requires.search.flow c.args.heap.now c.args.out c.requires.last c.args.heap.now c.in-Some.offer.tail
          c.in-Some.offer.key c.in-Some.ensures.some c.requires.search.waiting_count;
    }

pub returns-then-offer-key-clause-some : goal.returns-then-offer-key-clause-some
returns-then-offer-key-clause-some c =
    let head = c.key.ensures ∙ ap (at_node c.args.heap.now.keys) (c.route.ensures.tail ∙ ap (λ (g : Network). tail g c.args.out) c.net.ensures.value) in
    let g : to_z w128 (of_z w128 c.key.result) ≡ c.key.result = search (rules, to_z-of_z) in
    let e : to_z w128 (of_z w128 c.in-Some.offer.key) ≡ c.in-Some.offer.key = search (rules, to_z-of_z) in
    let no_more = c.if-offer-key.true in
    relax_settles c.args.self.now c.requires.search.flow c.args.heap.now c.args.out c.requires.last c.settle.new.self c.in-Some.offer.tail c.in-Some.offer.key
    c.in-Some.ensures.some c.requires.search (omega (arith, ints, no_more, head, e, g)) (rw e at c.settle.ensures)

pub returns-clause-none : goal.returns-clause-none
returns-clause-none c =
    let e : to_z w128 (of_z w128 c.in-Some.offer.key) ≡ c.in-Some.offer.key = search (rules, to_z-of_z) in
    scanned c.args.self.now c.args.heap.now c.offer.new.self c.args.out
    (offer_taken c.args.self.now c.requires.search.flow c.args.heap.now c.args.out c.requires.last c.offer.new.self c.in-Some.offer.tail c.in-Some.offer.key
    c.in-Some.ensures.some c.offer.result c.requires.search.key_count (rw e at c.offer.ensures.lowered) c.offer.ensures.same (rw e at c.offer.ensures.waits))
    c.requires.search
