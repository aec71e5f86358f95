use Rattle.std.proofs.Common.{◌≡◌, rules, to_z, of_z}
use mir.Syntax.{w128}
use Rattle.std.proofs.lemmas.Int.{to_z-of_z}
use Rattle.mcf_engine.proofs.RaisingSteps.{offer_node, offer_taken, relax_respected}
use Rattle.mcf_engine.proofs.near_state.NearState.relax.Goals as goal

pub returns-in-Some : goal.returns-in-Some
returns-in-Some c =
    let e : to_z w128 (of_z w128 c.in-Some.offer.key) ≡ c.in-Some.offer.key = search (rules, to_z-of_z) in
    offer_taken c.args.self.now c.requires.search.1.flow c.args.heap.now c.args.out c.requires.last c.offer.new.self c.in-Some.offer.tail c.in-Some.offer.key c.in-Some.ensures.some
    c.offer.result c.requires.search.1.key_count (rw e at c.offer.ensures.lowered) c.offer.ensures.same (rw e at c.offer.ensures.waits)

pub offer-requires : goal.offer-requires
offer-requires c =
    record {
      node = offer_node c.args.self.now c.requires.search.1.flow c.args.heap.now c.args.out c.requires.last c.args.heap.now c.in-Some.offer.tail
          c.in-Some.offer.key c.in-Some.ensures.some c.requires.search.1.waiting_count;
    }

pub returns-in_default : goal.returns-in_default
returns-in_default c =
    relax_respected c.args.self.now c.requires.search.1.flow c.args.heap.now c.args.out c.requires.last c.in_default.ensures.none
