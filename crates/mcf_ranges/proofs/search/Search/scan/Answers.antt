use Rattle.std.proofs.Common.{◌≡◌, ◌∙◌, subst, refl, arith, to_z, of_z, rules}
use Rattle.std.specs.Int.{w128}
use Rattle.std.proofs.lemmas.Int.{to_z-of_z}
use Rattle.mcf_flows.specs.Network.{Network}
use Rattle.mcf_network.specs.Removal.{net_of}
use Rattle.mcf_network.specs.Stars.{ListsLeaving}
use Rattle.mcf_ranges.proofs.Tasks.{net_nodes, net_viewed, scanned_next, scanning_next, scanning_starts}
use Rattle.mcf_ranges.proofs.search.Search.scan.Goals as goal

pub key-base-requires : goal.key-base-requires
key-base-requires c =
    let i = c.self.inside in
    let t = c.args.self.now in
    let net_is = net_viewed i.shown.now i.without i.from i.to t c.net.result.now c.self.view_is c.net.ensures.value in
    let lists = subst (λ (n : Network). ListsLeaving n c.args.v c.leaving-leaving.result) net_is c.leaving-leaving.ensures in
    let count = (c.requires.search c.leaving-leaving.result lists).key_count in
    let node = c.requires.last.is_node in
    (node.0, omega (arith, node, count))

pub leaving-leaving-requires : goal.leaving-leaving-requires
leaving-leaving-requires c =
    let i = c.self.inside in
    let net_is = net_viewed i.shown.now i.without i.from i.to c.args.self.now c.net.result.now c.self.view_is c.net.ensures.value in
    let node = c.requires.last.is_node in
    (node.0, omega (arith, node, net_nodes c.args.self.now.network c.net.result.now net_is))

pub arcs-init : goal.arcs-init
arcs-init c =
    let i = c.self.inside in
    let t = c.args.self.now in
    let net_is = net_viewed i.shown.now i.without i.from i.to t c.net.result.now c.self.view_is c.net.ensures.value in
    let lists = subst (λ (n : Network). ListsLeaving n c.args.v c.leaving-leaving.result) net_is c.leaving-leaving.ensures in
    let read : to_z w128 (of_z w128 c.key-base.result) ≡ c.key-base.result = search (rules, to_z-of_z) in
    scanning_starts t (net_of t.network) c.args.heap.now c.args.settled.now c.args.v _ c.leaving-leaving.result lists c.requires.last
    (read ∙ c.key-base.ensures) c.requires.search

pub relax-requires-clause-arc : goal.relax-requires-clause-arc
relax-requires-clause-arc c =
    (scanned_next c.args.self.now (net_of c.args.self.now.network) c.arcs.heap c.args.settled.now c.args.v _ c.in-Some.r c.next.new.self refl
    (rw c.in-Some.ensures.steps at c.arcs.invariant)).arc

pub relax-requires-clause-last : goal.relax-requires-clause-last
relax-requires-clause-last c =
    (scanned_next c.args.self.now (net_of c.args.self.now.network) c.arcs.heap c.args.settled.now c.args.v _ c.in-Some.r c.next.new.self refl
    (rw c.in-Some.ensures.steps at c.arcs.invariant)).last

pub relax-requires-clause-base : goal.relax-requires-clause-base
relax-requires-clause-base c =
    (scanned_next c.args.self.now (net_of c.args.self.now.network) c.arcs.heap c.args.settled.now c.args.v _ c.in-Some.r c.next.new.self refl
    (rw c.in-Some.ensures.steps at c.arcs.invariant)).base_is

pub arcs-preserved : goal.arcs-preserved
arcs-preserved c =
    scanning_next c.args.self.now (net_of c.args.self.now.network) c.arcs.heap c.relax.new.heap c.args.settled.now c.args.v _ c.in-Some.r c.next.new.self
    (rw c.in-Some.ensures.steps at c.arcs.invariant) c.relax.ensures
