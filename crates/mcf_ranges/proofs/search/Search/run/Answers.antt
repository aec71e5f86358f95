use Rattle.std.proofs.Common.{◌≡◌, ◌≢◌, ap, sym, ◌∙◌, subst, refl, arith, to_z, of_z, rules, Some, ℤ}
use Rattle.std.specs.Int.{w128}
use Rattle.std.proofs.lemmas.Int.{ints, to_z-of_z}
use Rattle.mcf_flows.specs.Network.{at_node, node_count}
use Rattle.mcf_network.specs.NodeSets.{no_nodes, with_node}
use Rattle.mcf_network.specs.Removal.{net_of}
use Rattle.mcf_network.specs.Stars.{ListsLeaving}
use Rattle.mcf_engine.specs.Heaps.{IsFirst, Keyed}
use Rattle.mcf_ranges.specs.Private.Distances.{IsDistance}
use Rattle.mcf_ranges.specs.Private.Searches.{Task}
use Rattle.mcf_ranges.proofs.Searching.{distance_found, distance_none, distance_small, started}
use Rattle.mcf_ranges.proofs.Tasks.{fewer_left, leaving_open, next_scan, viewed}
use Rattle.mcf_ranges.proofs.search.Search.run.Goals as goal

pub scan-requires-clause-search : goal.scan-requires-clause-search
scan-requires-clause-search c = λ rest lists.
    let i = c.self.inside in
    let t = c.args.self.now in
    let task = viewed i.shown.now i.without i.from i.to t c.self.view_is c.net-net.ensures.shown c.self.invariant in
    let from : i.from ≡ t.u = ap (λ (x : Task). x.u) c.self.view_is in
    let marks = c.insert.ensures ∙ ap (λ table. with_node table i.from) c.requires.settled ∙ ap (with_node (no_nodes (node_count t.network))) from in
    started t task c.args.heap.now c.insert.new.self c.requires.ends c.requires.heap marks rest
    (leaving_open t (net_of t.network) t.u rest refl (subst (λ v. ListsLeaving (net_of t.network) v rest) from lists))

pub returns-then-get-clause-value : goal.returns-then-get-clause-value
returns-then-get-clause-value c =
    let i = c.self.inside in
    let t = c.args.self.now in
    let task = viewed i.shown.now i.without i.from i.to t c.self.view_is c.net-net.ensures.shown c.self.invariant in
    let to : i.to ≡ t.w = ap (λ (x : Task). x.w) c.self.view_is in
    let last : c.in-Some.v ≡ t.w = omega (arith, c.get.ensures, c.get-in-Some.ensures, c.if-get.true, to) in
    let first : IsFirst c.nodes.heap t.w = subst (λ v. IsFirst c.nodes.heap v) last c.in-Some.ensures.first in
    let read : to_z w128 (of_z w128 c.key.result) ≡ c.key.result = search (rules, to_z-of_z) in
    let key : to_z w128 (of_z w128 c.key.result) ≡ at_node c.nodes.heap.keys t.w =
    read ∙ c.key.ensures ∙ ap (λ (h : Keyed). at_node h.keys c.in-Some.v) c.in-Some.ensures.taken ∙ ap (at_node c.nodes.heap.keys) last in
    subst (λ (z : ℤ). IsDistance t.network t.flow t.prices t.k t.u t.w (Some z)) (sym key)
    (distance_found t task c.nodes.heap c.nodes.settled c.nodes.invariant first)

pub returns-then-get-clause-small : goal.returns-then-get-clause-small
returns-then-get-clause-small c =
    let i = c.self.inside in
    let t = c.args.self.now in
    let task = viewed i.shown.now i.without i.from i.to t c.self.view_is c.net-net.ensures.shown c.self.invariant in
    let to : i.to ≡ t.w = ap (λ (x : Task). x.w) c.self.view_is in
    let last : c.in-Some.v ≡ t.w = omega (arith, c.get.ensures, c.get-in-Some.ensures, c.if-get.true, to) in
    let first : IsFirst c.nodes.heap t.w = subst (λ v. IsFirst c.nodes.heap v) last c.in-Some.ensures.first in
    let read : to_z w128 (of_z w128 c.key.result) ≡ c.key.result = search (rules, to_z-of_z) in
    let key : to_z w128 (of_z w128 c.key.result) ≡ at_node c.nodes.heap.keys t.w =
    read ∙ c.key.ensures ∙ ap (λ (h : Keyed). at_node h.keys c.in-Some.v) c.in-Some.ensures.taken ∙ ap (at_node c.nodes.heap.keys) last in
    let small = distance_small t task c.nodes.heap c.nodes.settled c.nodes.invariant first in
    (omega (arith, ints, small, key), omega (arith, ints, small, key))

pub scan-requires-in-Some-clause-search : goal.scan-requires-in-Some-clause-search
scan-requires-in-Some-clause-search c = λ rest lists.
    let i = c.self.inside in
    let t = c.args.self.now in
    let task = viewed i.shown.now i.without i.from i.to t c.self.view_is c.net-net.ensures.shown c.self.invariant in
    let to : i.to ≡ t.w = ap (λ (x : Task). x.w) c.self.view_is in
    let different : c.in-Some.v ≢ t.w = λ e. c.if-get.false (omega (arith, c.get.ensures, c.get-in-Some.ensures, e, to)) in
    next_scan t task (net_of t.network) c.nodes.heap c.pop.new.self c.nodes.settled c.insert-in-Some.new.self c.in-Some.v refl c.nodes.invariant
    c.in-Some.ensures.first different c.in-Some.ensures.taken c.insert-in-Some.ensures rest lists

pub nodes-smaller : goal.nodes-smaller
nodes-smaller c =
    let i = c.self.inside in
    let t = c.args.self.now in
    let task = viewed i.shown.now i.without i.from i.to t c.self.view_is c.net-net.ensures.shown c.self.invariant in
    let to : i.to ≡ t.w = ap (λ (x : Task). x.w) c.self.view_is in
    let different : c.in-Some.v ≢ t.w = λ e. c.if-get.false (omega (arith, c.get.ensures, c.get-in-Some.ensures, e, to)) in
    fewer_left t task c.nodes.heap c.nodes.settled c.insert-in-Some.new.self c.in-Some.v c.nodes.invariant c.in-Some.ensures.first different c.insert-in-Some.ensures

pub returns-clause-value : goal.returns-clause-value
returns-clause-value c =
    let i = c.self.inside in
    let t = c.args.self.now in
    let task = viewed i.shown.now i.without i.from i.to t c.self.view_is c.net-net.ensures.shown c.self.invariant in
    distance_none t task c.nodes.heap c.nodes.settled c.nodes.invariant c.in_default.ensures.none
