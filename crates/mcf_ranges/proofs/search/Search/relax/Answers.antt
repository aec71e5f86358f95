use Rattle.std.proofs.Common.{◌≡◌, sym, ◌∙◌, arith, ◌+ℤ◌, to_z, of_z}
use Rattle.std.specs.Int.{w128}
use Rattle.std.proofs.lemmas.Int.{ints}
use Rattle.mcf_network.specs.Residual.{head}
use Rattle.mcf_ranges.proofs.Tasks.{base_small, net_head, net_nodes, net_number, net_viewed, not_needed, not_offered, offered, viewed}
use Rattle.mcf_ranges.proofs.search.Search.relax.Goals as goal

pub route-head-requires : goal.route-head-requires
route-head-requires c =
    let i = c.self.inside in
    let net_is = net_viewed i.shown.now i.without i.from i.to c.args.self.now c.net.result.now c.self.view_is c.net.ensures.value in
    net_number c.args.self.now.network c.net.result.now c.args.r.arc net_is c.requires.arc

pub contains-requires : goal.contains-requires
contains-requires c =
    let i = c.self.inside in
    let net_is = net_viewed i.shown.now i.without i.from i.to c.args.self.now c.net.result.now c.self.view_is c.net.ensures.value in
    let node = c.route-head.ensures.head_is_node in
    (node.0, omega (arith, node, net_nodes c.args.self.now.network c.net.result.now net_is, c.requires.search.1.mark_count))

pub offer-requires : goal.offer-requires
offer-requires c =
    let i = c.self.inside in
    let net_is = net_viewed i.shown.now i.without i.from i.to c.args.self.now c.net.result.now c.self.view_is c.net.ensures.value in
    let node = c.route-head.ensures.head_is_node in
    record { node = (node.0, omega (arith, node, net_nodes c.args.self.now.network c.net.result.now net_is, c.requires.search.1.waiting_count)) }

pub returns-then-contains : goal.returns-then-contains
returns-then-contains c =
    let i = c.self.inside in
    let t = c.args.self.now in
    let net_is = net_viewed i.shown.now i.without i.from i.to t c.net.result.now c.self.view_is c.net.ensures.value in
    let task = viewed i.shown.now i.without i.from i.to t c.self.view_is c.net.ensures.shown c.self.invariant in
    let x_is : c.route-head.result.1 ≡ head t.network c.args.r = c.route-head.ensures.head ∙ net_head t.network c.net.result.now c.args.r net_is c.requires.arc in
    not_needed t task c.args.heap.now c.args.settled.now c.args.r c.route-head.result.1 c.requires.last c.requires.arc x_is (sym c.contains.ensures ∙ c.if-contains.true)

pub overflow_add-base : goal.overflow_add-base
overflow_add-base c =
    let i = c.self.inside in
    let t = c.args.self.now in
    let task = viewed i.shown.now i.without i.from i.to t c.self.view_is c.net.ensures.shown c.self.invariant in
    let base = base_small t task c.args.heap.now c.args.settled.now _ c.args.base _ c.requires.search.1 c.requires.last c.requires.base in
    omega (arith, ints, base, c.in-Some.ensures.small)

pub returns-in-Some : goal.returns-in-Some
returns-in-Some c =
    let i = c.self.inside in
    let t = c.args.self.now in
    let net_is = net_viewed i.shown.now i.without i.from i.to t c.net.result.now c.self.view_is c.net.ensures.value in
    let task = viewed i.shown.now i.without i.from i.to t c.self.view_is c.net.ensures.shown c.self.invariant in
    let x_is : c.route-head.result.1 ≡ head t.network c.args.r = c.route-head.ensures.head ∙ net_head t.network c.net.result.now c.args.r net_is c.requires.arc in
    let base = base_small t task c.args.heap.now c.args.settled.now _ c.args.base _ c.requires.search.1 c.requires.last c.requires.base in
    let key = to_z w128 (of_z w128 (to_z w128 (of_z w128 c.args.base) +ℤ to_z w128 (of_z w128 c.in-Some.length))) in
    let key_is : key ≡ c.args.base +ℤ c.in-Some.length = omega (arith, ints, base, c.in-Some.ensures.small) in
    offered t task c.args.heap.now c.offer.new.self c.args.settled.now c.args.r c.route-head.result.1 c.args.base c.in-Some.length key c.offer.result
    c.requires.last c.requires.base x_is (sym c.contains.ensures ∙ c.if-contains.false) c.in-Some.ensures.some key_is
    c.offer.ensures.lowered c.offer.ensures.less c.offer.ensures.same c.offer.ensures.waits c.requires.search

pub returns-in_default : goal.returns-in_default
returns-in_default c =
    let i = c.self.inside in
    let t = c.args.self.now in
    let task = viewed i.shown.now i.without i.from i.to t c.self.view_is c.net.ensures.shown c.self.invariant in
    not_offered t task c.args.heap.now c.args.settled.now c.args.r c.in_default.ensures.none
