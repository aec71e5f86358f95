use Rattle.std.proofs.Common.{◌+ℤ◌, ◌≤ℤ◌, arith, take, subst}
use Rattle.std.specs.List.{All}
use Rattle.std.proofs.lemmas.Int.{ints}
use Rattle.std.proofs.lemmas.List.{take_all}
use Rattle.std.proofs.lemmas.List.Elements.{All-more, All-weaker}
use Rattle.mcf_flows.specs.Network.{at_node}
use Rattle.mcf_matching.specs.declared.rows.RowArc.{RowArc}
use Rattle.mcf_matching.proofs.RowLists.{no_arc}
use Rattle.mcf_matching.proofs.Updated.{least_low}
use Rattle.mcf_matching.proofs.judging.least_offer.Goals as goal

pub arcs-preserved : goal.arcs-preserved
arcs-preserved c =
    let z = c.args.prices.now in
    let next = c.min-least.result in
    let low = least_low c.arcs.least c.offer.result next c.min-least.ensures in
    let is = c.offer.ensures in
    All-more (λ (a : RowArc). next ≤ℤ (a.cost +ℤ at_node z a.column)) c.args.arcs.now c.arcs.a-index no_arc c.arcs-test.true
    (All-weaker (λ (a : RowArc). c.arcs.least ≤ℤ (a.cost +ℤ at_node z a.column)) (λ (a : RowArc). next ≤ℤ (a.cost +ℤ at_node z a.column))
    (λ a below. omega (arith, ints, low, below)) (take c.arcs.a-index c.args.arcs.now) c.arcs.invariant) (omega (arith, ints, low, is))

pub returns : goal.returns
returns c =
    let all = take_all c.arcs.a-index c.args.arcs.now (let t = c.arcs-test.false in omega (arith, t)) in
    subst (λ l. All (λ (a : RowArc). c.arcs.least ≤ℤ (a.cost +ℤ at_node c.args.prices.now a.column)) l) all c.arcs.invariant
