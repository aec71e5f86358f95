use Rattle.std.proofs.Common.{◌+◌, ◌∙◌, ap, arith, sym, inl, inr}
use Rattle.std.proofs.lemmas.Bool.{cases_eq}
use Rattle.mcf_flows.specs.Network.{Network, node_count}
use Rattle.mcf_matching.specs.Matchings.{row_of}
use Rattle.mcf_matching.proofs.PairLaws.{row_is}
use Rattle.mcf_matching.proofs.judging.do_rows_fit.Goals as goal

pub nodes-init : goal.nodes-init
nodes-init c k arc none =
    let row = (row_is c.args.scene.now.state.now k c.requires.scene.matching arc).0 in
    absurd (omega (arith, row, none))

pub nodes-preserved : goal.nodes-preserved
nodes-preserved c k arc below =
    elim (cases_eq (row_of c.args.scene.now.state.now k) (c.nodes.number + 1)) [
      | inl e ↦ c.does_row_fit.ensures c.if-not-does_row_fit.false k arc (e ∙ sym c.at.ensures)
      | inr m ↦ c.nodes.invariant k arc (omega (arith, below, m))
    ]

pub returns : goal.returns
returns c _ k arc =
    let row = (row_is c.args.scene.now.state.now k c.requires.scene.matching arc).0 in
    let test = c.nodes-test.false in
    let end = c.node_count-number-end.ensures.value in
    let same = ap (λ (g : Network). node_count g) c.net.ensures.value in
    c.nodes.invariant k arc (omega (arith, row, test, end, same))
