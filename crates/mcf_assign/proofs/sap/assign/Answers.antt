use Rattle.std.proofs.Common.{◌∙◌, List, ℤ, ap, arith, drop, length, sym}
use Rattle.mcf_flows.specs.Network.{node_count}
use Rattle.mcf_network.specs.States.{Pseudoflow}
use Rattle.mcf_assign.specs.Runs.{sources}
use Rattle.mcf_matching.proofs.Kept.{written}
use Rattle.mcf_assign.proofs.RunLaws.{end_blocked, end_least, end_made, end_prices, priced_near, priced_shown, run_net}
use Rattle.mcf_assign.proofs.sap.assign.Goals as goal

pub raise-requires-clause-room : goal.raise-requires-clause-room
raise-requires-clause-room c =
    let g = c.args.net.now in
    let run = rw c.in-Matched.is at c.match_rows.ensures in
    c.in_ok-pricer.ensures.room ∙ sym (ap node_count (ap (λ (s : Pseudoflow). s.net) c.into_parts-state.ensures.state
    ∙ run_net g (sources g) c.match_rows.new.matching run))

pub raise-requires-clause-near : goal.raise-requires-clause-near
raise-requires-clause-near c =
    let e = c.into_parts-state.ensures in
    priced_near c.match_rows.new.matching c.into_parts-state.result.0 c.as_mut_slice.result.now e.shown e.state
    (c.as_mut_slice.ensures.value ∙ e.prices) e.small

pub returns-in-Matched-clause-outcome : goal.returns-in-Matched-clause-outcome
returns-in-Matched-clause-outcome c =
    let g = c.args.net.now in
    let m = c.match_rows.new.matching in
    let s = c.into_parts-state.result.0 in
    let e = c.into_parts-state.ensures in
    let table = c.into_parts-state.result.1 in
    let count = c.raise.auto.prices in
    let value = ap (λ (l : List ℤ). length l) c.as_mut_slice.ensures.value in
    let now = written table.len c.raise.new.prices (drop (length c.raise.new.prices) table.items) (omega (arith, table.ok.0, count, value)) in
    let shown = priced_shown m s c.raise.new.prices _ e.state now c.raise.ensures.prices in
    let run = rw c.in-Matched.is at c.match_rows.ensures in (
      end_least g m s _ run e.shown.matching c.requires.balanced e.state shown,
      end_prices g m s _ run e.shown.matching c.requires.balanced e.state shown,
      end_made g m s _ run e.shown.matching c.requires.balanced e.state shown c.into_parts-state.result.2.number e.searches,
    )

pub returns-clause-outcome : goal.returns-clause-outcome
returns-clause-outcome c =
    let g = c.args.net.now in
    let at = rw c.in-Blocked.is at c.match_rows.ensures in
    rw c.into_reached-reached.ensures.reached (end_blocked g c.match_rows.new.matching.reached c.match_rows.new.matching.searches at c.requires.balanced)
