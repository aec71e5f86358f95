use Rattle.std.proofs.Common.{◌∙◌, ap, length, sym, subst}
use Rattle.std.specs.List.{All}
use Rattle.mcf_flows.specs.Blocking.{in_list, in_table}
use Rattle.mcf_flows.specs.Network.{IsNode}
use Rattle.mcf_roster.specs.Models.{hub_of}
use Rattle.mcf_roster.specs.ToldTests.{tests_told}
use Rattle.mcf_roster.proofs.RowSteps.{hub_is}
use Rattle.mcf_roster.proofs.ToldAnswers.{amounts_for, told_is}
use Rattle.mcf_roster.proofs.told.told.Goals as goal

pub table_of-requires : goal.table_of-requires
table_of-requires c =
    let R = c.args.roster.now in
    let hub = hub_is R c.takes-takes.result.now c.needs-needs.result.now c.hub_of-hub.result c.takes-takes.ensures.value c.needs-needs.ensures.value
    c.hub_of-hub.ensures in
    subst (λ n. All (IsNode n) c.deref.result.now) (sym hub) (subst (All (IsNode (hub_of R))) (sym c.deref.ensures.value) c.requires.nodes)

pub returns : goal.returns
returns c =
    let R = c.args.roster.now in
    let hub = hub_is R c.takes-takes.result.now c.needs-needs.result.now c.hub_of-hub.result c.takes-takes.ensures.value c.needs-needs.ensures.value
    c.hub_of-hub.ensures in
    let table = c.in_ok-table.table.items in
    let turned = c.is_marked-turned.result in
    told_is R c.args.found.now
    (record { persons = c.in_ok-persons.persons; things = c.in_ok-things.things; side = c.side_told-side.result; amounts = c.in_ok-amounts.amounts }) table turned
    (λ v k. c.in_ok-table.ensures.marks v (subst (λ n. IsNode n v) (sym hub) k) ∙ ap (λ xs. in_list xs v) c.deref.ensures.value)
    (c.is_marked-turned.ensures ∙ ap (λ xs. in_table xs c.hub_of-hub.result) c.deref-2.ensures.value ∙ ap (in_table table) hub)
    (c.in_ok-persons.ensures.value ∙ ap (λ xs. tests_told turned xs 0 (length c.takes-takes.result.now)) c.deref-3.ensures.value
    ∙ ap (λ ts. tests_told turned table 0 (length ts)) c.takes-takes.ensures.value)
    (c.in_ok-things.ensures.value ∙ ap (λ xs. tests_told turned xs (length c.takes-takes.result.now) (length c.needs-needs.result.now)) c.deref-4.ensures.value
    ∙ ap (λ ts. tests_told turned table (length ts) (length c.needs-needs.result.now)) c.takes-takes.ensures.value
    ∙ ap (λ ts. tests_told turned table (length R.takes) (length ts)) c.needs-needs.ensures.value) c.side_told-side.ensures
    (amounts_for R c.in_ok-persons.persons.items c.in_ok-things.things.items c.deref-5.result.now c.deref-6.result.now c.side_told-side.result
    c.in_ok-amounts.amounts c.deref-5.ensures.value c.deref-6.ensures.value c.in_ok-amounts.ensures)
