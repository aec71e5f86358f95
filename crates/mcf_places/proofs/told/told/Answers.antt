use Rattle.std.proofs.Common.{◌∙◌, ap, length, sym, subst}
use Rattle.std.specs.List.{All}
use Rattle.mcf_flows.specs.Blocking.{in_list, in_table}
use Rattle.mcf_flows.specs.Network.{IsNode}
use Rattle.mcf_places.specs.Models.{hub_of, supplies_of}
use Rattle.mcf_places.specs.Told.{entries_told, exits_told}
use Rattle.mcf_places.proofs.ToldAnswers.{told_is}
use Rattle.mcf_places.proofs.told.told.Goals as goal

pub table_of-requires : goal.table_of-requires
table_of-requires c =
    let count = c.place_count.ensures ∙ ap (λ ps. length (supplies_of ps)) c.parts-parts.ensures.places in
    subst (λ n. All (IsNode n) c.deref.result.now) (sym count)
    (subst (All (IsNode (length (supplies_of c.args.planner.now.places)))) (sym c.deref.ensures.value) c.requires.nodes)

pub returns : goal.returns
returns c =
    let P = c.args.planner.now in
    let table = c.in_ok-table.table.items in
    let turned = c.has_hub-turned.result in
    let count = c.place_count.ensures ∙ ap (λ ps. length (supplies_of ps)) c.parts-parts.ensures.places in
    told_is P c.args.found.now
    (record { entries = c.in_ok-entries.entries; exits = c.in_ok-exits.exits; side = c.side_told.result }) table turned
    (λ v k. c.in_ok-table.ensures.marks v (subst (λ n. IsNode n v) (sym count) k) ∙ ap (λ xs. in_list xs v) c.deref.ensures.value)
    (c.has_hub-turned.ensures ∙ ap (λ xs. in_table xs (hub_of c.parts-parts.result.places.now)) c.deref-2.ensures.value
    ∙ ap (λ ps. in_table table (hub_of ps)) c.parts-parts.ensures.places)
    (c.in_ok-entries.ensures ∙ ap (λ xs. entries_told turned xs c.parts-parts.result.places.now) c.deref-3.ensures.value
    ∙ ap (entries_told turned table) c.parts-parts.ensures.places)
    (c.in_ok-exits.ensures ∙ ap (λ xs. exits_told turned xs c.parts-parts.result.places.now) c.deref-4.ensures.value
    ∙ ap (exits_told turned table) c.parts-parts.ensures.places) c.side_told.ensures
