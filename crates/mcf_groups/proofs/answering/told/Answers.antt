use Rattle.std.proofs.Common.{◌∙◌, ap, length, map, subst, sym, arith}
use Rattle.std.specs.Vec.{with_items}
use Rattle.std.proofs.lemmas.List.{length-map, with_items_is}
use Rattle.mcf_flows.specs.Blocking.{in_list, in_table}
use Rattle.mcf_flows.specs.Network.{IsNode}
use Rattle.mcf_model.specs.Complements.{turned_if}
use Rattle.mcf_model.specs.Model.{Model}
use Rattle.mcf_model.specs.Planning.{HasNoPlan}
use Rattle.mcf_roster.specs.Models.{hub_of}
use Rattle.mcf_groups.proofs.Made.{few_places}
use Rattle.mcf_groups.proofs.ToldAnswers.{no_group_choice}
use Rattle.mcf_groups.proofs.answering.told.Goals as goal

pub overflow_cast-place_count : goal.overflow_cast-place_count
overflow_cast-place_count c =
    let few = few_places c.args.roster.now c.args.groups.now c.requires.sound c.requires.fine in
    let same = c.place_count.ensures.value ∙ ap (λ (m : Model). length m.supplies) c.requires.model in
    omega (arith, few, same)

pub returns : goal.returns
returns c =
    let R = c.args.roster.now in
    let gs = c.args.groups.now in
    let count = c.place_count.ensures.value ∙ ap (λ (m : Model). length m.supplies) c.requires.model in
    let turned = c.marks_hub-turned.result in
    let turned_is = c.turn_all.ensures ∙ ap (map (turned_if turned)) c.deref_mut.ensures.value in
    no_group_choice R gs c.requires.sound c.requires.fine c.args.found.now
    (record { places = with_items c.in_ok-places.places c.turn_all.new.table; side = c.side_told.result }) c.in_ok-places.places.items turned
    (subst (λ m. HasNoPlan m c.args.found.now) c.requires.model c.requires.none)
    (c.in_ok-places.ensures.one_per_node ∙ count)
    (λ v k. c.in_ok-places.ensures.marks v (subst (λ n. IsNode n v) (sym count) k) ∙ ap (λ xs. in_list xs v) c.deref.ensures.value)
    (c.marks_hub-turned.ensures ∙ ap (λ xs. in_table xs (hub_of R)) c.deref-2.ensures.value)
    (with_items_is c.in_ok-places.places c.turn_all.new.table (ap length turned_is ∙ length-map c.in_ok-places.places.items (turned_if turned) ∙ sym c.in_ok-places.places.ok.0) ∙ turned_is)
    c.side_told.ensures
