use Rattle.std.proofs.Common.{ap, sym, ◌∙◌, subst}
use Rattle.std.specs.Prelude.{map, replicate, pos}
use Rattle.mcf_model.specs.Laws.{IsProper}
use Rattle.mcf_unit_ranges.specs.Private.Rows.{plain}
use Rattle.mcf_unit_ranges.specs.SpanModels.{freed}
use Rattle.mcf_unit_ranges.proofs.MadeModels.{free_made, free_proper}
use Rattle.mcf_unit_ranges.proofs.models.free_model.Goals as goal

pub plain_model-requires-clause-proper : goal.plain_model-requires-clause-proper
plain_model-requires-clause-proper c =
    let m = c.args.model.now in
    let u = c.args.ends.from in
    let w = c.args.ends.to in
    let zeros = c.in_ok-still.ensures.value ∙ ap (λ k. replicate k (pos 0)) c.place_count-places.ensures.value in
    subst IsProper
    (sym (free_made c.args.prices.now m u w c.moved-supplies.result.items c.in_ok-still.still.items c.in_ok-rows.rows.items c.in_ok-spans.spans.items zeros c.moved-supplies.ensures
    c.in_ok-spans.ensures.routes (c.in_ok-rows.ensures.routes ∙ ap (λ xs. map freed (map plain xs)) c.deref.ensures.value)))
    (free_proper c.args.prices.now m u w c.place_count-places.ensures.proper.sound c.requires.from c.requires.to)

pub returns : goal.returns
returns c =
    let m = c.args.model.now in
    let u = c.args.ends.from in
    let w = c.args.ends.to in
    let zeros = c.in_ok-still.ensures.value ∙ ap (λ k. replicate k (pos 0)) c.place_count-places.ensures.value in
    c.plain_model.ensures
    ∙ free_made c.args.prices.now m u w c.moved-supplies.result.items c.in_ok-still.still.items c.in_ok-rows.rows.items c.in_ok-spans.spans.items zeros c.moved-supplies.ensures
    c.in_ok-spans.ensures.routes (c.in_ok-rows.ensures.routes ∙ ap (λ xs. map freed (map plain xs)) c.deref.ensures.value)
