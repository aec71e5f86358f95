use Rattle.std.proofs.Common.{ap, sym, ◌∙◌, subst, refl}
use Rattle.std.specs.Prelude.{◌∷◌, map, pos}
use Rattle.mcf_model.specs.Laws.{IsProper}
use Rattle.mcf_unit_ranges.specs.declared.limits.TheConstants.{UNITS_LIMIT}
use Rattle.mcf_unit_ranges.specs.Private.Rows.{plain}
use Rattle.mcf_unit_ranges.specs.SpanModels.{spare}
use Rattle.mcf_unit_ranges.proofs.MadeModels.{span_proper, spans_made}
use Rattle.mcf_unit_ranges.proofs.models.span_model.Goals as goal

pub plain_model-requires-clause-proper : goal.plain_model-requires-clause-proper
plain_model-requires-clause-proper c =
    let m = c.args.model.now in
    let u = c.args.ends.from in
    let w = c.args.ends.to in
    subst IsProper
    (sym (spans_made c.args.prices.now m u w (pos UNITS_LIMIT) (pos UNITS_LIMIT) c.moved-supplies.result.items c.in_ok-given.given.items c.in_ok-rows.rows.items c.in_ok-spans.spans.items
    (c.in_ok-given.ensures ∙ c.supplies.ensures.value) refl c.moved-supplies.ensures c.in_ok-spans.ensures.routes (c.in_ok-rows.ensures.routes ∙ ap (λ xs. spare u w ∷ map plain xs) c.deref.ensures.value)))
    (span_proper c.args.prices.now m u w c.supplies.ensures.proper.sound c.requires.from c.requires.to (pos UNITS_LIMIT))

pub returns : goal.returns
returns c =
    let m = c.args.model.now in
    let u = c.args.ends.from in
    let w = c.args.ends.to in
    c.plain_model.ensures
    ∙ spans_made c.args.prices.now m u w (pos UNITS_LIMIT) (pos UNITS_LIMIT) c.moved-supplies.result.items c.in_ok-given.given.items c.in_ok-rows.rows.items c.in_ok-spans.spans.items
    (c.in_ok-given.ensures ∙ c.supplies.ensures.value) refl c.moved-supplies.ensures c.in_ok-spans.ensures.routes (c.in_ok-rows.ensures.routes ∙ ap (λ xs. spare u w ∷ map plain xs) c.deref.ensures.value)
