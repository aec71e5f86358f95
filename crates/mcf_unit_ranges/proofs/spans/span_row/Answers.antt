use Rattle.std.proofs.Common.{rules, ◌≡◌, ◌∙◌, w64, to_z, of_z}
use Rattle.std.specs.Int.{w128}
use Rattle.mcf_model.specs.Tables.{route_with}
use Rattle.mcf_unit_ranges.proofs.SpanRows.{span_is}
use Rattle.mcf_unit_ranges.proofs.spans.span_row.Goals as goal

pub returns-clause-span : goal.returns-clause-span
returns-clause-span c =
    let own = c.args.own.now in
    let low = c.span_bounds-bounds.result.low in
    let read : to_z w64 (of_z w64 c.narrowed.result) ≡ c.narrowed.result = search rules in
    let wide : to_z w128 (of_z w128 low) ≡ low = search rules in
    span_is c.args.prices.now (route_with c.args.row own) (route_with c.directed-there.result own) _ _ _ (c.directed-there.ensures own)
    (read ∙ c.narrowed.ensures ∙ wide ∙ c.span_bounds-bounds.ensures.low) (c.narrowed_limit.ensures ∙ c.span_bounds-bounds.ensures.high) (c.stays.ensures own)
