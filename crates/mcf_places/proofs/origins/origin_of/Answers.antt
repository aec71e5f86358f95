use Rattle.std.proofs.Common.{◌∙◌, ap, subst, sym}
use Rattle.mcf_places.specs.Origins.{IsRowOrigin, row_origin}
use Rattle.mcf_places.proofs.RowOrigins.{arc_in_rows}
use Rattle.mcf_places.proofs.origins.origin_of.Goals as goal

pub returns-in-Arc-clause-row : goal.returns-in-Arc-clause-row
returns-in-Arc-clause-row c =
    let P = c.args.planner.now in
    subst (IsRowOrigin P) (sym (c.row_origin.ensures ∙ ap (row_origin P) c.arc_origin-origin.ensures.value))
    (arc_in_rows P c.arc_origin-origin.ensures.proper c.saturating_sub-place.result)
