use Rattle.std.proofs.Common.{rules, ◌≡◌, ap, ◌∙◌, subst, pos, slice_index_or, to_z, of_z}
use Rattle.std.specs.Int.{w128}
use Rattle.mcf_model.specs.Planning.{IsPlanned}
use Rattle.mcf_unit_ranges.proofs.ToldRanges.{carries_first}
use Rattle.mcf_unit_ranges.proofs.ranging.carried_first.Goals as goal

pub returns-in-Plan-clause-some : goal.returns-in-Plan-clause-some
returns-in-Plan-clause-some g c =
    let m = c.args.model.now in
    let wide : to_z w128 (of_z w128 c.first_of.result) ≡ c.first_of.result = search rules in
    carries_first m c.in-Plan.found _ c.requires (subst (IsPlanned m) c.in-Plan.is c.in_ok-found.ensures.planned)
    (wide ∙ c.first_of.ensures ∙ ap (λ xs. slice_index_or xs 0 (pos 0)) c.deref.ensures.value)
