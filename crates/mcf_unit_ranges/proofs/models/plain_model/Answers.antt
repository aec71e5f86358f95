use Rattle.std.proofs.Common.{ap, sym, ◌∙◌, subst}
use Rattle.mcf_model.specs.Faults.{AreListed}
use Rattle.mcf_model.specs.Laws.{IsProper}
use Rattle.mcf_model.specs.Tables.{model_of}
use Rattle.mcf_unit_ranges.proofs.MadeModels.{made_ok, no_error, plain_made}
use Rattle.mcf_unit_ranges.proofs.models.plain_model.Goals as goal

pub unreachable-requires : goal.unreachable-requires
unreachable-requires c =
    let s = c.args.supplies.items in
    let rows = c.args.rows.items in
    let none = c.new-steps.ensures.items in
    no_error c.of.result c.in-Err.field-0 c.in-Err.is
    (c.of.ensures.proper.1 (
      subst (λ ss. IsProper (model_of s ss rows)) (sym none) (subst IsProper (sym (plain_made s rows)) c.requires.proper),
      subst (λ ss. AreListed ss rows) (sym none) c.requires.listed,
    ))

pub returns : goal.returns
returns c =
    let s = c.args.supplies.items in
    let rows = c.args.rows.items in
    made_ok _ _ _ (sym c.of.ensures.exact ∙ c.in-Ok.is) ∙ ap (λ ss. model_of s ss rows) c.new-steps.ensures.items ∙ plain_made s rows
