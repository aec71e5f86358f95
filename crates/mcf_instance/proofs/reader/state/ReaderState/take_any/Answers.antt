use Rattle.std.proofs.Common.{◌∙◌, ap, sym}
use Rattle.std.proofs.lemmas.Result.{on_err_weaker, on_ok_weaker}
use Rattle.mcf_flows.specs.Limits.{limits}
use Rattle.mcf_instance.specs.Private.ReaderState.{item_of, outcome_grows}
use Rattle.mcf_text.specs.Fields.{fields_of}
use Rattle.mcf_instance.proofs.SevenFields.{item_of-take, after_row-take, some_field}
use Rattle.mcf_instance.proofs.reader.state.ReaderState.take_any.Goals as goal

pub take_fields-requires-clause-some_field : goal.take_fields-requires-clause-some_field
take_fields-requires-clause-some_field c = some_field c.args.line.now _ c.first_fields-first.ensures.fields c.requires.kept

pub returns-clause-ok : goal.returns-clause-ok
returns-clause-ok c =
    let same = after_row-take c.args.self.now c.args.number _ (fields_of c.args.line.now) c.first_fields-first.ensures.fields in
    on_ok_weaker c.take_fields.result (λ e. e ∙ same) c.take_fields.ensures.ok

pub returns-clause-grows : goal.returns-clause-grows
returns-clause-grows c =
    let fields = c.first_fields-first.ensures.fields in
    on_err_weaker c.take_fields.result
    (λ g. (
      g.0,
      sym (ap (λ fs. outcome_grows (item_of limits c.args.self.now fs)) fields ∙ ap outcome_grows (item_of-take c.args.self.now (fields_of c.args.line.now)))
          ∙ g.1,
    ))
    c.take_fields.ensures.grows
