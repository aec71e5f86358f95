use Rattle.std.proofs.Common.{[], ap, sym, ◌∙◌}
use Rattle.std.proofs.lemmas.List.{get_or-map}
use Rattle.mcf_instance.proofs.LineSteps.{number_at-whole_of, number_read, value_kept}
use Rattle.mcf_instance.proofs.reader.line.number_of.Goals as goal

pub returns-in-Value : goal.returns-in-Value
returns-in-Value c =
    value_kept _ c.args.k _ c.in-Value.value (get_or-map (λ f. f.now) c.args.fields.now c.args.k _ [] c.requires) (sym c.whole.ensures ∙ c.in-Value.is)

pub returns-in-OutOfRange : goal.returns-in-OutOfRange
returns-in-OutOfRange c =
    sym (number_at-whole_of _ c.args.k _ (get_or-map (λ f. f.now) c.args.fields.now c.args.k _ [] c.requires)
    ∙ ap number_read (sym c.whole.ensures ∙ c.in-OutOfRange.is))

pub returns-in-NotWhole : goal.returns-in-NotWhole
returns-in-NotWhole c =
    sym (number_at-whole_of _ c.args.k _ (get_or-map (λ f. f.now) c.args.fields.now c.args.k _ [] c.requires)
    ∙ ap number_read (sym c.whole.ensures ∙ c.in-NotWhole.is))
