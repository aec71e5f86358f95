use Rattle.std.proofs.lemmas.List.{take_rest}
use Rattle.mcf_table.proofs.FieldLemmas.{after_quote, quoted_first}
use Rattle.mcf_table.proofs.fields.quoted_field.Goals as goal

pub returns-then-not-ends_field-clause-err : goal.returns-then-not-ends_field-clause-err
returns-then-not-ends_field-clause-err c =
    let closed = simp take_rest at (c.in-Some.ensures) in
    let other = simp take_rest at (c.ends_field.ensures.no c.if-not-ends_field.true) in
    after_quote c.args.separator c.args.text.now c.args.start c.in-Some.close c.requires closed other.0 other.1

pub returns-clause-ok : goal.returns-clause-ok
returns-clause-ok c =
    let closed = simp take_rest at (c.in-Some.ensures) in
    let ends = simp take_rest at (c.ends_field.ensures.yes c.if-not-ends_field.false) in
    simp take_rest (quoted_first c.args.separator c.args.text.now c.args.start c.in-Some.close c.requires closed ends)
