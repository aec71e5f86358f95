use Rattle.std.proofs.Common.{arith}
use Rattle.std.proofs.lemmas.List.{take_rest}
use Rattle.mcf_table.proofs.RowLemmas.{field_broken, field_last, field_more, nothing_begun}
use Rattle.mcf_table.proofs.rows.read_row.Goals as goal

pub fields-init : goal.fields-init
fields-init c = record { inside = omega arith; begun = nothing_begun c.args.separator c.args.text.now c.args.cells.now }

pub returns-in-Err-clause-err : goal.returns-in-Err-clause-err
returns-in-Err-clause-err c =
    let breaks = simp take_rest at (c.in-Err.ensures.err) in
    field_broken c.args.separator c.args.text.now c.fields.at c.args.cells.now c.fields.cells c.in-Err.kind c.fields.invariant.begun breaks

pub returns-then-not-is_separated-clause-ok : goal.returns-then-not-is_separated-clause-ok
returns-then-not-is_separated-clause-ok c =
    let field = c.in-Ok.field in
    let first = simp take_rest at (c.in-Ok.ensures.ok) in
    let ends = simp take_rest at (c.is_separated.ensures.no c.if-not-is_separated.true) in
    field_last c.args.separator c.args.text.now c.fields.at field.len c.args.cells.now c.fields.cells c.push_content.new.self field.content.now
    field.is_quoted c.fields.invariant.inside c.fields.invariant.begun first (λ inside is. c.in_ok-push_content.ensures inside is) ends

pub fields-preserved : goal.fields-preserved
fields-preserved c =
    let field = c.in-Ok.field in
    let first = simp take_rest at (c.in-Ok.ensures.ok) in
    let next = simp take_rest at (c.is_separated.ensures.yes c.if-not-is_separated.false) in
    let both = field_more c.args.separator c.args.text.now c.fields.at field.len c.args.cells.now c.fields.cells c.push_content.new.self
    field.content.now field.is_quoted c.fields.invariant.inside c.fields.invariant.begun first (λ inside is. c.in_ok-push_content.ensures inside is)
    next.0 next.1 in
    record { inside = both.0; begun = both.1 }
