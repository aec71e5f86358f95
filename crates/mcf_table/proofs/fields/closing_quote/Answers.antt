use Rattle.std.proofs.lemmas.List.{take_rest}
use Rattle.mcf_table.proofs.FieldLemmas.{closes, ends_open, goes_on}
use Rattle.mcf_table.proofs.fields.closing_quote.Goals as goal

pub returns-then-not-is_quote : goal.returns-then-not-is_quote
returns-then-not-is_quote c =
    let first = simp take_rest at (c.in-Some.ensures) in
    let next = simp take_rest at (c.is_quote.ensures.no c.if-not-is_quote.true) in
    closes c.args.text.now c.quotes.at c.in-Some.place c.quotes.invariant.inside c.quotes.invariant.opened first next

pub quotes-preserved : goal.quotes-preserved
quotes-preserved c =
    let first = simp take_rest at (c.in-Some.ensures) in
    let next = simp take_rest at (c.is_quote.ensures.yes c.if-not-is_quote.false) in
    let both = goes_on c.args.text.now c.quotes.at c.in-Some.place c.quotes.invariant.inside c.quotes.invariant.opened first next.0 next.1 in
    record { inside = both.0; opened = both.1 }

pub returns : goal.returns
returns c = ends_open c.args.text.now c.quotes.at c.quotes.invariant.opened (simp take_rest at (c.in_default.ensures))
