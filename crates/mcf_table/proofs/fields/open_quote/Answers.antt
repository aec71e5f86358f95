use Rattle.std.proofs.Common.{◌∙◌, sym}
use Rattle.mcf_table.proofs.FieldLemmas.{no_opening, no_place, opens_at}
use Rattle.mcf_table.proofs.fields.open_quote.Goals as goal

pub returns-in-Some : goal.returns-in-Some
returns-in-Some c = opens_at c.args.text.now c.in-Some.place (sym c.first_other.ensures ∙ c.in-Some.is) c.if-text-place-eq34.true

pub returns-in_default : goal.returns-in_default
returns-in_default c = no_opening c.args.text.now c.in-Some.place (sym c.first_other.ensures ∙ c.in-Some.is) c.if-text-place-eq34.false

pub returns-in_default-2 : goal.returns-in_default-2
returns-in_default-2 c = no_place c.args.text.now (sym c.first_other.ensures ∙ c.in_default.is)
