use Rattle.std.proofs.Common.{◌≡◌, ◌∙◌, ℕ, List, length, ◌∷◌, [], true, false, cond, sym, ap, subst, rules}
use Rattle.std.specs.Prelude.{IfOk}
use Rattle.mcf_period_units.specs.PeriodEntries.{entries_over}
use Rattle.mcf_period_reading.specs.declared.place_times.PlaceTime.{PlaceTime}
use Rattle.mcf_period_units.specs.Spans.{span_in}
use Rattle.mcf_period_units.specs.declared.spans.Span.{Span}
use Rattle.mcf_period_units.specs.PeriodGreats.{great_rows, is_large}
use Rattle.mcf_period_units.specs.declared.faults.PeriodGreat.{PeriodGreat}
use Rattle.mcf_period_units.specs.declared.faults.PeriodGreat.TheVariants.{Places}
use Rattle.mcf_period_units.proofs.greats.greats.Goals as goal

spans : (xs times : List PlaceTime) (n last : ℕ) (span : Span) → span ≡ span_in xs n → xs ≡ times → n ≡ last → span ≡ span_in times last
spans xs times n last span e p q = e ∙ ap (λ (ts : List PlaceTime). span_in ts n) p ∙ ap (λ (k : ℕ). span_in times k) q

pub returns-then-is_large : goal.returns-then-is_large
returns-then-is_large c =
    let E = entries_over c.args.tables.now c.args.times.now in
    let span = spans c.deref.result.now c.args.times.now.places.items c.len.result (length c.args.times.now.periods) c.span_in-span.result
    c.span_in-span.ensures c.deref.ensures.value c.len.ensures in
    let large : is_large E ≡ true = sym (c.is_large.ensures E (sym c.requires) (sym span)) ∙ c.if-is_large.true in
    let rest = great_rows c.args.scales E c.args.terms in
    let is : c.in_ok-vec.field-0.items ≡ Places ∷ [] = search rules in
    is ∙ sym (ap (λ b. cond b (Places ∷ []) rest) large)

pub returns : goal.returns
returns c =
    let E = entries_over c.args.tables.now c.args.times.now in
    let span = spans c.deref.result.now c.args.times.now.places.items c.len.result (length c.args.times.now.periods) c.span_in-span.result
    c.span_in-span.ensures c.deref.ensures.value c.len.ensures in
    let small : is_large E ≡ false = sym (c.is_large.ensures E (sym c.requires) (sym span)) ∙ c.if-is_large.false in
    let rest = great_rows c.args.scales E c.args.terms in
    subst (λ (xs : List PeriodGreat). IfOk c.great_rows.result (λ found. found.items ≡ xs)) (sym (ap (λ b. cond b (Places ∷ []) rest) small)) c.great_rows.ensures
