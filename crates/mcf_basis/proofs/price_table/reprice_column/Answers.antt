use Rattle.std.proofs.Common.{◌≡◌, arith, rules, subst, sym, to_z, of_z, ◌∙◌}
use mir.Syntax.{w128}
use Rattle.std.proofs.lemmas.Int.{ints, to_z-of_z}
use Rattle.mcf_basis.specs.declared.price_table.PriceColumn.TheVariants.{Narrow}
use Rattle.mcf_basis.specs.Private.Columns.{gap_of, limit_of, priced_in, prices_in}
use Rattle.mcf_basis.specs.Private.Layouts.{narrow_limit}
use Rattle.mcf_basis.specs.Private.Turned.{AreRaised, CanRaise, CanReprice}
use Rattle.mcf_basis.proofs.GapTables.{can_raise_stored, narrow_table, raised_stored}
use Rattle.mcf_basis.proofs.price_table.reprice_column.Goals as goal

pub reprice-requires : goal.reprice-requires
reprice-requires c =
    let gap = c.in-Narrow.gap in
    let stored = c.in-Narrow.prices.entries in
    let can : CanReprice c.args.part.now c.args.change (narrow_table gap c.in-Narrow.prices.written stored) =
    subst (λ x. CanReprice c.args.part.now c.args.change (record { prices = prices_in x; priced = priced_in x; limit = limit_of x; gap = gap_of x }))
    c.in-Narrow.is c.requires.change in
    let change = c.stored_change-change in
    let small = change.ensures.small in
    let d : c.of.result ≡ change.result = omega (arith, ints, c.of.ensures, small) in
    subst (λ z. CanRaise c.args.part.now z narrow_limit stored) (sym d)
    (can_raise_stored gap c.in-Narrow.prices.written stored c.args.part.now c.args.change can change.result change.ensures.small)

pub returns-in-Narrow-clause-prices : goal.returns-in-Narrow-clause-prices
returns-in-Narrow-clause-prices c =
    let gap = c.in-Narrow.gap in
    let stored = c.in-Narrow.prices.entries in
    let can : CanReprice c.args.part.now c.args.change (narrow_table gap c.in-Narrow.prices.written stored) =
    subst (λ x. CanReprice c.args.part.now c.args.change (record { prices = prices_in x; priced = priced_in x; limit = limit_of x; gap = gap_of x }))
    c.in-Narrow.is c.requires.change in
    let change = c.stored_change-change in
    let small = change.ensures.small in
    let d : c.of.result ≡ change.result = omega (arith, ints, c.of.ensures, small) in
    let raised = subst (λ z. AreRaised c.args.part.now z stored c.reprice.new.prices.entries) d c.reprice.ensures.prices in
    let given : to_z w128 (of_z w128 c.args.change) ≡ c.args.change = search (rules, to_z-of_z) in
    subst (λ x. AreRaised c.args.part.now c.args.change (prices_in x) (prices_in (Narrow c.reprice.new.prices gap))) (sym c.in-Narrow.is)
    (raised_stored gap c.in-Narrow.prices.written stored c.args.part.now c.args.change can change.result c.reprice.new.prices.entries
    (sym given ∙ change.ensures.value) raised)
