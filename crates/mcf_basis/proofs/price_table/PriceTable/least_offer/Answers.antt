use Rattle.std.proofs.Common.{◌≡◌, ap, subst, sym, ◌∙◌}
use Rattle.mcf_basis.specs.Private.Columns.{gap_of, limit_of, priced_in, prices_in}
use Rattle.mcf_basis.specs.Private.Layouts.{Prices}
use Rattle.mcf_basis.specs.Private.Offered.{CanCompareIn, IsLeastOffer}
use Rattle.mcf_basis.proofs.GapTables.{can_compare_stored, least_stored, narrow_table}
use Rattle.mcf_basis.proofs.price_table.PriceTable.least_offer.Goals as goal

pub least_offer-requires-clause-compare : goal.least_offer-requires-clause-compare
least_offer-requires-clause-compare c =
    let gap = c.in-Narrow.field-1 in
    let stored = c.in-Narrow.prices.entries in
    let is : c.args.self.now ≡ narrow_table gap c.in-Narrow.prices.written stored =
    sym c.self.view_is ∙ ap (λ x. record { prices = prices_in x; priced = priced_in x; limit = limit_of x; gap = gap_of x }) c.in-Narrow.is in
    let can = subst (λ t. CanCompareIn t c.args.offers.now) is c.requires.compare in
    rw c.entries.ensures (can_compare_stored gap c.in-Narrow.prices.written stored c.args.offers.now can)

pub returns-in-Narrow : goal.returns-in-Narrow
returns-in-Narrow c =
    let gap = c.in-Narrow.field-1 in
    let stored = c.in-Narrow.prices.entries in
    let is : c.args.self.now ≡ narrow_table gap c.in-Narrow.prices.written stored =
    sym c.self.view_is ∙ ap (λ x. record { prices = prices_in x; priced = priced_in x; limit = limit_of x; gap = gap_of x }) c.in-Narrow.is in
    let can = subst (λ t. CanCompareIn t c.args.offers.now) is c.requires.compare in
    let found = rw c.entries.ensures at c.least_offer.ensures in
    subst (λ (t : Prices). IsLeastOffer t.prices c.args.offers.now c.args.begin c.args.end c.least_offer.result) (sym is)
    (least_stored gap c.in-Narrow.prices.written stored c.args.offers.now can c.args.begin c.args.end c.requires.high c.least_offer.result found)
