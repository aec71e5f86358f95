use Rattle.std.proofs.Common.{arith, subst}
use Rattle.mcf_cancel.specs.Private.Labels.{Labels, IsLabelling}
use Rattle.mcf_cancel.proofs.Offers.{read_link}
use Rattle.mcf_cancel.proofs.Paths.{link_step}
use Rattle.mcf_cancel.proofs.price_search.PriceSearch.link.Goals as goal

pub returns-clause-step : goal.returns-clause-step
returns-clause-step c =
    let l : Labels = record { flow = c.self.inside.state.now; prices = c.self.inside.prices.items; links = c.self.inside.links.items } in
    let ok = subst IsLabelling c.self.view_is c.self.invariant in
    let link = read_link l c.args.self.now c.place.result c.args.v c.index.result.now c.self.view_is c.self.invariant c.requires c.place.ensures
    c.index.ensures in
    let h = c.requires in
    link_step c.args.self.now c.args.v c.index.result.now ok (h.0, omega (arith, h, ok.link_count)) link
