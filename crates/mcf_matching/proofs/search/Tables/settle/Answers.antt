use Rattle.std.proofs.Common.{◌-◌, ◌∙◌, ap, get_or, sym}
use Rattle.mcf_matching.specs.declared.scene.Mate.{Mate}
use Rattle.mcf_matching.specs.Private.Forests.{mate}
use Rattle.mcf_offers.specs.Offers.{Offer}
use Rattle.mcf_matching.proofs.search.Tables.settle.Goals as goal

pub returns-clause-pair : goal.returns-clause-pair
returns-clause-pair g c =
    let (k, p, e) = c.requires.matched in
    let place = c.place-c.ensures ∙ ap (λ v. v - 1) (c.new-column.ensures ∙ ap (λ (o : Offer). o.column) c.offer.view_is ∙ sym e) in
    let read = ap (λ i. get_or c.args.scene.now.mates.now i (mate 0 0)) place ∙ c.requires.scene.mates.at_column k p in
    (k, p, e, sym (c.new-row.ensures ∙ ap (λ (m : Mate). m.node) read))
