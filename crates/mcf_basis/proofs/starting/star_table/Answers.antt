use Rattle.std.proofs.Common.{◌≡◌, ap, arith, map, pos, refl, ◌-ℤ◌, ◌∙◌}
use Rattle.std.proofs.lemmas.Int.{ints}
use Rattle.mcf_basis.specs.Artificial.{artificial_cost}
use Rattle.mcf_basis.specs.Private.Gaps.{price_by}
use Rattle.mcf_basis.specs.Private.Layouts.{FitsWith, prices_of_star}
use Rattle.mcf_basis.specs.Private.Layouts.IsGapOf.{none}
use Rattle.mcf_basis.proofs.GapTables.{star_stored}
use Rattle.mcf_basis.proofs.TreePrices.{reach_small}
use Rattle.mcf_basis.proofs.starting.star_table.Goals as goal

pub returns-in_ok-prices-in-Some : goal.returns-in_ok-prices-in-Some
returns-in_ok-prices-in-Some c =
    let net = c.args.net.now in
    let gap = c.in-Some.gap in
    let fits : FitsWith net gap = c.price_gap.ensures.value gap c.in-Some.is in
    let less = fits.less in
    let room = fits.fits in
    let small = fits.small in
    let stored : c.of.result ≡ pos (artificial_cost net) -ℤ pos gap = omega (arith, ints, c.of.ensures, c.requires, less, room, small) in
    rw c.narrow.ensures (record {
      prices = ap (map (price_by gap)) (c.in_ok-prices-in-Some.ensures ∙ ap (prices_of_star net) stored) ∙ star_stored gap net less;
      priced = refl;
      fits = room;
      gap = fits.of_net;
    })

pub returns-in_ok-prices-in-None : goal.returns-in_ok-prices-in-None
returns-in_ok-prices-in-None c =
    let net = c.args.net.now in
    let reach = reach_small net c.price_gap.ensures.net in
    let stored : c.of_wide.result ≡ pos (artificial_cost net) = omega (arith, ints, c.of_wide.ensures, c.requires, reach) in
    rw c.wide.ensures (record { prices = c.in_ok-prices-in-None.ensures ∙ ap (prices_of_star net) stored; priced = refl; fits = reach; gap = none refl })
