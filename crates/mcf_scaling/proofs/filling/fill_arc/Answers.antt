use Rattle.std.proofs.Common.{◌≡◌, arith, ap, ◌∙◌, false}
use Rattle.std.proofs.lemmas.Int.{ints}
use Rattle.mcf_flows.specs.Network.{Network}
use Rattle.mcf_network.proofs.StateLaws.{rid}
use Rattle.mcf_scaling.specs.Optimality.{scaled_reduced}
use Rattle.mcf_scaling.proofs.Fillings.{filled_back, filled_forward, filled_none}
use Rattle.mcf_scaling.proofs.filling.fill_arc.Goals as goal

pub returns-then-reduced-lt0 : goal.returns-then-reduced-lt0
returns-then-reduced-lt0 c =
    let is : c.reduced_cost-reduced.result ≡ scaled_reduced c.args.state.now.net c.args.prices.now (rid c.args.arc false) =
    c.reduced_cost-reduced.ensures.value ∙ ap (λ (g : Network). scaled_reduced g c.args.prices.now (rid c.args.arc false)) c.net.ensures.value in
    let test = c.if-reduced-lt0.true in
    filled_forward c.args.state.now c.push_all.new.state c.args.prices.now c.args.arc c.reduced_cost-reduced.result c.requires.flow c.requires.arc is
    (omega (arith, ints, test)) c.push_all.ensures.value c.push_all.ensures.valid

pub returns-then-reduced-gt0 : goal.returns-then-reduced-gt0
returns-then-reduced-gt0 c =
    let is : c.reduced_cost-reduced.result ≡ scaled_reduced c.args.state.now.net c.args.prices.now (rid c.args.arc false) =
    c.reduced_cost-reduced.ensures.value ∙ ap (λ (g : Network). scaled_reduced g c.args.prices.now (rid c.args.arc false)) c.net.ensures.value in
    let test = c.if-reduced-gt0.true in
    filled_back c.args.state.now c.push_all-then-reduced-gt0.new.state c.args.prices.now c.args.arc c.reduced_cost-reduced.result c.requires.flow
    c.requires.arc is (omega (arith, ints, test)) c.push_all-then-reduced-gt0.ensures.value c.push_all-then-reduced-gt0.ensures.valid

pub returns-else-reduced-gt0 : goal.returns-else-reduced-gt0
returns-else-reduced-gt0 c =
    let is : c.reduced_cost-reduced.result ≡ scaled_reduced c.args.state.now.net c.args.prices.now (rid c.args.arc false) =
    c.reduced_cost-reduced.ensures.value ∙ ap (λ (g : Network). scaled_reduced g c.args.prices.now (rid c.args.arc false)) c.net.ensures.value in
    let low = c.if-reduced-lt0.false in
    let high = c.if-reduced-gt0.false in
    filled_none c.args.state.now c.args.prices.now c.args.arc c.reduced_cost-reduced.result c.requires.flow is (omega (arith, ints, low))
    (omega (arith, ints, high))
