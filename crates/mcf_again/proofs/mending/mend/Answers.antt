use Rattle.std.proofs.Common.{◌∙◌, ◌++◌, List, ℤ, drop, length, take, ap, sym, subst, arith}
use Rattle.std.proofs.Math.Seq.{take-append_seam}
use Rattle.mcf_flows.specs.Network.{Network}
use Rattle.mcf_network.specs.States.{Pseudoflow}
use Rattle.mcf_engine.specs.Outcomes.{AreStatePrices, IsLeastState}
use Rattle.mcf_again.proofs.mending.mend.Goals as goal

pub returns-then-find-clause-least : goal.returns-then-find-clause-least
returns-then-find-clause-least c =
    let here = c.lay_out.ensures ∙ ap (λ (s : Pseudoflow). s.net) c.in_ok-state.ensures.value in
    subst (λ (g : Network). IsLeastState g c.find.new.state) here (c.find.ensures.least c.if-find.true)

pub returns-then-find-clause-prices : goal.returns-then-find-clause-prices
returns-then-find-clause-prices c =
    let room = c.in_ok-prices.prices in
    let rest = drop (length c.find.new.prices) room.items in
    let count = c.find.ensures.count in
    let lent = ap (λ (l : List ℤ). length l) c.as_mut_slice.ensures.value in
    let whole = ap (λ k. take k (c.find.new.prices ++ rest)) (omega (arith, room.ok.0, count, lent)) ∙ take-append_seam c.find.new.prices rest in
    let here = c.lay_out.ensures ∙ ap (λ (s : Pseudoflow). s.net) c.in_ok-state.ensures.value in
    subst (λ (l : List ℤ). AreStatePrices c.args.net.now c.find.new.state l) (sym whole)
    (subst (λ (g : Network). AreStatePrices g c.find.new.state c.find.new.prices) here (c.find.ensures.prices c.if-find.true))
