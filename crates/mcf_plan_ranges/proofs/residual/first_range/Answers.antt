use Rattle.std.proofs.Common.{◌≡◌, ◌∷◌, [], ap, sym, ◌∙◌, subst, arith, get_or, replicate, pos}
use Rattle.mcf_flows.proofs.AllZips.{AllZip-at}
use Rattle.mcf_plan_ranges.specs.Private.Units.{still}
use Rattle.mcf_ranges.specs.Ranges.{IsCostRange}
use Rattle.mcf_plan_ranges.proofs.residual.first_range.Goals as goal

pub returns-clause-exact : goal.returns-clause-exact
returns-clause-exact c =
    let g = c.args.instance.now in
    let flow : c.deref.result.now ≡ still g.arcs =
    c.deref.ensures.value ∙ c.in_ok-flow.ensures.value ∙ ap (λ n. replicate n (pos 0)) c.arc_count-count.ensures.value in
    let first : IsCostRange g c.deref.result.now (get_or (c.new.result ∷ []) 0 0) (get_or c.in_ok-ranges.ranges.items 0 c.index.result.now) =
    AllZip-at (IsCostRange g c.deref.result.now) (c.new.result ∷ []) c.in_ok-ranges.ranges.items 0 0 c.index.result.now c.in_ok-ranges.ensures.ranges (omega arith) in
    let one = subst (λ k. IsCostRange g c.deref.result.now k (get_or c.in_ok-ranges.ranges.items 0 c.index.result.now)) c.new.ensures first in
    subst (IsCostRange g (still g.arcs) 1) (sym c.index.ensures)
    (subst (λ f. IsCostRange g f 1 (get_or c.in_ok-ranges.ranges.items 0 c.index.result.now)) flow one)
