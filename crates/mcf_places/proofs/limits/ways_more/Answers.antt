use Rattle.std.proofs.Common.{◌≡◌, ◌∙◌, ◌+ℤ◌, ap, pos, rules, sym, true}
use Rattle.mcf_flows.specs.Network.{when}
use Rattle.mcf_model.specs.Tables.{route_of}
use Rattle.mcf_places.specs.Throughput.{cut, route_span}
use Rattle.mcf_places.proofs.CutSums.{cut_more}
use Rattle.mcf_places.proofs.Throughputs.{route_low}
use Rattle.mcf_places.proofs.limits.ways_more.Goals as goal

pub returns-then-row-clause-value : goal.returns-then-row-clause-value
returns-then-row-clause-value c =
    let r = route_of c.args.steps.now c.args.row in
    let both : c.args.row.both ≡ true = search rules in
    c.route_more.ensures.value
    ∙ ap (λ z. cut (z +ℤ route_span r)) c.route_more-there.ensures.value
    ∙ cut_more (pos c.args.total) (route_span r) (route_span r) (route_low r)
    ∙ ap (λ b. cut (pos c.args.total +ℤ (route_span r +ℤ when b (route_span r)))) (sym both)
