use Rattle.std.proofs.Common.{◌≡◌, ◌+◌, length, min, ap, ◌∙◌, arith}
use Rattle.mcf_simplex.proofs.Pieces.{before_end, before_next}
use Rattle.mcf_simplex.proofs.following.most_violated_in_block.Goals as goal

pub stretches-preserved : goal.stretches-preserved
stretches-preserved c =
    let m : c.arc_count-arcs.result ≡ length c.args.basis.now.net.arcs = c.arc_count-arcs.ensures.value ∙ ap (λ g. length g.arcs) c.net.ensures.value in
    let first : c.min-first.result + 1 ≡ min (c.stretches.behind + c.args.begin) (length c.args.basis.now.net.arcs) + 1 =
    ap (λ n. n + 1) (c.min-first.ensures ∙ ap (min (c.stretches.behind + c.args.begin)) m) in
    let last : c.min-last.result + 1 ≡ min (c.stretches.behind + c.args.end) (length c.args.basis.now.net.arcs) + 1 =
    ap (λ n. n + 1) (c.min-last.ensures ∙ ap (min (c.stretches.behind + c.args.end)) m) in
    before_next c.args.basis.now c.args.stretch c.args.begin c.args.end c.stretches.behind c.stretches.invariant.turns (c.min-first.result + 1)
    (c.min-last.result + 1) c.stretches.invariant.whole c.requires.high first last c.stretches.best c.most_violated-found.result
    c.more_violated-best.result c.stretches.invariant.picked c.most_violated-found.ensures.value c.more_violated-best.ensures

pub returns : goal.returns
returns c =
    let m : c.arc_count-arcs.result ≡ length c.args.basis.now.net.arcs = c.arc_count-arcs.ensures.value ∙ ap (λ g. length g.arcs) c.net.ensures.value in
    let all = c.stretches-test.false in
    before_end c.args.basis.now c.args.stretch c.args.begin c.args.end c.stretches.behind c.stretches.best (omega (arith, m, all)) c.stretches.invariant
