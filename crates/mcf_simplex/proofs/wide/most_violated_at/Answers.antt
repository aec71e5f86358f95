use Rattle.std.proofs.Common.{◌≡◌, length, ap, ◌∙◌}
use Rattle.std.specs.Int.{div_ceil}
use Rattle.mcf_simplex.specs.Stretches.{stretch_length}
use Rattle.mcf_simplex.proofs.Turns.{at_turn}
use Rattle.mcf_simplex.proofs.wide.most_violated_at.Goals as goal

pub returns : goal.returns
returns c =
    let m : c.arc_count-arcs.result ≡ length c.args.basis.now.net.arcs = c.arc_count-arcs.ensures.value ∙ ap (λ g. length g.arcs) c.net.ensures.value in
    let l : c.div_ceil-length.result ≡ stretch_length (length c.args.basis.now.net.arcs) = c.div_ceil-length.ensures ∙ ap (λ n. div_ceil n 4) m in
    at_turn c.args.basis.now (length c.args.basis.now.net.arcs) c.args.size c.args.turn c.arc_count-arcs.result c.div_ceil-length.result c.min.result
    c.min-2.result c.min-3.result c.most_violated.result c.requires.size m l c.requires.turn c.min.ensures c.min-2.ensures c.min-3.ensures
    c.most_violated.ensures.value
