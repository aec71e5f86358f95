use Rattle.std.proofs.Common.{◌≡◌, ◌+◌, ◌-◌, length, refl, ap, ◌∙◌, arith, subst}
use Rattle.mcf_basis.specs.Violations.{IsFrom, IsPickOf}
use Rattle.mcf_simplex.proofs.Rounds.{pick_both, pick_high, pick_low}
use Rattle.mcf_simplex.proofs.block.most_violated_in_round.Goals as goal

pub returns-then-last-arcs : goal.returns-then-last-arcs
returns-then-last-arcs c =
    let b = c.args.basis.now in
    let m : c.arc_count-arcs.result ≡ length c.args.basis.now.net.arcs = c.arc_count-arcs.ensures.value ∙ ap (λ g. length g.arcs) c.net.ensures.value in
    let h = c.if-last-arcs.true in
    pick_low b c.args.start c.args.begin c.args.end (c.args.start + c.args.begin) (c.args.start + c.args.end) c.most_violated.result refl refl
    (omega (arith, m, h)) c.most_violated.ensures.value

pub returns-then-first-arcs : goal.returns-then-first-arcs
returns-then-first-arcs c =
    let b = c.args.basis.now in
    let m : c.arc_count-arcs.result ≡ length c.args.basis.now.net.arcs = c.arc_count-arcs.ensures.value ∙ ap (λ g. length g.arcs) c.net.ensures.value in
    let h = c.if-first-arcs.true in
    pick_high b c.args.start c.args.begin c.args.end (c.args.start + c.args.begin - c.arc_count-arcs.result)
    (c.args.start + c.args.end - c.arc_count-arcs.result) c.most_violated-then-first-arcs.result
    (omega (arith, m, h)) (omega (arith, c.requires.order)) (omega (arith, m)) (omega (arith, m)) c.most_violated-then-first-arcs.ensures.value

pub returns : goal.returns
returns c =
    let b = c.args.basis.now in
    let m : c.arc_count-arcs.result ≡ length c.args.basis.now.net.arcs = c.arc_count-arcs.ensures.value ∙ ap (λ g. length g.arcs) c.net.ensures.value in
    let high = c.if-last-arcs.false in
    let low = c.if-first-arcs.false in
    let early : IsPickOf c.args.basis.now (IsFrom (c.args.start + c.args.begin) (length c.args.basis.now.net.arcs + 1)) c.most_violated-early.result =
    subst (λ n. IsPickOf c.args.basis.now (IsFrom (c.args.start + c.args.begin) (n + 1)) c.most_violated-early.result) m
    c.most_violated-early.ensures.value in
    pick_both b c.args.start c.args.begin c.args.end (c.args.start + c.args.begin) (c.args.start + c.args.end - c.arc_count-arcs.result)
    c.most_violated-early.result c.most_violated-late.result c.more_violated.result
    refl (omega (arith, m, low)) (omega (arith, m, high)) (omega (arith, c.requires.start)) (omega (arith, m)) early c.most_violated-late.ensures.value
    c.more_violated.ensures
