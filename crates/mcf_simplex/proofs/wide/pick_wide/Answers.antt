use Rattle.std.proofs.Common.{◌≡◌, length, refl, ap, ◌∙◌, arith}
use Rattle.mcf_simplex.specs.Stretches.{turn_count}
use Rattle.mcf_simplex.proofs.Turns.{found_at, none_left, none_more, nothing_found}
use Rattle.mcf_simplex.proofs.wide.pick_wide.Goals as goal

pub loop-passed-preserved : goal.loop-passed-preserved
loop-passed-preserved c =
    let m : c.arc_count.result ≡ length c.args.basis.now.net.arcs = c.arc_count.ensures.value ∙ ap (λ g. length g.arcs) c.net.ensures.value in
    none_more c.args.basis.now c.args.size c.turn_count-turns.result c.start_turn-start.result c.loop-passed.passed c.turn_after-turn.result
    c.loop-passed.invariant c.turn_after-turn.ensures.value c.in_default.ensures

pub returns-clause-none : goal.returns-clause-none
returns-clause-none c =
    let m : c.arc_count.result ≡ length c.args.basis.now.net.arcs = c.arc_count.ensures.value ∙ ap (λ g. length g.arcs) c.net.ensures.value in
    none_left c.args.basis.now c.args.size c.turn_count-turns.result c.start_turn-start.result c.requires.size
    (c.turn_count-turns.ensures.value ∙ ap (λ n. turn_count n c.args.size) m) c.start_turn-start.ensures.high
    (λ p low. c.loop-passed.invariant p (let all = c.loop-passed-test.false in omega (arith, all, low)))

pub returns-clause-picks : goal.returns-clause-picks
returns-clause-picks c =
    let m : c.arc_count.result ≡ length c.args.basis.now.net.arcs = c.arc_count.ensures.value ∙ ap (λ g. length g.arcs) c.net.ensures.value in
    nothing_found c.args.basis.now (record { size = c.args.size; next = c.args.next }) (record { size = c.args.size; next = c.start_turn-start.result })
    c.turn_count-turns.result c.start_turn-start.result c.requires.size
    (c.turn_count-turns.ensures.value ∙ ap (λ n. turn_count n c.args.size) m) c.start_turn-start.ensures.value c.start_turn-start.ensures.high
    (λ p low. c.loop-passed.invariant p (let all = c.loop-passed-test.false in omega (arith, all, low))) refl refl

pub returns-in-Some-clause-picks : goal.returns-in-Some-clause-picks
returns-in-Some-clause-picks c =
    let m : c.arc_count.result ≡ length c.args.basis.now.net.arcs = c.arc_count.ensures.value ∙ ap (λ g. length g.arcs) c.net.ensures.value in
    found_at c.args.basis.now (record { size = c.args.size; next = c.args.next }) (record { size = c.args.size; next = c.turn_after.result })
    c.turn_count-turns.result c.start_turn-start.result c.loop-passed.passed c.turn_after-turn.result c.in-Some.k
    (c.turn_count-turns.ensures.value ∙ ap (λ n. turn_count n c.args.size) m) c.start_turn-start.ensures.value c.loop-passed-test.true
    c.loop-passed.invariant c.turn_after-turn.ensures.value c.in-Some.ensures refl c.turn_after.ensures.value
