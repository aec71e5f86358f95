use Rattle.std.proofs.Common.{◌≡◌, length, refl, ap, ◌∙◌, arith}
use Rattle.mcf_simplex.specs.Blocks.{BlockRule, arc_in_round, block_end, start_arc}
use Rattle.mcf_simplex.proofs.Rounds.{none_left, passed_found, passed_more, passed_nothing}
use Rattle.mcf_simplex.proofs.block.pick_block.Goals as goal

pub returns-in-Some-clause-picks : goal.returns-in-Some-clause-picks
returns-in-Some-clause-picks c =
    let b = c.args.basis.now in
    let m : c.arc_count-arcs.result ≡ length c.args.basis.now.net.arcs = c.arc_count-arcs.ensures.value ∙ ap (λ g. length g.arcs) c.net.ensures.value in
    let old : BlockRule = record { size = c.args.size; next = c.args.next } in
    let new : BlockRule = record { size = c.args.size; next = c.arc_in_round-behind.result } in
    let more = c.rounds-test.true in
    passed_found b old new c.start_arc-start.result c.rounds.passed c.block_end-end.result c.in-Some.k
    (c.start_arc-start.ensures.value ∙ ap (λ n. start_arc n c.args.next) m)
    c.rounds.invariant (omega (arith, m, more))
    (c.block_end-end.ensures.value ∙ ap (λ n. block_end n c.args.size c.rounds.passed) m)
    c.in-Some.ensures refl
    (c.arc_in_round-behind.ensures.value ∙ ap (λ n. arc_in_round n c.start_arc-start.result c.block_end-end.result) m)

pub rounds-preserved : goal.rounds-preserved
rounds-preserved c =
    let b = c.args.basis.now in
    let m : c.arc_count-arcs.result ≡ length c.args.basis.now.net.arcs = c.arc_count-arcs.ensures.value ∙ ap (λ g. length g.arcs) c.net.ensures.value in
    let more = c.rounds-test.true in
    passed_more b c.args.size c.start_arc-start.result c.rounds.passed c.block_end-end.result c.rounds.invariant (omega (arith, m, more))
    (c.block_end-end.ensures.value ∙ ap (λ n. block_end n c.args.size c.rounds.passed) m) c.in-None.ensures

pub returns-clause-none : goal.returns-clause-none
returns-clause-none c =
    let b = c.args.basis.now in
    let m : c.arc_count-arcs.result ≡ length c.args.basis.now.net.arcs = c.arc_count-arcs.ensures.value ∙ ap (λ g. length g.arcs) c.net.ensures.value in
    let all = c.rounds-test.false in
    let high = c.start_arc-start.ensures.high in
    none_left b c.args.size c.start_arc-start.result c.rounds.passed c.start_arc-start.ensures.low
    (λ h. (let low = high (omega (arith, m, h)) in omega (arith, m, low)))
    c.rounds.invariant (omega (arith, m, all))

pub returns-clause-picks : goal.returns-clause-picks
returns-clause-picks c =
    let b = c.args.basis.now in
    let m : c.arc_count-arcs.result ≡ length c.args.basis.now.net.arcs = c.arc_count-arcs.ensures.value ∙ ap (λ g. length g.arcs) c.net.ensures.value in
    let old : BlockRule = record { size = c.args.size; next = c.args.next } in
    let new : BlockRule = record { size = c.args.size; next = c.start_arc-start.result } in
    let all = c.rounds-test.false in
    let high = c.start_arc-start.ensures.high in
    passed_nothing b old new c.start_arc-start.result c.rounds.passed
    (c.start_arc-start.ensures.value ∙ ap (λ n. start_arc n c.args.next) m)
    c.start_arc-start.ensures.low (λ h. (let low = high (omega (arith, m, h)) in omega (arith, m, low))) c.rounds.invariant (omega (arith, m, all)) refl refl
