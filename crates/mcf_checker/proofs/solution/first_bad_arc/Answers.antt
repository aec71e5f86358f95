use Rattle.std.proofs.Common.{arith, below_more, sym, ◌∙◌}
use Rattle.mcf_checker.proofs.BadArcs.{agreement_read, bad_arc-some, bad_arc_nowhere, bad_arc_past}
use Rattle.mcf_checker.proofs.solution.first_bad_arc.Goals as goal

pub loop-place-preserved : goal.loop-place-preserved
loop-place-preserved c =
    below_more _ _ c.loop-place.invariant
    (agreement_read c.args.instance.now.arcs c.args.sent.now c.loop-place.place c.index-sent-place.result c.agrees_at.result c.loop-place-test.true
    c.index-sent-place.is c.agrees_at.ensures ∙ c.if-not-agrees_at.false)

pub returns-then-not-agrees_at : goal.returns-then-not-agrees_at
returns-then-not-agrees_at c =
    sym (bad_arc-some c.args.instance.now c.args.sent.now c.loop-place.place (omega arith) c.loop-place.invariant
    (agreement_read c.args.instance.now.arcs c.args.sent.now c.loop-place.place c.index-sent-place.result c.agrees_at.result c.loop-place-test.true
    c.index-sent-place.is c.agrees_at.ensures ∙ c.if-not-agrees_at.true))

pub returns-then-sent-arc_count : goal.returns-then-sent-arc_count
returns-then-sent-arc_count c =
    sym (bad_arc_past c.args.instance.now c.args.sent.now (omega arith) (λ j h. c.loop-place.invariant j (omega arith)))

pub returns : goal.returns
returns c =
    sym (bad_arc_nowhere c.args.instance.now c.args.sent.now (omega arith) (λ j h. c.loop-place.invariant j (omega arith)))
