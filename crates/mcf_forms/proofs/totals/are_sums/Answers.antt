use Rattle.std.proofs.Common.{length, ◌∙◌, sym, arith}
use Rattle.mcf_table.specs.Heads.{heads}
use Rattle.mcf_forms.specs.Totals.{may_sum}
use Rattle.mcf_forms.proofs.Ranges.{all_more, not_all}
use Rattle.mcf_forms.proofs.totals.are_sums.Goals as goal

pub returns-then-not-may : goal.returns-then-not-may
returns-then-not-may c =
    let place = c.loop-place.place in
    sym (not_all (may_sum c.args.records.now c.args.row) 0 (length (heads c.args.records.now)) place place (omega arith) (omega arith)
    (sym c.in_ok-may.ensures ∙ c.if-not-may.true))

pub loop-place-preserved : goal.loop-place-preserved
loop-place-preserved c =
    let place = c.loop-place.place in
    all_more (may_sum c.args.records.now c.args.row) 0 place place (omega arith) c.loop-place.invariant
    (sym c.in_ok-may.ensures ∙ c.if-not-may.false)
