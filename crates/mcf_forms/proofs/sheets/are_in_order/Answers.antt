use Rattle.std.proofs.Common.{length, ◌∙◌, sym, arith}
use Rattle.mcf_forms.specs.Wishes.{is_in_order}
use Rattle.mcf_forms.proofs.Ranges.{all_more, not_all}
use Rattle.mcf_forms.proofs.sheets.are_in_order.Goals as goal

pub returns-then-not-is_in_order : goal.returns-then-not-is_in_order
returns-then-not-is_in_order c =
    let place = c.loop-place.place in
    sym (not_all (is_in_order c.args.ranks.now) 0 (length c.args.ranks.now) place place (omega arith) (omega arith)
    (sym c.is_in_order.ensures ∙ c.if-not-is_in_order.true))

pub loop-place-preserved : goal.loop-place-preserved
loop-place-preserved c =
    let place = c.loop-place.place in
    all_more (is_in_order c.args.ranks.now) 0 place place (omega arith) c.loop-place.invariant
    (sym c.is_in_order.ensures ∙ c.if-not-is_in_order.false)
