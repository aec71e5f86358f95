use Rattle.std.proofs.Common.{List, ◌≡◌, ◌++◌, subst}
use Rattle.std.specs.Prelude.{Option}
use Rattle.mcf_answer_rows.specs.Lines.{rows_text}
use Rattle.mcf_range_text.specs.RangeTexts.{range_rows}
use Rattle.mcf_ranges.specs.declared.range.CostRange.{CostRange}
use Rattle.mcf_range_text.proofs.Told.{is_told}
use Rattle.mcf_range_text.proofs.telling.told_with_ranges.Goals as goal

pub returns : goal.returns
returns g c =
    let put = subst (λ (rs : List (Option CostRange)). c.put_ranges.new.out.items ≡ c.in_ok-told.told.text.items ++ rows_text (range_rows c.args.answer.now rs))
    c.deref.ensures.value c.in_ok-put_ranges.ensures in
    is_told c.args.answer.now c.in_ok-ranges.ranges.items c.in_ok-units.units c.in_ok-told.told.text.items c.put_ranges.new.out.items
    (record { text = c.put_units.new.out; kind = c.in_ok-told.told.kind }) c.in_ok-ranges.ensures c.in_ok-units.ensures c.in_ok-told.ensures.text put
    c.in_ok-put_units.ensures c.in_ok-told.ensures.kind
