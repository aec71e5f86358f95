use Rattle.std.proofs.Common.{◌∙◌, ◌+◌, ◌-◌, ◌∷◌, ◌++◌, [], ℕ, sym, ap, arith}
use Rattle.std.specs.List.{range_with_len}
use Rattle.std.proofs.lemmas.List.Folds.{list_all-map}
use Rattle.std.proofs.lemmas.Simd.{map-map}
use Rattle.mcf_decimal.specs.declared.decimal.Decimal.{Decimal}
use Rattle.mcf_forms.specs.Cells.{cell_at}
use Rattle.mcf_forms.specs.Sums.{is_readable, number_in}
use Rattle.mcf_forms.proofs.Ranges.{all_more, made, not_all}
use Rattle.mcf_forms.proofs.totals.numbers_above.Goals as goal

pub returns-in-None : goal.returns-in-None
returns-in-None c =
    let above = c.loop-above.above in
    let cell = λ (row : ℕ). cell_at c.args.records.now row c.args.place in
    list_all-map (is_readable c.args.mark) cell (range_with_len 1 (c.args.row - 1))
    ∙ not_all (λ row. is_readable c.args.mark (cell row)) 1 (c.args.row - 1) above (above + 1) (omega arith) (omega arith)
    (ap (is_readable c.args.mark) (sym c.cell.ensures) ∙ c.in-None.ensures)

pub loop-above-preserved : goal.loop-above-preserved
loop-above-preserved c =
    let above = c.loop-above.above in
    let mark = c.args.mark in
    let cell = λ (row : ℕ). cell_at c.args.records.now row c.args.place in
    let rows = range_with_len 1 in
    record {
      all = list_all-map (is_readable mark) cell (rows (above + 1))
          ∙ all_more (λ row. is_readable mark (cell row)) 1 above (above + 1) (omega arith)
          (sym (list_all-map (is_readable mark) cell (rows above)) ∙ c.loop-above.invariant.all)
          (ap (is_readable mark) (sym c.cell.ensures) ∙ c.in-Some.ensures.0);
      made = made (λ row. number_in mark (cell row)) 1 above (above + 1) c.loop-above.made.items c.push.new.self.items (omega arith)
          (c.loop-above.invariant.made ∙ map-map (number_in mark) cell (rows above))
          (c.in_ok-push-in-Some.ensures.items
          ∙ ap (λ (number : Decimal). c.loop-above.made.items ++ number ∷ []) (c.in-Some.ensures.1 ∙ ap (number_in mark) c.cell.ensures))
          ∙ sym (map-map (number_in mark) cell (rows (above + 1)));
    }
