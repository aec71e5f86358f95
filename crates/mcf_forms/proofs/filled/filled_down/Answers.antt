use Rattle.std.proofs.Common.{◌≡◌, ◌∙◌, ◌+◌, ◌-◌, ◌++◌, ◌∷◌, [], ℕ, List, Bor, map, refl, sym, ap, arith}
use Rattle.mcf_table.specs.Texts.{Record}
use Rattle.mcf_forms.specs.Filled.{filled_row, takes, value_at}
use Rattle.mcf_forms.proofs.FilledLemmas.{byte_few, counted, line_kept, row_is}
use Rattle.mcf_forms.proofs.Ranges.{made}
use Rattle.mcf_forms.proofs.filled.filled_down.Goals as goal

pub loop-row-init : goal.loop-row-init
unfolding value_at
loop-row-init c = record { rows = c.new-rows.ensures; count = refl; few = omega arith; above = refl }

pub loop-row-preserved : goal.loop-row-preserved
loop-row-preserved c =
    let records = c.args.records.now in
    let place = c.args.place in
    let row = c.loop-row.row in
    let back : row + 1 - 1 ≡ row = omega arith in
    let is : record { line = c.line.result; cells = map (λ cell. cell.now) c.deref.result.now } ≡ filled_row records place row =
    row_is (filled_row records place row) _ _ (c.line.ensures ∙ sym (line_kept records place row))
    (ap (map (λ (cell : Bor (List ℕ)). cell.now)) c.deref.ensures.value ∙ c.in_ok-cells.ensures) in
    record {
      rows = made (filled_row records place) 0 row row c.loop-row.rows c.push_row.new.self (omega arith) c.loop-row.invariant.rows
          (c.in_ok-push_row.ensures.pushed ∙ ap (λ (one : Record). c.loop-row.rows ++ one ∷ []) is);
      count = rw c.from-count.ensures (counted (takes records place) row c.loop-row.count c.takes.result c.loop-row.invariant.count c.takes.ensures);
      few = omega (arith, c.loop-row.invariant.few, c.from-count.ensures, byte_few c.takes.result);
      above = rw back c.value_at-above.ensures;
    }
