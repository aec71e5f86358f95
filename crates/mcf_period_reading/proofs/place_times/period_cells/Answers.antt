use Rattle.std.proofs.Common.{◌∙◌, ◌+◌, ◌++◌, ℕ, List, ap, sym, arith}
use Rattle.std.specs.List.{flat_map, range_with_len}
use Rattle.mcf_table.specs.Heads.{cells_of}
use Rattle.mcf_reading.specs.Cells.{cell_at}
use Rattle.mcf_reading.proofs.Ranges.{pieces_more}
use Rattle.mcf_period_reading.specs.PlaceTimes.{filled}
use Rattle.mcf_period_reading.proofs.place_times.period_cells.Goals as goal

pub loop-place-preserved : goal.loop-place-preserved
loop-place-preserved c =
    let place = c.loop-place.place in
    let piece = λ (row : ℕ). filled (cell_at (cells_of c.args.records.now row) c.args.column) in
    c.in_ok-push_filled.ensures
    ∙ ap (λ (cells : List (List ℕ)). cells ++ filled c.cell_at.result.now) c.loop-place.invariant
    ∙ ap (λ (cell : List ℕ). flat_map piece (range_with_len 1 place) ++ filled cell) c.cell_at.ensures
    ∙ sym (pieces_more piece 1 place (place + 1) (omega arith))
