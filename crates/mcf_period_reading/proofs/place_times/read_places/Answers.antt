use Rattle.std.proofs.Common.{◌∙◌, ◌+◌, ◌++◌, ◌∷◌, [], Bool, List, length, slice_index_or, ap, arith}
use Rattle.std.proofs.lemmas.List.FromFn.{get_or-map-range_with_len, length-map-range_with_len}
use Rattle.mcf_table.specs.Heads.{cells_of}
use Rattle.mcf_reading.proofs.Ranges.{made, pushed}
use Rattle.mcf_period_reading.specs.PlaceTimes.{is_taken, place_faults, place_time}
use Rattle.mcf_period_reading.specs.declared.place_times.PlaceTime.{PlaceTime}
use Rattle.mcf_period_reading.proofs.place_times.read_places.Goals as goal

pub index-requires : goal.index-requires
index-requires c =
    let size = ap length c.in_ok-taken.ensures ∙ length-map-range_with_len (is_taken c.args.all.now) 1 c.row_count.result in
    omega (arith, c.loop-place-test.true, c.in_ok-taken.taken.ok.0, size, c.row_count.ensures, c.row_count-place-end.ensures)

pub push_faults-requires-clause-taken : goal.push_faults-requires-clause-taken
push_faults-requires-clause-taken c =
    let place = c.loop-place.place in
    let taken = c.index.result.now in
    c.index.ensures ∙ ap (λ (all : List Bool). slice_index_or all place taken) c.in_ok-taken.ensures
    ∙ get_or-map-range_with_len (is_taken c.args.all.now) 1 c.row_count.result place (place + 1) taken
    (omega (arith, c.loop-place-test.true, c.row_count.ensures, c.row_count-place-end.ensures)) (omega arith)

pub loop-place-preserved : goal.loop-place-preserved
loop-place-preserved c =
    let records = c.args.records.now in
    let place = c.loop-place.place in
    let before = c.loop-place.made.items in
    let format = c.args.format in
    let all = c.args.all.now in
    record {
      times = made (λ row. place_time format all row (cells_of records row)) 1 place (place + 1) before c.push.new.self.items (omega arith)
          c.loop-place.invariant.times (c.in_ok-push.ensures.items ∙ ap (λ (time : PlaceTime). before ++ time ∷ []) c.place_time.ensures);
      faults = pushed (λ row. place_faults format all row (cells_of records row)) 1 place (place + 1) c.args.faults.now.items c.loop-place.faults.items
          c.push_faults.new.faults.items (omega arith) c.loop-place.invariant.faults c.in_ok-push_faults.ensures;
    }
