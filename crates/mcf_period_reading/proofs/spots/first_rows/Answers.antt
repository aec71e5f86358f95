use Rattle.std.proofs.Common.{◌≡◌, ◌∙◌, true, false, ap}
use Rattle.std.specs.HashMap.{get}
use Rattle.std.specs.Option.{is_some}
use Rattle.mcf_period_reading.specs.Spots.{same_key}
use Rattle.mcf_period_reading.proofs.FirstRows.{row_kept, row_put}
use Rattle.mcf_period_reading.proofs.spots.first_rows.Goals as goal
use Rattle.mcf_period_reading.proofs.spots.first_rows.Goals.{then-not-contains_key+in_ok-insert, else-not-contains_key}

pub loop-place-preserved : goal.loop-place-preserved
loop-place-preserved c =
    let all = c.args.spots.now in
    let rows = c.loop-place.rows in
    let s = c.spot_at-spot.result in
    elim c.if-not-contains_key.branch [
      | then-not-contains_key+in_ok-insert w ↦
          let none : is_some (get same_key rows (s.place, s.period)) ≡ false = cc (c.contains_key.ensures, w.if-not-contains_key.true) in
          λ q.
          ap (λ m. get same_key m q) w.rows-is
          ∙ row_put all rows c.loop-place.place s c.spot_at-spot.ensures c.loop-place.invariant none w.insert.new.self
          w.in_ok-insert.ensures.updates.0 q
      | else-not-contains_key w ↦
          let has : is_some (get same_key rows (s.place, s.period)) ≡ true = cc (c.contains_key.ensures, w.if-not-contains_key.false) in
          λ q.
          ap (λ m. get same_key m q) w.rows-is
          ∙ row_kept all rows c.loop-place.place s c.spot_at-spot.ensures c.loop-place.invariant has q
    ]
