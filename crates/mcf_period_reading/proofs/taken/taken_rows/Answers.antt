use Rattle.std.proofs.Common.{◌≡◌, ◌∙◌, ◌+◌, ◌-◌, ◌++◌, ◌∷◌, [], Bool, nat_eq, take, ap, arith}
use Rattle.std.specs.HashSet.{contains}
use Rattle.std.specs.List.{list_any}
use Rattle.mcf_reading.proofs.Ranges.{made}
use Rattle.mcf_period_reading.specs.PlaceTimes.{clashes, is_taken}
use Rattle.mcf_period_reading.specs.Spots.{same_key, spot_at}
use Rattle.mcf_period_reading.specs.declared.spots.Spot.{Spot}
use Rattle.mcf_period_reading.proofs.SeenLemmas.{seen_all, seen_more}
use Rattle.mcf_period_reading.proofs.taken.taken_rows.Goals as goal
use Rattle.mcf_period_reading.proofs.taken.taken_rows.Goals.{then-place-all+in_ok-insert+in_ok-insert-2, else-place-all}

pub loop-place-preserved : goal.loop-place-preserved
loop-place-preserved c =
    let all = c.args.all.now in
    let place = c.loop-place.place in
    let seen = c.loop-place.invariant.seen in
    let before = c.loop-place.made.items in
    let back : place ≡ place + 1 - 1 = omega arith in
    let value : c.clashes_with_seen.result ≡ is_taken all (place + 1) =
    c.clashes_with_seen.ensures (take place all) seen
    ∙ ap (λ (s : Spot). list_any (clashes s) (take place all)) c.spot_at-spot.ensures
    ∙ ap (λ n. list_any (clashes (spot_at all (place + 1))) (take n all)) back in
    record {
      made = made (is_taken all) 1 place (place + 1) before c.push.new.self.items (omega arith) c.loop-place.invariant.made
          (c.in_ok-push.ensures.items ∙ ap (λ (taken : Bool). before ++ taken ∷ []) value);
      seen = elim c.if-place-all.branch [
        | then-place-all+in_ok-insert+in_ok-insert-2 w ↦
            seen_more all place c.loop-place.places c.loop-place.spots seen c.spot_at-spot.result c.spot_at-spot.ensures
            (omega (arith, w.if-place-all.true)) c.if-place-all.places c.if-place-all.spots
            (λ p. ap (λ m. contains nat_eq m p) w.places-is ∙ w.in_ok-insert.ensures.updates.0 p)
            (λ q. ap (λ m. contains same_key m q) w.spots-is ∙ w.in_ok-insert-2.ensures.updates.0 q)
        | else-place-all w ↦
            seen_all all place c.loop-place.places c.loop-place.spots seen (omega (arith, w.if-place-all.false))
            c.if-place-all.places c.if-place-all.spots w.places-is w.spots-is
      ];
    }
