use Rattle.std.proofs.Common.{◌∙◌, ◌++◌, ◌∷◌, [], ◌+◌, ℕ, List, sym, ap, arith}
use Rattle.mcf_roster_reading.proofs.Ranges.{range_more}
use Rattle.mcf_pair_tables.proofs.grouping.all_numbers.Goals as goal

pub loop-place-preserved : goal.loop-place-preserved
loop-place-preserved c =
    let place = c.loop-place.place in
    c.in_ok-push.ensures.items ∙ ap (λ (xs : List ℕ). xs ++ (place + 1) ∷ []) c.loop-place.invariant
    ∙ sym (range_more 1 place (place + 1) (omega arith))
