use Rattle.std.proofs.Common.{◌≡◌, ◌∙◌, ◌+◌, ◌++◌, ◌∷◌, [], ℕ, List, Bool, cond, length, sym, ap, arith}
use Rattle.std.specs.Prelude.{filter}
use Rattle.std.specs.List.{range_with_len}
use Rattle.mcf_reading.proofs.Ranges.{made}
use Rattle.mcf_period_units.specs.Numbering.{names_first, place_number_of}
use Rattle.mcf_period_units.proofs.Pieces.{filter_more}
use Rattle.mcf_period_units.proofs.numbering.number_places.Goals as goal

pub loop-place-preserved : goal.loop-place-preserved
loop-place-preserved c =
    let times = c.args.times.now in
    let place = c.loop-place.place in
    let firsts : c.push_if.new.made.items ≡ filter (names_first times) (range_with_len 1 (place + 1)) =
    c.in_ok-push_if.ensures
    ∙ ap (λ (xs : List ℕ). xs ++ cond c.names_first.result ((place + 1) ∷ []) []) c.loop-place.invariant.firsts
    ∙ ap (λ (b : Bool). filter (names_first times) (range_with_len 1 place) ++ cond b ((place + 1) ∷ []) []) c.names_first.ensures
    ∙ sym (filter_more (names_first times) place) in
    record {
      firsts = firsts;
      numbers = made (place_number_of times) 1 place (place + 1) c.loop-place.numbers.items c.push.new.self.items (omega arith) c.loop-place.invariant.numbers
          (c.in_ok-push.ensures.items ∙ ap (λ (n : ℕ). c.loop-place.numbers.items ++ n ∷ []) (ap length (c.as_slice.ensures.value ∙ firsts)));
    }
