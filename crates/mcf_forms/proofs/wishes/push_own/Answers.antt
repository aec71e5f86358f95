use Rattle.std.proofs.Common.{ℕ, List, Bor, map, arith}
use Rattle.mcf_forms.specs.Wishes.{own_at}
use Rattle.mcf_forms.proofs.Ranges.{pushed}
use Rattle.mcf_forms.proofs.wishes.push_own.Goals as goal

pub loop-place-preserved : goal.loop-place-preserved
loop-place-preserved c =
    let place = c.loop-place.place in
    let read = λ (cell : Bor (List ℕ)). cell.now in
    pushed (own_at c.args.sheet.now c.args.row) 0 place place (map read c.args.made.now.items) (map read c.loop-place.made.items)
    (map read c.push_cell.new.made.items) (omega arith) c.loop-place.invariant c.in_ok-push_cell.ensures
