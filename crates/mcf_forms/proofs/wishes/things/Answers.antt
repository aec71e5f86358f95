use Rattle.std.proofs.Common.{◌+◌, [], ℕ, List, Bor, map, arith}
use Rattle.mcf_forms.specs.Wishes.{things_in}
use Rattle.mcf_forms.proofs.Ranges.{pushed}
use Rattle.mcf_forms.proofs.wishes.things.Goals as goal

pub loop-row-preserved : goal.loop-row-preserved
loop-row-preserved c =
    let row = c.loop-row.row in
    let read = λ (cell : Bor (List ℕ)). cell.now in
    pushed (things_in c.args.sheet.now) 1 row (row + 1) [] (map read c.loop-row.made.items) (map read c.push_things.new.made.items) (omega arith)
    c.loop-row.invariant c.in_ok-push_things.ensures
