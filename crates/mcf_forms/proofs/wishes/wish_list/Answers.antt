use Rattle.std.proofs.Common.{◌∷◌, [], ◌+◌, arith}
use Rattle.mcf_forms.specs.Wishes.{person_rows, wish_heads}
use Rattle.mcf_forms.proofs.Ranges.{pushed}
use Rattle.mcf_forms.proofs.wishes.wish_list.Goals as goal

pub loop-row-preserved : goal.loop-row-preserved
loop-row-preserved c =
    let row = c.loop-row.row in
    pushed (person_rows c.args.sheet.now) 1 row (row + 1) (wish_heads c.args.sheet.now ∷ []) c.loop-row.made c.push_person.new.made (omega arith)
    c.loop-row.invariant c.in_ok-push_person.ensures
