use Rattle.std.proofs.Common.{◌∷◌, [], ◌+◌, arith}
use Rattle.mcf_forms.specs.Matrices.{heads_row, row_routes}
use Rattle.mcf_forms.proofs.Ranges.{pushed}
use Rattle.mcf_forms.proofs.matrices.listed.Goals as goal

pub loop-row-preserved : goal.loop-row-preserved
loop-row-preserved c =
    let row = c.loop-row.row in
    pushed (row_routes c.args.routes.now) 1 row (row + 1) (heads_row c.args.routes.now ∷ []) c.loop-row.made c.push_routes.new.made (omega arith)
    c.loop-row.invariant c.in_ok-push_routes.ensures
