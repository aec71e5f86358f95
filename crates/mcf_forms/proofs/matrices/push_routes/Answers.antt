use Rattle.std.proofs.Common.{◌+◌, arith}
use Rattle.mcf_forms.specs.Matrices.{route_in}
use Rattle.mcf_forms.proofs.Ranges.{pushed}
use Rattle.mcf_forms.proofs.matrices.push_routes.Goals as goal

pub loop-place-preserved : goal.loop-place-preserved
loop-place-preserved c =
    let place = c.loop-place.place in
    pushed (route_in c.args.routes.now c.args.row) 1 place (place + 1) c.args.made.now c.loop-place.made c.push_route.new.made (omega arith)
    c.loop-place.invariant c.in_ok-push_route.ensures
