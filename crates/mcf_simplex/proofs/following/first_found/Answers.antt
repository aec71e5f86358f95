use Rattle.mcf_simplex.proofs.Pieces.{passed_one}
use Rattle.mcf_simplex.proofs.following.first_found.Goals as goal

pub pieces-preserved : goal.pieces-preserved
pieces-preserved c =
    passed_one c.args.basis.now c.args.stretch c.args.piece c.args.from c.args.until c.pieces.begin c.block_end-end.result c.pieces.invariant c.pieces-test.true
    c.block_end-end.ensures.value c.in_default.ensures
