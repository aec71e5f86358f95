use Rattle.std.proofs.lemmas.Result.{err_from_is_err_and}
use Rattle.mcf_instance.proofs.TakenArcs.{pieces_read, pieces_want}
use Rattle.mcf_instance.proofs.reader.pieces.pop_arcs.Goals as goal

pub returns-clause-read : goal.returns-clause-read
returns-clause-read c = λ text h.
    pieces_read text c.args.lines.now _ c.args.state.now _ _ _ c.pop_lines.ensures (rw c.rest.ensures at c.in_ok-run.ensures.read) h

pub returns-in_err-run-clause-wants : goal.returns-in_err-run-clause-wants
returns-in_err-run-clause-wants c =
    let p = err_from_is_err_and c.from_residual.result c.from_residual.ensures.1 in
    rw p.1 (λ text h. pieces_want text c.args.lines.now c.args.state.now (rw c.rest.ensures at c.in_err-run.ensures.wants) h)
