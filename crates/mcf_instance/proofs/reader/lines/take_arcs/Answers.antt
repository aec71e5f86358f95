use Rattle.std.proofs.lemmas.List.{take_rest}
use Rattle.std.proofs.lemmas.Result.{err_from_is_err_and}
use Rattle.mcf_instance.proofs.TakenArcs.{one_taken, wants_more}
use Rattle.mcf_instance.proofs.reader.lines.take_arcs.Goals as goal

pub returns-in_err-len-clause-wants : goal.returns-in_err-len-clause-wants
returns-in_err-len-clause-wants c =
    let p = err_from_is_err_and c.from_residual.result c.from_residual.ensures.1 in
    rw p.1 (wants_more c.args.state.now c.arcs.state c.args.text.now c.arcs.lines c.arcs.bytes c.arcs.invariant
    (simp take_rest at c.in_err-len.ensures.wants))

pub arcs-preserved : goal.arcs-preserved
arcs-preserved c =
    let took = rw c.in-Some-2.is at c.in_ok-len.ensures.taken in
    one_taken c.args.state.now c.arcs.state c.take_arc.new.self c.args.text.now c.arcs.lines c.arcs.bytes c.in-Some-2.len c.arcs.invariant
    (simp take_rest at took)
