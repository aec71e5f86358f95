use Rattle.mcf_answer_rows.proofs.filled.put_lacking_head.Goals as goal

pub returns : goal.returns
returns c = rw (c.deref.ensures.value, c.in_ok-cell.ensures) at c.put_fault.ensures
