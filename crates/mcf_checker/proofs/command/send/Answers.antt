use Rattle.std.proofs.Common.{arith, ℕ, length-drop}
use Rattle.std.proofs.lemmas.List.{take_rest}
use Rattle.mcf_checker.proofs.Sent.{appends-piece, begins}
use Rattle.mcf_checker.proofs.command.send.Goals as goal

pub writes-preserved : goal.writes-preserved
writes-preserved g c = record {
  in_range = omega (arith, rw take_rest at c.in-Ok.ensures.bound, length-drop {A = ℕ});
  appended = appends-piece _ _ _ _ _ _ c.writes.invariant.appended c.in-Ok.ensures.bytes;
}

pub returns-in-Err-clause-beginning : goal.returns-in-Err-clause-beginning
returns-in-Err-clause-beginning g c = begins _ _ _ _ _ c.writes.invariant.appended c.in-Err.ensures.bytes
