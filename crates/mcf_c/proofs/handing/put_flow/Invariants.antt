use Rattle.std.proofs.Common.{◌≡◌, length, map, take}
use Rattle.mcf_answer.specs.declared.answers.Sent.{Sent}
use Rattle.mcf_c.proofs.handing.put_flow.Given as goal

abbrev pub invariant-loop-i : goal.invariant-loop-i
invariant-loop-i l = record {
  same : length l.room ≡ length l.sent;
  written : take l.i l.room ≡ take l.i (map (λ (s : Sent). s.flow) l.sent);
}
