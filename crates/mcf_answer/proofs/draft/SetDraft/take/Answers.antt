use Rattle.std.proofs.Common.{◌<◌, length, arith, sym}
use Rattle.mcf_answer.proofs.Grows.{with_member_fits}
use Rattle.mcf_answer.proofs.draft.SetDraft.take.Goals as goal

pub invariant_of-self-then-is_below : goal.invariant_of-self-then-is_below
invariant_of-self-then-is_below c =
    let room : length c.self.inside.nodes < c.self.inside.count = omega (arith, c.len.ensures, c.if-len-self.true) in
    rw c.in_ok-push.ensures.ok (with_member_fits (record { side = c.self.inside.side; count = c.self.inside.count; nodes = c.self.inside.nodes }) _ _
    c.self.invariant (sym c.in-Some.ensures) room (sym c.if-is_below.ensures))
