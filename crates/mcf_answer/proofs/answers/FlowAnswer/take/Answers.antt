use Rattle.std.proofs.Common.{sym}
use Rattle.mcf_answer.proofs.Grows.{with_sent_fits}
use Rattle.mcf_answer.proofs.answers.FlowAnswer.take.Goals as goal

pub invariant_of-self-in-Some : goal.invariant_of-self-in-Some
invariant_of-self-in-Some c =
    rw c.in_ok-push.ensures.ok (with_sent_fits (record { cost = c.self.inside.cost; sent = c.self.inside.sent; prices = c.self.inside.prices }) _ _
    c.self.invariant (sym c.in-Some.ensures))
