use Rattle.std.proofs.Common.{sym}
use Rattle.std.proofs.lemmas.Bool.{eqb-true}
use Rattle.std.proofs.lemmas.Int.{to_z-of_z}
use Rattle.mcf_answer.proofs.Grows.{with_price_fits}
use Rattle.mcf_answer.proofs.answers.FlowAnswer.take_price.Goals as goal

pub invariant_of-self-then-is_next : goal.invariant_of-self-then-is_next
invariant_of-self-then-is_next c =
    rw (c.in_ok-push.ensures.ok, to_z-of_z _ _ c.ranges.price) (with_price_fits (record { cost = c.self.inside.cost; sent = c.self.inside.sent; prices = c.self.inside.prices }) _ _
    c.self.invariant c.requires.node c.requires.amount (eqb-true _ _ (sym c.if-is_next.ensures)))
