use Rattle.std.proofs.Common.{sym}
use Rattle.mcf_answer.proofs.Grows.{with_moved_fits}
use Rattle.mcf_answer.proofs.answers.SparseAnswer.take_moved.Goals as goal

pub invariant_of-self-then-is_empty : goal.invariant_of-self-then-is_empty
invariant_of-self-then-is_empty c =
    rw c.in_ok-push.ensures.ok (with_moved_fits (record { cost = c.self.inside.cost; moved = c.self.inside.moved; prices = c.self.inside.prices }) _
    c.self.invariant c.requires.in_range (sym c.if-is_below.ensures))
