use Rattle.std.proofs.Common.{◌∙◌, ◌-◌, ℕ, sym, ap, arith}
use Rattle.mcf_reading.proofs.HeadLemmas.{further_is}
use Rattle.mcf_reading.proofs.heads.further_count.Goals as goal

pub returns-then-not-has-clause-count : goal.returns-then-not-has-clause-count
returns-then-not-has-clause-count c =
    further_is c.args.records.now c.saturating_sub-limit.result c.loop-count.count
    (c.saturating_sub-limit.ensures ∙ ap (λ (n : ℕ). n - 4) c.head_count.ensures) (omega arith) c.loop-count.invariant
    (λ below. sym c.in_ok-has.ensures ∙ c.if-not-has.true)

pub returns-clause-count : goal.returns-clause-count
returns-clause-count c =
    further_is c.args.records.now c.saturating_sub-limit.result c.saturating_sub-limit.result
    (c.saturating_sub-limit.ensures ∙ ap (λ (n : ℕ). n - 4) c.head_count.ensures) (omega arith)
    (λ k below. c.loop-count.invariant k (omega (arith, below, c.loop-count-test.false))) (λ below. absurd (omega (arith, below)))
