use Rattle.std.proofs.Common.{◌≡◌, ◌≤◌, ℕ, ℤ, Ok, inl, sym, ◌∙◌}
use Rattle.std.specs.Bool.{IsTrue}
use Rattle.std.specs.Prelude.{◌↔◌}
use Rattle.std.proofs.lemmas.Result.{IfOk-weaker, on_err_weaker}
use Rattle.mcf_answer.specs.Parsing.{parsing}
use Rattle.mcf_instance.proofs.HeaderNodes.{instance_names_nodes}
use Rattle.mcf_flows.specs.Network.{Network, node_count}
use Rattle.mcf_checker.specs.Correct.{GivesLeastFlow, HasNoFlow, IsCorrect}
use Rattle.mcf_checker.specs.Judging.{accepts, judged, verdict}
use Rattle.mcf_checker.specs.declared.verdict.Verdict.{Verdict}
use Rattle.mcf_checker.specs.declared.verdict.Verdict.TheVariants.{BadShape, Blocked as SetAccepted, Flow as FlowAccepted}
use Rattle.mcf_checker.proofs.Judges.{ParsesExactly, exact_at, least_at, none_at, outcome_reads, verdict_is, verdict_misfit}
use Rattle.mcf_checker.proofs.checking.check.Goals as goal

-- ---- an answer text that is none

pub returns-clause-verdict : goal.returns-clause-verdict
returns-clause-verdict c =
    verdict_misfit c.args.input.now c.args.answer.now c.in-Err.shape (sym c.in-Err.is ∙ c.in_ok-answer.ensures.value)

pub returns-clause-exact : goal.returns-clause-exact
returns-clause-exact c =
    let parses : ParsesExactly c.args.answer.now = rw c.in_ok-answer.ensures.value at c.in_ok-answer.ensures.spelled in
    exact_at c.args.input.now c.args.answer.now (BadShape c.in-Err.shape.line) parses (returns-clause-verdict c)

-- ---- an answer

pub returns-in-Ok-clause-verdict : goal.returns-in-Ok-clause-verdict
returns-in-Ok-clause-verdict c =
    let input = c.args.input.now in
    let text = c.args.answer.now in
    let answer : Ok c.in-Ok.answer ≡ parsing text = sym c.in-Ok.is ∙ c.in_ok-answer.ensures.value in
    let J = λ (v : Verdict). v ≡ judged c.in_ok-outcome.outcome (Ok c.in-Ok.answer) in
    let Q = λ (v : Verdict). v ≡ verdict input text in
    IfOk-weaker c.outcome_verdict.result J Q
    (λ v h. verdict_is input text c.in_ok-outcome.outcome c.in-Ok.answer v c.in_ok-outcome.ensures.exact answer h) c.outcome_verdict.ensures.value

pub returns-in-Ok-clause-exact : goal.returns-in-Ok-clause-exact
returns-in-Ok-clause-exact c =
    let input = c.args.input.now in
    let text = c.args.answer.now in
    let parses : ParsesExactly text = rw c.in_ok-answer.ensures.value at c.in_ok-answer.ensures.spelled in
    let Q = λ (v : Verdict). v ≡ verdict input text in
    IfOk-weaker c.outcome_verdict.result Q (λ (v : Verdict). IsTrue (accepts v) ↔ IsCorrect input text)
    (λ v h. exact_at input text v parses h) (returns-in-Ok-clause-verdict c)

pub returns-in-Ok-clause-least : goal.returns-in-Ok-clause-least
returns-in-Ok-clause-least c =
    let input = c.args.input.now in
    let text = c.args.answer.now in
    let parses : ParsesExactly text = rw c.in_ok-answer.ensures.value at c.in_ok-answer.ensures.spelled in
    let reads = outcome_reads input c.in_ok-outcome.outcome c.in_ok-outcome.ensures.exact c.outcome_verdict.ensures.well_formed in
    let Q = λ (v : Verdict). v ≡ verdict input text in
    IfOk-weaker c.outcome_verdict.result Q (λ (v : Verdict). (total : ℤ) → v ≡ FlowAccepted total → GivesLeastFlow input text total)
    (λ v h. least_at input text v parses reads h) (returns-in-Ok-clause-verdict c)

pub returns-in-Ok-clause-none : goal.returns-in-Ok-clause-none
returns-in-Ok-clause-none c =
    let input = c.args.input.now in
    let text = c.args.answer.now in
    let reads = outcome_reads input c.in_ok-outcome.outcome c.in_ok-outcome.ensures.exact c.outcome_verdict.ensures.well_formed in
    let Q = λ (v : Verdict). v ≡ verdict input text in
    IfOk-weaker c.outcome_verdict.result Q (λ (v : Verdict). (count : ℕ) → v ≡ SetAccepted count → HasNoFlow input)
    (λ v h. none_at input text v reads h) (returns-in-Ok-clause-verdict c)

pub returns-in-Ok-clause-wants : goal.returns-in-Ok-clause-wants
returns-in-Ok-clause-wants c =
    on_err_weaker c.outcome_verdict.result
    (λ some. inl (instance_names_nodes c.args.input.now some.0 (sym c.in_ok-outcome.ensures.exact ∙ some.1) some.2))
    c.outcome_verdict.ensures.wants
