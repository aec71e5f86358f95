use Rattle.mcf_suite.proofs.ServedLemmas.{failed_once, run_failed}
use Rattle.mcf_suite.proofs.serving.answer_from.Goals as goal

pub returns-in_err-kind-clause-failed : goal.returns-in_err-kind-clause-failed
returns-in_err-kind-clause-failed g c =
    let ends = c.in_err-kind.ensures in
    run_failed _ _ _ c.in_err-kind.field-0.0 c.from_residual.result _ _ c.from_residual.ensures.1 ends.read_failed ends.too_long
    (λ e. (ends.write_failed e, record { whole = ends.whole_if_begun e; sent = ends.beginning e })) ends.untouched

pub returns-in_err-kind-clause-failed_once : goal.returns-in_err-kind-clause-failed_once
returns-in_err-kind-clause-failed_once g c =
    let ends = c.in_err-kind.ensures in
    failed_once _ _ c.in_err-kind.field-0.0 ends.read_failed ends.unfailed_otherwise
