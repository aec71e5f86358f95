use Rattle.std.proofs.Common.{◌≡◌, ◌∙◌, sym, refl, rules, length}
use Rattle.mcf_model.proofs.Proper.{found_iff, proper_from, same_fault}
use Rattle.mcf_model.proofs.plan_model.PlanModel.of.Goals as goal

pub invariant_of-result : goal.invariant_of-result
invariant_of-result c =
    let n : c.len.result ≡ length c.args.supplies.items = search rules in
    (proper_from c.args.supplies.items c.args.steps.items c.args.rows.items
    (sym (same_fault c.args.supplies.items c.args.steps.items c.args.rows.items c.len.result c.deref.result.now c.deref-2.result.now c.model_fault.result
    n c.deref.ensures.value c.deref-2.ensures.value c.model_fault.ensures) ∙ c.in-None.is)).0

pub returns-in-Some-clause-proper : goal.returns-in-Some-clause-proper
returns-in-Some-clause-proper c =
    let n : c.len.result ≡ length c.args.supplies.items = search rules in
    found_iff c.args.supplies.items c.args.steps.items c.args.rows.items c.in-Some.fault
    (sym (same_fault c.args.supplies.items c.args.steps.items c.args.rows.items c.len.result c.deref.result.now c.deref-2.result.now c.model_fault.result
    n c.deref.ensures.value c.deref-2.ensures.value c.model_fault.ensures) ∙ c.in-Some.is)

pub returns-in-None-clause-proper : goal.returns-in-None-clause-proper
returns-in-None-clause-proper c =
    let n : c.len.result ≡ length c.args.supplies.items = search rules in (
      λ e. proper_from c.args.supplies.items c.args.steps.items c.args.rows.items
          (sym (same_fault c.args.supplies.items c.args.steps.items c.args.rows.items c.len.result c.deref.result.now c.deref-2.result.now c.model_fault.result
          n c.deref.ensures.value c.deref-2.ensures.value c.model_fault.ensures) ∙ c.in-None.is),
      λ h. refl,
    )
