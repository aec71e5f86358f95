use Rattle.std.proofs.Common.{ap, ap₂, codes, ◌≡◌, ◌∙◌, ◌||◌, false}
use Rattle.std.proofs.lemmas.Result.{IfOk-weaker}
use Rattle.clap.specs.Words.{App, app_of, new_app, with_rule}
use Rattle.clap.specs.Simple.{app_of_fields}
use Rattle.clap.specs.declared.builder.command.Command.TheViews.{out-Command}
use Rattle.mcf_plan_asking.proofs.asking.flow.Goals as goal

pub returns-clause-shape : goal.returns-clause-shape
returns-clause-shape c =
    let mark = c.mark_option.ensures in
    let unused = c.leave_option.ensures in
    let short = c.leave_option-2.ensures in
    let new_is : app_of c.about.result ≡ new_app (codes "flow") = ap app_of_fields c.about.ensures ∙ c.new.ensures.app in
    let one = c.in_ok-arg.ensures.shape mark.local ∙ ap₂ with_rule new_is mark.rule.2 in
    let two = c.in_ok-arg-2.ensures.shape unused.local ∙ ap₂ with_rule one unused.rule.2 in
    let three = c.in_ok-arg-3.ensures.shape short.local ∙ ap₂ with_rule two short.rule.2 in
    let four = c.in_ok-arg-4.ensures.shape c.penalty_option.ensures.local ∙ ap₂ with_rule three c.penalty_option.ensures.rule in
    let ranges = c.answer_option.ensures in
    let five = c.in_ok-arg-5.ensures.shape ranges.local ∙ ap₂ with_rule four ranges.rule.2 in
    let six = c.in_ok-arg-6.ensures.shape c.filling_option.ensures.local ∙ ap₂ with_rule five c.filling_option.ensures.rule in
    let seven = c.in_ok-arg-7.ensures.shape c.table_argument.ensures.local ∙ ap₂ with_rule six c.table_argument.ensures.rule in
    IfOk-weaker c.arg-8.result _ _ (λ r h. record {
      marks = mark.rule.0;
      unused = unused.rule.0;
      short = short.rule.0;
      ranges = ranges.rule.0;
      marks_spelled = mark.rule.1;
      unused_spelled = unused.rule.1;
      short_spelled = short.rule.1;
      ranges_spelled = ranges.rule.1;
      reads = ap (λ (a : App). a.top) (h.shape c.table_argument-2.ensures.local ∙ ap₂ with_rule seven c.table_argument-2.ensures.rule);
    }) c.arg-8.ensures

pub returns-clause-local : goal.returns-clause-local
returns-clause-local c =
    let new_local : (out-Command c.about.result).has_globals ≡ false = ap (λ fields. fields.has_globals) c.about.ensures ∙ c.new.ensures.local in
    let one = c.in_ok-arg.ensures.globals ∙ ap₂ (λ x y. x || y) new_local c.mark_option.ensures.local in
    let two = c.in_ok-arg-2.ensures.globals ∙ ap₂ (λ x y. x || y) one c.leave_option.ensures.local in
    let three = c.in_ok-arg-3.ensures.globals ∙ ap₂ (λ x y. x || y) two c.leave_option-2.ensures.local in
    let four = c.in_ok-arg-4.ensures.globals ∙ ap₂ (λ x y. x || y) three c.penalty_option.ensures.local in
    let five = c.in_ok-arg-5.ensures.globals ∙ ap₂ (λ x y. x || y) four c.answer_option.ensures.local in
    let six = c.in_ok-arg-6.ensures.globals ∙ ap₂ (λ x y. x || y) five c.filling_option.ensures.local in
    let seven = c.in_ok-arg-7.ensures.globals ∙ ap₂ (λ x y. x || y) six c.table_argument.ensures.local in
    IfOk-weaker c.arg-8.result _ _ (λ r h. h.globals ∙ ap₂ (λ x y. x || y) seven c.table_argument-2.ensures.local) c.arg-8.ensures
