use Rattle.std.proofs.Common.{rules, ap, ap₂, codes, ◌≡◌, ◌∙◌, ◌||◌, false}
use Rattle.std.proofs.lemmas.Result.{IfOk-weaker}
use Rattle.clap.specs.Words.{App, app_of, new_app, with_rule}
use Rattle.clap.specs.Simple.{app_of_fields}
use Rattle.clap.specs.declared.builder.command.Command.TheViews.{out-Command}
use Rattle.mcf_plan_asking.proofs.asking.pairs.Goals as goal

pub returns-clause-shape : goal.returns-clause-shape
returns-clause-shape c =
    let mark = c.mark_option.ensures in
    let each = c.each_option.ensures in
    let maximise = c.answer_option.ensures in
    let new_is : app_of c.about.result ≡ new_app (codes "pairs") = ap app_of_fields c.about.ensures ∙ c.new.ensures.app in
    let one = c.in_ok-arg.ensures.shape mark.local ∙ ap₂ with_rule new_is mark.rule.2 in
    let two = c.in_ok-arg-2.ensures.shape each.local ∙ ap₂ with_rule one each.rule.2 in
    let three = c.in_ok-arg-3.ensures.shape maximise.local ∙ ap₂ with_rule two maximise.rule.2 in
    let four = c.in_ok-arg-4.ensures.shape c.groups_option.ensures.local ∙ ap₂ with_rule three c.groups_option.ensures.rule in
    let crossing = c.crossing_option.ensures in
    let five = c.in_ok-arg-5.ensures.shape crossing.local ∙ ap₂ with_rule four crossing.rule.2 in
    let six = c.in_ok-arg-6.ensures.shape c.filling_option.ensures.local ∙ ap₂ with_rule five c.filling_option.ensures.rule in
    IfOk-weaker c.arg-7.result _ _ (λ r h. record {
      marks = mark.rule.0;
      each = each.rule.0;
      maximise = maximise.rule.0;
      crossing = crossing.rule.0;
      marks_spelled = mark.rule.1;
      each_spelled = each.rule.1;
      maximise_spelled = maximise.rule.1;
      crossing_spelled = crossing.rule.1;
      reads = ap (λ (a : App). a.top) (h.shape c.table_argument.ensures.local ∙ ap₂ with_rule six c.table_argument.ensures.rule);
    }) c.arg-7.ensures

pub returns-clause-local : goal.returns-clause-local
returns-clause-local c =
    let new_local : (out-Command c.about.result).has_globals ≡ false = search rules in
    let one = c.in_ok-arg.ensures.globals ∙ ap₂ (λ x y. x || y) new_local c.mark_option.ensures.local in
    let two = c.in_ok-arg-2.ensures.globals ∙ ap₂ (λ x y. x || y) one c.each_option.ensures.local in
    let three = c.in_ok-arg-3.ensures.globals ∙ ap₂ (λ x y. x || y) two c.answer_option.ensures.local in
    let four = c.in_ok-arg-4.ensures.globals ∙ ap₂ (λ x y. x || y) three c.groups_option.ensures.local in
    let five = c.in_ok-arg-5.ensures.globals ∙ ap₂ (λ x y. x || y) four c.crossing_option.ensures.local in
    let six = c.in_ok-arg-6.ensures.globals ∙ ap₂ (λ x y. x || y) five c.filling_option.ensures.local in
    IfOk-weaker c.arg-7.result _ _ (λ r h. h.globals ∙ ap₂ (λ x y. x || y) six c.table_argument.ensures.local) c.arg-7.ensures
