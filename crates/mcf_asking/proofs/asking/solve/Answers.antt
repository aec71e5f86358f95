use Rattle.std.proofs.Common.{rules, ap, ap₂, codes, ◌≡◌, ◌∙◌, ◌||◌, false}
use Rattle.std.proofs.lemmas.Result.{IfOk-weaker}
use Rattle.clap.specs.Words.{App, app_of, new_app, with_rule}
use Rattle.clap.specs.Simple.{app_of_fields}
use Rattle.clap.specs.declared.builder.command.Command.TheViews.{out-Command}
use Rattle.mcf_asking.proofs.asking.solve.Goals as goal

pub returns-clause-shape : goal.returns-clause-shape
returns-clause-shape c =
    let engine = c.engine_option.ensures in
    let pricing = c.pricing_option.ensures in
    let form = c.form_option.ensures in
    let new_is : app_of c.after_help.result ≡ new_app (codes "solve") =
    ap app_of_fields c.after_help.ensures ∙ ap app_of_fields c.about.ensures ∙ c.new.ensures.app in
    let one = c.in_ok-arg.ensures.shape engine.local ∙ ap₂ with_rule new_is engine.rule.2 in
    let two = c.in_ok-arg-2.ensures.shape pricing.local ∙ ap₂ with_rule one pricing.rule.2 in
    let three = c.in_ok-arg-3.ensures.shape c.block_option.ensures.local ∙ ap₂ with_rule two c.block_option.ensures.rule in
    let four = c.in_ok-arg-4.ensures.shape form.local ∙ ap₂ with_rule three form.rule.2 in
    IfOk-weaker c.arg-5.result _ _ (λ r h. record {
      engines = engine.rule.0;
      pricings = pricing.rule.0;
      forms = form.rule.0;
      engines_spelled = engine.rule.1;
      pricings_spelled = pricing.rule.1;
      forms_spelled = form.rule.1;
      reads = ap (λ (a : App). a.top) (h.shape c.file_argument.ensures.local ∙ ap₂ with_rule four c.file_argument.ensures.rule);
    }) c.arg-5.ensures

pub returns-clause-local : goal.returns-clause-local
returns-clause-local c =
    let new_local : (out-Command c.after_help.result).has_globals ≡ false = search rules in
    let one = c.in_ok-arg.ensures.globals ∙ ap₂ (λ x y. x || y) new_local c.engine_option.ensures.local in
    let two = c.in_ok-arg-2.ensures.globals ∙ ap₂ (λ x y. x || y) one c.pricing_option.ensures.local in
    let three = c.in_ok-arg-3.ensures.globals ∙ ap₂ (λ x y. x || y) two c.block_option.ensures.local in
    let four = c.in_ok-arg-4.ensures.globals ∙ ap₂ (λ x y. x || y) three c.form_option.ensures.local in
    IfOk-weaker c.arg-5.result _ _ (λ r h. h.globals ∙ ap₂ (λ x y. x || y) four c.file_argument.ensures.local) c.arg-5.ensures
