use Rattle.std.proofs.Common.{◌∙◌, ap, inl, map, subst, sym}
use Rattle.clap.specs.Words.{HasKind, app_of, fault_of, kind_of}
use Rattle.mcf_plan_asking.proofs.PlanAskedLemmas.{mcfplan_is_free, mcfplan_is_simple, named_rows, refused, same_name, some_app, some_mcfplan}
use Rattle.mcf_plan_asking.proofs.asking.plan_command.Goals as goal

pub returns-in_err-mcfplan : goal.returns-in_err-mcfplan
returns-in_err-mcfplan g c =
    refused _ _ some_app some_mcfplan _ (λ e h taken. h) (λ e h. inl h) c.from_residual.ensures.1

pub returns-in_err-matches : goal.returns-in_err-matches
returns-in_err-matches g c =
    let is_mcfplan = c.in_ok-mcfplan.ensures.app in
    let gave = c.in_err-matches.ensures in
    let had = gave.kinds (mcfplan_is_free _ is_mcfplan) in
    refused _ _ _ is_mcfplan _ (λ e h taken. ap kind_of h ∙ gave.passes taken)
    (λ e h. subst (HasKind (fault_of (app_of c.in_ok-mcfplan.field-0) (map g.W.AsStr.text c.args.words.now))) (sym h) had)
    c.from_residual-in_err-matches.ensures.1

pub returns : goal.returns
returns g c =
    let is_mcfplan = c.in_ok-mcfplan.ensures.app in
    let met = c.in_ok-matches.ensures.matches (mcfplan_is_simple _ is_mcfplan) in
    let named = named_rows _ _ _ (c.in-Some.ensures.name ∙ same_name _) c.in-Some.ensures.rows in
    record {
      app = _;
      is_mcfplan = is_mcfplan;
      asks = record {
        name = _;
        rows = _;
        subcommand = sym met.1 ∙ named;
        is_asked = c.asked_in.ensures;
      };
      taken = tt;
      faults = c.in_ok-matches.ensures.kinds (mcfplan_is_free _ is_mcfplan);
    }
