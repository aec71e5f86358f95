use Rattle.std.proofs.Common.{◌∙◌, ap, codes, inl, map, subst, sym}
use Rattle.clap.proofs.WalkLemmas.{first_value-rows}
use Rattle.clap.specs.Words.{HasKind, app_of, fault_of, found_of, kind_of}
use Rattle.mcf_asking.specs.Asking.{block_by, engine_by, form_by, pricing_by}
use Rattle.mcf_asking.proofs.AskedLemmas.{mcf_is_free, mcf_is_simple, named_rows, refused, some_app, some_mcf}
use Rattle.mcf_asking.proofs.asking.command.Goals as goal

pub returns-in_err-mcf : goal.returns-in_err-mcf
returns-in_err-mcf g c =
    refused _ _ some_app some_mcf _ (λ e h taken. h) (λ e h. inl h) c.from_residual.ensures.1

pub returns-in_err-matches : goal.returns-in_err-matches
returns-in_err-matches g c =
    let is_mcf = c.in_ok-mcf.ensures.app in
    let gave = c.in_err-matches.ensures in
    let had = gave.kinds (mcf_is_free _ is_mcf) in
    refused _ _ _ is_mcf _ (λ e h taken. ap kind_of h ∙ gave.passes taken)
    (λ e h. subst (HasKind (fault_of (app_of c.in_ok-mcf.field-0) (map g.W.AsStr.text c.args.words.now))) (sym h) had)
    c.from_residual-in_err-matches.ensures.1

pub returns : goal.returns
returns g c =
    let is_mcf = c.in_ok-mcf.ensures.app in
    let met = c.in_ok-matches.ensures.matches (mcf_is_simple _ is_mcf) in
    let found = found_of c.in-Some.solve.now in
    let named = named_rows _ _ c.in-Some.ensures.rows in
    record {
      app = _;
      is_mcf = is_mcf;
      asks = record {
        name = named.0;
        rows = _;
        subcommand = sym met.1 ∙ named.1;
        engine = c.engine_of.ensures ∙ ap engine_by (c.get_str.ensures ∙ first_value-rows found (codes "engine"));
        pricing = c.pricing_of.ensures ∙ ap pricing_by (c.get_str-2.ensures ∙ first_value-rows found (codes "pricing"));
        block = c.block_of.ensures ∙ ap block_by (c.get_str-3.ensures ∙ first_value-rows found (codes "block"));
        form = c.form_of.ensures ∙ ap form_by (c.get_str-4.ensures ∙ first_value-rows found (codes "form"));
        file = c.get_str-5.ensures ∙ first_value-rows found (codes "file");
      };
      taken = tt;
      faults = c.in_ok-matches.ensures.kinds (mcf_is_free _ is_mcf);
    }
