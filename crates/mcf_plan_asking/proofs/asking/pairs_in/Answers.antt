use Rattle.std.proofs.Common.{◌∙◌, ap, codes}
use Rattle.clap.proofs.WalkLemmas.{first_value-rows}
use Rattle.clap.specs.Words.{found_of}
use Rattle.mcf_plan_asking.specs.PlanAsking.{answer_by, crossing_by, each_by, mark_by}
use Rattle.mcf_plan_asking.proofs.asking.pairs_in.Goals as goal

pub returns : goal.returns
returns c =
    let found = found_of c.args.found.now in
    record {
      mark = c.mark_of.ensures ∙ ap mark_by (c.get_str.ensures ∙ first_value-rows found (codes "decimal"));
      each = c.each_of.ensures ∙ ap each_by (c.get_str-2.ensures ∙ first_value-rows found (codes "each"));
      maximise = c.answer_of.ensures ∙ ap answer_by (c.get_str-3.ensures ∙ first_value-rows found (codes "maximise"));
      groups = c.get_str-4.ensures ∙ first_value-rows found (codes "groups");
      check = c.crossing_of.ensures ∙ ap crossing_by (c.get_str-5.ensures ∙ first_value-rows found (codes "crossing"));
      fill_down = c.get_str-6.ensures ∙ first_value-rows found (codes "fill-down");
      costs = c.get_str-7.ensures ∙ first_value-rows found (codes "costs");
    }
