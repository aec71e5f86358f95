use Rattle.std.proofs.Common.{◌∙◌, ap, codes}
use Rattle.clap.proofs.WalkLemmas.{first_value-rows}
use Rattle.clap.specs.Words.{found_of}
use Rattle.mcf_plan_asking.specs.PlanAsking.{answer_by, leave_by, mark_by}
use Rattle.mcf_plan_asking.proofs.asking.flow_in.Goals as goal

pub returns : goal.returns
returns c =
    let found = found_of c.args.found.now in
    record {
      mark = c.mark_of.ensures ∙ ap mark_by (c.get_str.ensures ∙ first_value-rows found (codes "decimal"));
      unused = c.leave_of.ensures ∙ ap leave_by (c.get_str-2.ensures ∙ first_value-rows found (codes "unused"));
      short = c.leave_of-2.ensures ∙ ap leave_by (c.get_str-3.ensures ∙ first_value-rows found (codes "short"));
      penalty = c.get_str-4.ensures ∙ first_value-rows found (codes "penalty");
      ranges = c.answer_of.ensures ∙ ap answer_by (c.get_str-5.ensures ∙ first_value-rows found (codes "ranges"));
      fill_down = c.get_str-6.ensures ∙ first_value-rows found (codes "fill-down");
      places = c.get_str-7.ensures ∙ first_value-rows found (codes "places");
      routes = c.get_str-8.ensures ∙ first_value-rows found (codes "routes");
    }
