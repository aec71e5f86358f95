use Rattle.std.proofs.Common.{rules, ◌≡◌, ◌++◌, codes, OnOk}
use Rattle.mcf_answer_rows.specs.AnswerRows.{number_row}
use Rattle.mcf_answer_rows.specs.Lines.{row_line}
use Rattle.mcf_places.specs.Planners.{all_given, all_wanted}
use Rattle.mcf_plan_rows.specs.Cells.{amount_text}
use Rattle.mcf_plan_rows.proofs.TableTexts.{pair_put}
use Rattle.mcf_plan_rows.proofs.plan_rows.put_balance.Goals as goal

pub returns : goal.returns
returns c =
    let a = row_line (number_row (codes "supply") (amount_text c.args.scales (all_given c.args.planner.now.places))) in
    let b = row_line (number_row (codes "demand") (amount_text c.args.scales (all_wanted c.args.planner.now.places))) in
    let first : c.put_number_row.new.out.items ≡ c.args.out.now.items ++ a = search rules in
    let second : OnOk c.put_number_row-2.result (c.put_number_row-2.new.out.items ≡ c.put_number_row.new.out.items ++ b) = search rules in
    pair_put c.put_number_row-2.result _ _ _ a b first second
