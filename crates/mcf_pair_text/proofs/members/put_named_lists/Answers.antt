use Rattle.std.proofs.Common.{rules, codes}
use Rattle.mcf_answer_rows.proofs.RowTexts.{two_put}
use Rattle.mcf_pair_text.specs.MemberRows.{named}
use Rattle.mcf_pair_text.specs.PairPlaces.{person_column, sheet_in, thing_column}
use Rattle.mcf_pair_text.proofs.members.put_named_lists.Goals as goal

pub returns : goal.returns
returns c =
    let s = sheet_in c.args.page in
    two_put c.put_side-2.result c.args.out.now.items c.put_side.new.out.items c.put_side-2.new.out.items
    (named (codes "person") s.rows (person_column s) c.args.table.now.persons) (named (codes "thing") s.rows (thing_column s) c.args.table.now.things)
    (search rules) (search rules)
