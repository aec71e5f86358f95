use Rattle.std.proofs.Common.{rules}
use Rattle.mcf_answer_rows.proofs.RowTexts.{two_put}
use Rattle.mcf_pair_text.specs.MemberRows.{member_persons, member_things}
use Rattle.mcf_pair_text.specs.PairPlaces.{sheet_in}
use Rattle.mcf_pair_text.proofs.members.put_member_lists.Goals as goal

pub returns : goal.returns
returns c =
    let s = sheet_in c.args.page in
    two_put c.put_competing_things.result c.args.out.now.items c.put_competing_persons.new.out.items c.put_competing_things.new.out.items
    (member_persons s c.args.table.now c.args.found.now) (member_things s c.args.table.now c.args.found.now) (search rules) (search rules)
